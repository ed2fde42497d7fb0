-- Lists of slots: how many hold something, and what a change of one of them does.
use Rattle.std.proofs.Common.{◌≡◌, ◌≢◌, ℕ, ◌+◌, ◌<◌, ◌≤◌, Bool, true, false, not, Option, Some, None, List, [], ◌∷◌, ◌++◌, length, get_or, slice_get, refl, ap, arith, cond, count_by, position, nat_eq, zero, suc, lit≤}
use Rattle.std.specs.List.{list_any, list_all, position_or_len}
use Rattle.std.proofs.Math.ListN.{set}
use Rattle.std.proofs.lemmas.Grind.{common_steps}
use Rattle.std.proofs.lemmas.List.Sums.{sum_by-set, get_or-le-sum_by}
use Rattle.ep_table.specs.declared.table.Seat.{Seat}
use Rattle.ep_table.specs.Sessions.{is_of, is_live_as, is_given}

-- Where nothing passes no place is found.
pub none_passes : {X : Type 0} (p : X → Bool) (xs : List X) → count_by p xs ≡ 0 → list_any p xs ≡ false
none_passes p [] e = refl
none_passes p (x ∷ xs) e = grind (arith, common_steps, none_passes p xs)

-- What passes and what does not make the whole list.
pub count-not : {X : Type 0} (p : X → Bool) (xs : List X) → count_by p xs + count_by (λ x. not (p x)) xs ≡ length xs
count-not p [] = refl
count-not p (x ∷ xs) = grind (arith, common_steps, count-not p xs)

-- Only ids before the next were given.
pub none_ahead : (next : ℕ) (seats : List (Option Seat)) → list_all (is_given next) seats ≡ true → count_by (is_of next) seats ≡ 0
none_ahead next [] h = refl
none_ahead next (None ∷ seats) h = grind (arith, common_steps, none_ahead next seats)
none_ahead next (Some seat ∷ seats) h = grind (arith, common_steps, none_ahead next seats)

-- What was given stays given.
pub given_more : (next : ℕ) (seats : List (Option Seat)) → list_all (is_given next) seats ≡ true → list_all (is_given (next + 1)) seats ≡ true
given_more next [] h = refl
given_more next (None ∷ seats) h = grind (arith, common_steps, given_more next seats)
given_more next (Some seat ∷ seats) h = grind (arith, common_steps, given_more next seats)

-- A list that passes still does where one more that passes takes a place.
pub list_all-set : {X : Type 0} (p : X → Bool) (xs : List X) (i : ℕ) (y : X) → list_all p xs ≡ true → p y ≡ true → list_all p (set xs i y) ≡ true
list_all-set p [] i y h g = refl
list_all-set p (x ∷ xs) zero y h g = grind (arith, common_steps)
list_all-set p (x ∷ xs) (suc i) y h g = grind (arith, common_steps, list_all-set p xs i y)

-- What each of a list passes, one of them does.
pub list_all-at : {X : Type 0} (p : X → Bool) (xs : List X) (i : ℕ) (d : X) → list_all p xs ≡ true → i < length xs → p (get_or xs i d) ≡ true
list_all-at p [] i d h l = absurd (omega arith)
list_all-at p (x ∷ xs) zero d h l = grind (arith, common_steps)
list_all-at p (x ∷ xs) (suc i) d h l = grind (arith, common_steps, list_all-at p xs i d)

-- How a count changes where one place does.
pub count-set : {X : Type 0} (p : X → Bool) (xs : List X) (i : ℕ) (y d : X) → i < length xs →
    count_by p (set xs i y) + cond (p (get_or xs i d)) 1 0 ≡ count_by p xs + cond (p y) 1 0
count-set p xs i y d l = sum_by-set (λ x. cond (p x) 1 0) xs i y d l

-- What is found counts.
pub counts_one : {X : Type 0} (p : X → Bool) (xs : List X) (i : ℕ) (d : X) → i < length xs → p (get_or xs i d) ≡ true → 1 ≤ count_by p xs
counts_one p xs i d l h =
    let le : cond (p (get_or xs i d)) 1 0 ≤ count_by p xs = get_or-le-sum_by (λ x. cond (p x) 1 0) xs i d l in
    grind (arith, common_steps)

-- A first part in which nothing passes, as long as the list.
pub count_none : {X : Type 0} (p : X → Bool) (xs : List X) → length xs ≤ position_or_len p xs → count_by p xs ≡ 0
count_none p [] h = refl
count_none p (x ∷ xs) h = grind (arith, common_steps, count_none p xs)

-- Where no place is found nothing passes.
pub position-None : {X : Type 0} (p : X → Bool) (xs : List X) → position p xs ≡ None → count_by p xs ≡ 0
position-None p xs h = count_none p xs (grind (arith, common_steps))

-- At most as many pass the narrower test.
pub live-le-of : (id : ℕ) (seats : List (Option Seat)) → count_by (is_live_as id) seats ≤ count_by (is_of id) seats
live-le-of id [] = lit≤ tt
live-le-of id (None ∷ seats) = grind (arith, common_steps, live-le-of id seats)
live-le-of id (Some seat ∷ seats) = grind (arith, common_steps, live-le-of id seats)

-- A live session of this id has no other.
pub same_id : (id other : ℕ) (seat : Option Seat) → is_live_as id seat ≡ true → is_of other seat ≡ nat_eq id other
same_id id other None h = grind (arith, common_steps)
same_id id other (Some seat) h = grind (arith, common_steps)

-- The id of a live session was given.
pub given_id : (id next : ℕ) (seat : Option Seat) (live : Bool) → is_live_as id seat ≡ true → is_given next seat ≡ true →
    is_given next (Some (record { id = id; live = live })) ≡ true
given_id id next None live h g = grind (arith, common_steps)
given_id id next (Some seat) live h g = grind (arith, common_steps)

-- The next id makes a count of at most one.
pub next_is_new : (next id : ℕ) (seats : List (Option Seat)) → list_all (is_given next) seats ≡ true → count_by (is_of id) seats ≤ 1 →
    count_by (is_of id) seats + cond (nat_eq next id) 1 0 ≤ 1
next_is_new next id seats g once = let zero_of : count_by (is_of next) seats ≡ 0 = none_ahead next seats g in grind (arith, common_steps)

-- What stands in a list stands there in a longer one.
pub get-append : {X : Type 0} (xs ys : List X) (i : ℕ) (x : X) → slice_get xs i ≡ Some x → slice_get (xs ++ ys) i ≡ Some x
get-append [] ys i x is = cc
get-append (z ∷ zs) ys zero x is = is
get-append (z ∷ zs) ys (suc i) x is = get-append zs ys i x is

-- A place that was written has what was written.
pub get-set : {X : Type 0} (xs : List X) (i : ℕ) (y : X) → i < length xs → slice_get (set xs i y) i ≡ Some y
get-set [] i y within = absurd (omega arith)
get-set (x ∷ xs) zero y within = refl
get-set (x ∷ xs) (suc i) y within = get-set xs i y (omega arith)

-- Another place has what it had.
pub get-set_other : {X : Type 0} (xs : List X) (i k : ℕ) (y : X) → k ≢ i → slice_get (set xs i y) k ≡ slice_get xs k
get-set_other [] i k y off = refl
get-set_other (x ∷ xs) zero zero y off = absurd (off refl)
get-set_other (x ∷ xs) zero (suc k) y off = refl
get-set_other (x ∷ xs) (suc i) zero y off = refl
get-set_other (x ∷ xs) (suc i) (suc k) y off = get-set_other xs i k y (λ e. off (ap suc e))
