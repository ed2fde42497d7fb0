-- The table stays numbered.
use Rattle.std.proofs.Common.{◌≡◌, ℕ, ◌+◌, ◌<◌, ◌≤◌, true, false, Option, Some, None, List, [], ◌∷◌, length, get_or, refl, ◌∙◌, arith, cond, count_by, position, is_some, slice_get, zero, suc}
use Rattle.std.specs.List.{list_any, list_all}
use Rattle.std.proofs.Math.ListN.{set, length-set}
use Rattle.std.proofs.lemmas.Grind.{common_steps}
use Rattle.std.proofs.lemmas.List.Quantifiers.{position-Some}
use Rattle.std.proofs.lemmas.List.Folds.{list_any_at}
use Rattle.ep_table.specs.declared.table.Seat.{Seat}
use Rattle.ep_table.specs.Sessions.{Sessions, AreNumbered, is_of, is_live_as, is_given, is_free, holds}
use Rattle.ep_table.proofs.Places.{none_passes, count-not, given_more, list_all-set, list_all-at, count-set, counts_one, position-None, live-le-of, same_id, given_id, next_is_new}

-- A change of one place to a seat whose id is given, and which no other place has, keeps the table numbered.
pub numbered-set : (s : Sessions) (next slot : ℕ) (seat : Option Seat) → AreNumbered s → slot < length s.seats → s.next ≤ next →
    list_all (is_given next) s.seats ≡ true → is_given next seat ≡ true →
    ((id : ℕ) → count_by (is_of id) s.seats + cond (is_of id seat) 1 0 ≤ 1 + cond (is_of id (get_or s.seats slot None)) 1 0) →
    AreNumbered (record { seats = set s.seats slot seat; next = next })
numbered-set s next slot seat n l le given is apart = record {
  places = length-set s.seats slot seat ∙ n.places;
  first = let f : 0 < s.next = n.first in omega arith;
  given = list_all-set (is_given next) s.seats slot seat given is;
  once = λ id. omega (arith, count-set (is_of id) s.seats slot seat None l, apart id);
}

-- The table stays numbered where the next session takes a free slot.
pub numbered-accept : (s : Sessions) (slot : ℕ) → AreNumbered s → position is_free s.seats ≡ Some slot
    → AreNumbered (record { seats = set s.seats slot (Some (record { id = s.next; live = true })); next = s.next + 1 })
numbered-accept s slot n h =
    let found = position-Some is_free s.seats slot None h in
    numbered-set s (s.next + 1) slot (Some (record { id = s.next; live = true })) n found.0 (omega arith) (given_more s.next s.seats n.given)
    (let f : 0 < s.next = n.first in grind (arith, common_steps))
    (λ id. omega (arith, next_is_new s.next id s.seats n.given (n.once id)))

-- It stays so where a live session is stopped.
pub numbered-stop : (s : Sessions) (id slot : ℕ) → AreNumbered s → position (is_live_as id) s.seats ≡ Some slot
    → AreNumbered (record { seats = set s.seats slot (Some (record { id = id; live = false })); next = s.next })
numbered-stop s id slot n h =
    let found = position-Some (is_live_as id) s.seats slot None h in
    numbered-set s s.next slot (Some (record { id = id; live = false })) n found.0 (omega arith) n.given
    (given_id id s.next (get_or s.seats slot None) false found.1 (list_all-at (is_given s.next) s.seats slot None n.given found.0))
    (λ other. rw (same_id id other (get_or s.seats slot None) found.1) (omega (arith, n.once other)))

-- It stays so where a slot is freed.
pub numbered-free : (s : Sessions) (slot : ℕ) → AreNumbered s → slot < length s.seats
    → AreNumbered (record { seats = set s.seats slot None; next = s.next })
numbered-free s slot n l = numbered-set s s.next slot None n l (omega arith) n.given refl (λ id. omega (arith, n.once id))

-- A stopped session is live no more.
pub stopped-live : (s : Sessions) (id slot : ℕ) → AreNumbered s → position (is_live_as id) s.seats ≡ Some slot
    → list_any (is_live_as id) (set s.seats slot (Some (record { id = id; live = false }))) ≡ false
stopped-live s id slot n h =
    let found = position-Some (is_live_as id) s.seats slot None h in
    let changed = count-set (is_live_as id) s.seats slot (Some (record { id = id; live = false })) None found.0 in
    none_passes (is_live_as id) (set s.seats slot (Some (record { id = id; live = false })))
    (omega (arith, live-le-of id s.seats, n.once id, rw found.1 at changed))

-- Where a free slot is found fewer than all are held.
pub held_below : (s : Sessions) (slot : ℕ) → position is_free s.seats ≡ Some slot → count_by is_some s.seats < length s.seats
held_below s slot h =
    let found = position-Some is_free s.seats slot None h in
    omega (arith, count-not is_some s.seats, counts_one is_free s.seats slot None found.0 found.1)

-- Where none is found all are held.
pub held_all : (s : Sessions) → position is_free s.seats ≡ None → count_by is_some s.seats ≡ length s.seats
held_all s h = omega (arith, count-not is_some s.seats, position-None is_free s.seats h)

-- Where no live session of this id is found the id is not live.
pub not_live : (s : Sessions) (id : ℕ) → position (is_live_as id) s.seats ≡ None → list_any (is_live_as id) s.seats ≡ false
not_live s id h = none_passes (is_live_as id) s.seats (position-None (is_live_as id) s.seats h)

-- Where one is found the id is live.
pub found_live : (s : Sessions) (id slot : ℕ) → position (is_live_as id) s.seats ≡ Some slot → list_any (is_live_as id) s.seats ≡ true
found_live s id slot h =
    let found = position-Some (is_live_as id) s.seats slot None h in list_any_at (is_live_as id) s.seats slot None found.0 found.1

-- A held slot is one of them.
pub held_bound : (seats : List (Option Seat)) (slot : ℕ) → holds (slice_get seats slot) ≡ true → slot < length seats
held_bound [] slot h = cc
held_bound (seat ∷ seats) zero h = omega arith
held_bound (seat ∷ seats) (suc slot) h = let l : slot < length seats = held_bound seats slot h in omega arith
