-- The slots that sessions hold, each one its own.
use Rattle.std.proofs.Common.{◌≡◌, ℕ, zero, suc, ◌+◌, ◌<◌, ◌≤◌, Bool, true, false, List, [], ◌∷◌, map, length, Option, Some, None, refl, ap, sym, ◌∙◌, subst, arith, if◌then◌else◌, inl, inr, count_by, set, get_or, cond}
use Rattle.std.specs.Prelude.{◌&&◌, ◌||◌, not, filter, is_some, slice_get, position, remove, ◌==◌}
use Rattle.std.proofs.lemmas.Bool.{eqb-true, eq-eqb, ne_eqb, or_parts, or_cases, or_from, cases_eq, false≢true}
use Rattle.std.proofs.Math.Dec.{eqb-suc-suc}
use Rattle.std.proofs.Math.ListN.{length-set}
use Rattle.std.proofs.lemmas.List.Quantifiers.{position-Some}
use Rattle.std.proofs.lemmas.List.Sums.{sum_by-cons, sum_by-set}
use Rattle.std.proofs.lemmas.Option.{slice_get-get_or}
use Rattle.std.proofs.lemmas.List.{length-map}
use Rattle.ep_table.specs.Sessions.{Sessions, is_held, held_count, holds, is_free, seat_at, seated_at, accepted_by, after_accept, after_free}
use Rattle.ep_table.specs.declared.table.Accepted.TheVariants.{Seat as SeatAt}
use Rattle.ep_table.specs.declared.table.Seat.{Seat}
use Rattle.ep_tables.specs.declared.tables.Present.{Present}
use Rattle.ep_tables.specs.Tables.{has_slot}
use Rattle.ep_tables.proofs.Lists.{IsDistinct, has-filter, pigeons, distinct-filter}
use Rattle.ep_model.proofs.Lists.{has, eqb_turn}
use Rattle.ep_tables.proofs.Items.{map-remove}

-- ---- numbers of which as many differ as there are

kept_all : (n : ℕ) (xs : List ℕ) → has n xs ≡ false → length (filter (λ x. not (x == n)) xs) ≡ length xs
kept_all n [] none = refl
kept_all n (x ∷ xs) none =
    let parts = or_parts (x == n) (has n xs) none in
    ap (λ b. length (if not b then x ∷ filter (λ x. not (x == n)) xs else filter (λ x. not (x == n)) xs)) parts.0
    ∙ ap suc (kept_all n xs parts.1)

-- Without one number there is at most one less of numbers that differ.
almost_all : (n : ℕ) (xs : List ℕ) → IsDistinct xs → length xs ≤ suc (length (filter (λ x. not (x == n)) xs))
almost_all n [] d = omega arith
almost_all n (x ∷ xs) d =
    elim (x == n) as (λ v. (x == n) ≡ v → suc (length xs) ≤ suc (length (if not v then x ∷ filter (λ x. not (x == n)) xs else filter (λ x. not (x == n)) xs))) [
      | true ↦ λ same. let H : ℕ → Type 0 = λ m. has m xs ≡ false in let all = kept_all n xs (subst H (eqb-true x n same) d.0) in omega (arith, all)
      | false ↦ λ _. let more = almost_all n xs d.1 in omega (arith, more)
    ] refl

or_drop : (a b c : Bool) → a ≡ false → (a || b) ≡ c → b ≡ c
or_drop false b c off h = h
or_drop true b c off h = cc

-- Numbers among which as many stand as there are differ.
pub all_distinct : (hs xs : List ℕ) → IsDistinct hs → ((n : ℕ) → has n hs ≡ true → has n xs ≡ true) → length xs ≤ length hs → IsDistinct xs
all_distinct hs [] d all many = tt
all_distinct hs (x ∷ xs) d all many =
    let others : List ℕ = filter (λ h. not (h == x)) hs in
    let rest : (n : ℕ) → has n others ≡ true → has n xs ≡ true = λ n is.
    let parts = both (not (n == x)) (has n hs) (sym (has-filter (λ h. not (h == x)) n hs) ∙ is) in
    or_drop (x == n) (has n xs) true (eqb_turn n x (not_true (n == x) parts.0)) (all n parts.1) in
    let once : has x xs ≡ false =
    elim (has x xs) as (λ v. has x xs ≡ v → v ≡ false) [
      | true ↦ λ is.
          let most = pigeons hs xs d (λ n here. elim (or_cases (x == n) (has n xs) (all n here)) [ inl same ↦ (let P : ℕ → Type 0 = λ m. has m xs ≡ true in subst P (eqb-true x n same) is) | inr later ↦ later ]) in
          absurd (omega (arith, most, many))
      | false ↦ λ _. refl
    ] refl in
    let less = almost_all x hs d in
    (once, all_distinct others xs (distinct-filter (λ h. not (h == x)) hs d) rest (omega (arith, less, many)))
  where
    both : (a b : Bool) → (a && b) ≡ true → (a ≡ true) × (b ≡ true)
    both true true h = (refl, refl)
    both true false h = cc
    both false b h = cc

    not_true : (a : Bool) → not a ≡ true → a ≡ false
    not_true false h = refl
    not_true true h = cc

-- ---- the slots that are held

-- The numbers of the slots that are held, where the first slot has this number.
abbrev held_from : ℕ → List (Option Seat) → List ℕ
held_from first [] = []
held_from first (None ∷ seats) = held_from (suc first) seats
held_from first (Some seat ∷ seats) = first ∷ held_from (suc first) seats

held_length : (first : ℕ) (seats : List (Option Seat)) → length (held_from first seats) ≡ count_by is_some seats
held_length first [] = refl
held_length first (None ∷ seats) = held_length (suc first) seats
held_length first (Some seat ∷ seats) =
    let more = held_length (suc first) seats in
    let count : count_by is_some (Some seat ∷ seats) ≡ 1 + count_by is_some seats = sum_by-cons (λ x. cond (is_some x) 1 0) (Some seat) seats in
    omega (arith, more, count)

-- A slot that is held.
record HeldAt (first n : ℕ) (seats : List (Option Seat)) : Type 0 where
  place : ℕ
  is : n ≡ place + first
  there : holds (slice_get seats place) ≡ true

held_at : (first n : ℕ) (seats : List (Option Seat)) → has n (held_from first seats) ≡ true → HeldAt first n seats
held_at first n [] is = absurd (false≢true is)
held_at first n (None ∷ seats) is =
    let more = held_at (suc first) n seats is in
    let e = more.is in
    record { place = suc more.place; is = omega (arith, e); there = more.there }
held_at first n (Some seat ∷ seats) is =
    elim (or_cases (first == n) (has n (held_from (suc first) seats)) is) [
      | inl here ↦ let e = eqb-true first n here in record { place = 0; is = omega (arith, e); there = refl }
      | inr later ↦
          let more = held_at (suc first) n seats later in
          let e = more.is in
          record { place = suc more.place; is = omega (arith, e); there = more.there }
    ]

held_apart : (low first : ℕ) (seats : List (Option Seat)) → low < first → has low (held_from first seats) ≡ false
held_apart low first [] less = refl
held_apart low first (None ∷ seats) less = held_apart low (suc first) seats (omega (arith, less))
held_apart low first (Some seat ∷ seats) less =
    or_from (first == low) (has low (held_from (suc first) seats)) (ne_eqb first low (λ same. omega (arith, less, same))) (held_apart low (suc first) seats (omega (arith, less)))

held_distinct : (first : ℕ) (seats : List (Option Seat)) → IsDistinct (held_from first seats)
held_distinct first [] = tt
held_distinct first (None ∷ seats) = held_distinct (suc first) seats
held_distinct first (Some seat ∷ seats) = (held_apart first (suc first) seats (omega arith), held_distinct (suc first) seats)

-- ---- each session has its own

pub has_slots : (n : ℕ) (ps : List Present) → has n (map (λ (p : Present). p.slot) ps) ≡ has_slot n ps
has_slots n [] = refl
has_slots n (p ∷ ps) = ap (λ b. (p.slot == n) || b) (has_slots n ps)

-- As many slots are held as there are sessions, and by these: so no two of them have one slot.
pub slots_distinct : (table : Sessions) (ps : List Present) → ((slot : ℕ) → is_held table slot ≡ has_slot slot ps) → held_count table ≡ length ps → IsDistinct (map (λ (p : Present). p.slot) ps)
slots_distinct table ps held count =
    let all : (n : ℕ) → has n (held_from 0 table.seats) ≡ true → has n (map (λ (p : Present). p.slot) ps) ≡ true = λ n is.
    let at = held_at 0 n table.seats is in
    let e = at.is in
    let P : ℕ → Type 0 = λ m. is_held table m ≡ true in
    let same : at.place ≡ n = omega (arith, e) in
    has_slots n ps ∙ sym (held n) ∙ subst P same at.there in
    let many = held_length 0 table.seats in
    let long = length-map ps (λ (p : Present). p.slot) in
    all_distinct (held_from 0 table.seats) (map (λ (p : Present). p.slot) ps) (held_distinct 0 table.seats) all (omega (arith, many, long, count))

-- One session less leaves its slot to no other.
pub gone_slot : (slot place : ℕ) (was : Present) (ps : List Present) → slice_get ps place ≡ Some was → was.slot ≡ slot → IsDistinct (map (λ (p : Present). p.slot) ps) → has_slot slot (remove ps place) ≡ false
gone_slot slot place was ps at same distinct =
    let slots : List ℕ = map (λ (p : Present). p.slot) ps in
    sym (has_slots slot (remove ps place))
    ∙ ap (has slot) (map-remove (λ (p : Present). p.slot) ps place was slot at same distinct)
    ∙ has-filter (λ y. not (slot == y)) slot slots
    ∙ ap (λ b. not b && has slot slots) (eq-eqb slot slot refl)

-- ---- a slot is taken

abbrev one_more : Bool → ℕ
one_more b = cond b 1 0

holds_set : (seats : List (Option Seat)) (i s : ℕ) (seat : Seat) → i < length seats → holds (slice_get (set seats i (Some seat)) s) ≡ ((i == s) || holds (slice_get seats s))
holds_set [] i s seat less = absurd (omega (arith, less))
holds_set (x ∷ xs) zero zero seat less = refl
holds_set (x ∷ xs) zero (suc s) seat less = sym (ap (λ b. b || holds (slice_get xs s)) (ne_eqb 0 (suc s) (λ same. omega (arith, same))))
holds_set (x ∷ xs) (suc i) zero seat less = sym (ap (λ b. b || is_some x) (ne_eqb (suc i) 0 (λ same. omega (arith, same))))
holds_set (x ∷ xs) (suc i) (suc s) seat less = holds_set xs i s seat (omega (arith, less)) ∙ sym (ap (λ b. b || holds (slice_get xs s)) (eqb-suc-suc i s))

-- The slot that a session gets.
pub record Seated (table : Sessions) (slot : ℕ) : Type 0 where
  pub found : position is_free table.seats ≡ Some slot
  pub less : slot < length table.seats
  pub none : is_some (get_or table.seats slot None) ≡ false

pub seated : (table : Sessions) (slot id : ℕ) → accepted_by table ≡ SeatAt slot id → Seated table slot
seated table slot id is = from (position is_free table.seats) refl is
  where
    not_some : (b : Bool) → not b ≡ true → b ≡ false
    not_some false is = refl
    not_some true is = cc

    from : (found : Option ℕ) → position is_free table.seats ≡ found → seat_at table found ≡ SeatAt slot id → Seated table slot
    from None e is = absurd (cc)
    from (Some at) e is =
        let same : at ≡ slot = cc in
        let found : position is_free table.seats ≡ Some slot = e ∙ ap (λ n. Some n) same in
        let there = position-Some is_free table.seats slot None found in
        record { found = found; less = there.0; none = not_some (is_some (get_or table.seats slot None)) there.1 }

pub free_slot : (table : Sessions) (slot id : ℕ) → accepted_by table ≡ SeatAt slot id → is_held table slot ≡ false
free_slot table slot id is =
    let at = seated table slot id is in
    ap holds (slice_get-get_or table.seats slot None at.less) ∙ at.none

pub accept_held : (table : Sessions) (slot s id : ℕ) → accepted_by table ≡ SeatAt slot id → is_held (after_accept table) s ≡ ((slot == s) || is_held table s)
accept_held table slot s id is =
    let at = seated table slot id is in
    ap (λ found. is_held (seated_at table found) s) at.found ∙ holds_set table.seats slot s (record { id = table.next; live = true }) at.less

pub accept_count : (table : Sessions) (slot id : ℕ) → accepted_by table ≡ SeatAt slot id → held_count (after_accept table) ≡ suc (held_count table)
accept_count table slot id is =
    let at = seated table slot id is in
    let seat : Option Seat = Some (record { id = table.next; live = true }) in
    let counts : count_by is_some (set table.seats slot seat) + one_more (is_some (get_or table.seats slot None)) ≡ count_by is_some table.seats + 1 = sum_by-set (λ x. cond (is_some x) 1 0) table.seats slot seat None at.less in
    let none : one_more (is_some (get_or table.seats slot None)) ≡ 0 = ap one_more at.none in
    let more : count_by is_some (set table.seats slot seat) ≡ suc (count_by is_some table.seats) = omega (arith, counts, none) in
    ap (λ found. held_count (seated_at table found)) at.found ∙ more

pub accept_seats : (table : Sessions) (slot id : ℕ) → accepted_by table ≡ SeatAt slot id → length (after_accept table).seats ≡ length table.seats
accept_seats table slot id is =
    ap (λ found. length (seated_at table found).seats) (seated table slot id is).found ∙ length-set table.seats slot (Some (record { id = table.next; live = true }))

-- ---- a slot is freed

holds_cleared : (seats : List (Option Seat)) (i s : ℕ) → holds (slice_get (set seats i None) s) ≡ (not (i == s) && holds (slice_get seats s))
holds_cleared [] i s = sym (none (not (i == s)))
  where
    none : (b : Bool) → (b && false) ≡ false
    none true = refl
    none false = refl
holds_cleared (x ∷ xs) zero zero = refl
holds_cleared (x ∷ xs) zero (suc s) = sym (ap (λ b. not b && holds (slice_get xs s)) (ne_eqb 0 (suc s) (λ same. omega (arith, same))))
holds_cleared (x ∷ xs) (suc i) zero = sym (ap (λ b. not b && is_some x) (ne_eqb (suc i) 0 (λ same. omega (arith, same))))
holds_cleared (x ∷ xs) (suc i) (suc s) = holds_cleared xs i s ∙ sym (ap (λ b. not b && holds (slice_get xs s)) (eqb-suc-suc i s))

pub free_held : (table : Sessions) (slot s : ℕ) (ps rest : List Present) → ((n : ℕ) → is_held table n ≡ has_slot n ps) → ((n : ℕ) → has_slot n ps ≡ ((slot == n) || has_slot n rest)) → has_slot slot rest ≡ false
    → is_held (after_free table slot) s ≡ has_slot s rest
free_held table slot s ps rest held parts gone =
    holds_cleared table.seats slot s
    ∙ elim (cases_eq slot s) [
      | inl same ↦ ap (λ b. not b && is_held table s) (eq-eqb slot s same) ∙ sym (ap (λ n. has_slot n rest) (sym same) ∙ gone)
      | inr other ↦ ap (λ b. not b && is_held table s) (ne_eqb slot s other) ∙ held s ∙ parts s ∙ ap (λ b. b || has_slot s rest) (ne_eqb slot s other)
    ]

held_in : (seats : List (Option Seat)) (slot : ℕ) → holds (slice_get seats slot) ≡ true → (slot < length seats) × (is_some (get_or seats slot None) ≡ true)
held_in [] slot is = absurd (false≢true is)
held_in (x ∷ xs) zero is = (omega arith, is)
held_in (x ∷ xs) (suc slot) is = let more = held_in xs slot is in let less = more.0 in (omega (arith, less), more.1)

pub free_count : (table : Sessions) (slot n : ℕ) → is_held table slot ≡ true → held_count table ≡ suc n → held_count (after_free table slot) ≡ n
free_count table slot n is count =
    let at = held_in table.seats slot is in
    let counts : count_by is_some (set table.seats slot None) + one_more (is_some (get_or table.seats slot None)) ≡ count_by is_some table.seats + 0 = sum_by-set (λ x. cond (is_some x) 1 0) table.seats slot None None at.0 in
    let one : one_more (is_some (get_or table.seats slot None)) ≡ 1 = ap one_more at.1 in
    omega (arith, counts, one, count)
