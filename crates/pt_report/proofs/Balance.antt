-- What is missing and what is there, together, come to the last number, modulo 2 ^ 32.
use Rattle.std.proofs.Common.{◌≡◌, ℕ, ◌+◌, ◌-◌, ◌*◌, ◌/◌, ◌%◌, ◌^◌, ◌<◌, cond, List, [], ◌∷◌, sym, ap, ◌∙◌, arith, mod-eq_of_lt}
use Rattle.std.proofs.Math.Nat.{add-mod-mod, mod-add-mod, mod-add-div', add-mul-mod_self_right}
use Rattle.std.proofs.lemmas.List.Sums.{sum_by-cons}
use Rattle.std.specs.List.{count_by}
use Rattle.ep_defs.specs.Gaps.{Sighting, Seen, Known, distance, missing, last_number}
use Rattle.nt_check.specs.Numbers.{is_event}

-- A distance leads from one number to the other.
leads : (from to : ℕ) → (from + distance from to) % 2 ^ 32 ≡ to % 2 ^ 32
leads from to =
    let parts = mod-add-div' from (2 ^ 32) in
    let below : from % 2 ^ 32 < 2 ^ 32 = omega arith in
    let turn : from + (to + 2 ^ 32 - from % 2 ^ 32) ≡ to + (from / 2 ^ 32 + 1) * 2 ^ 32 = omega arith in
    add-mod-mod from (to + 2 ^ 32 - from % 2 ^ 32) (2 ^ 32)
    ∙ ap (λ n. n % 2 ^ 32) turn
    ∙ add-mul-mod_self_right to (from / 2 ^ 32 + 1) (2 ^ 32)

further : (a b rest : ℕ) → a % 2 ^ 32 ≡ b % 2 ^ 32 → (a + rest) % 2 ^ 32 ≡ (b + rest) % 2 ^ 32
further a b rest same = sym (mod-add-mod a (2 ^ 32) rest) ∙ ap (λ n. (n + rest) % 2 ^ 32) same ∙ mod-add-mod b (2 ^ 32) rest

events_on : (sighting : Sighting) (later : List Sighting) → count_by is_event (sighting ∷ later) ≡ cond (is_event sighting) 1 0 + count_by is_event later
events_on sighting later = sum_by-cons (λ s. cond (is_event s) 1 0) sighting later

balance : (last : ℕ) (sightings : List Sighting) → (last + (missing last sightings + count_by is_event sightings)) % 2 ^ 32 ≡ last_number last sightings % 2 ^ 32
balance last [] = ap (λ n. n % 2 ^ 32) (none last)
  where
    none : (n : ℕ) → n + (0 + 0) ≡ n
    none n = omega arith
balance last (Seen number ∷ later) =
    let gap = distance (last + 1) number in
    let rest = missing number later + count_by is_event later in
    let count = events_on (Seen number) later in
    let turn : last + (gap + missing number later + count_by is_event (Seen number ∷ later)) ≡ last + 1 + gap + rest = omega (arith, count) in
    ap (λ n. n % 2 ^ 32) turn ∙ further (last + 1 + gap) number rest (leads (last + 1) number) ∙ balance number later
balance last (Known number ∷ later) =
    let gap = distance last number in
    let rest = missing number later + count_by is_event later in
    let count = events_on (Known number) later in
    let turn : last + (gap + missing number later + count_by is_event (Known number ∷ later)) ≡ last + gap + rest = omega (arith, count) in
    ap (λ n. n % 2 ^ 32) turn ∙ further (last + gap) number rest (leads last number) ∙ balance number later

-- Where they are few, they come to it exactly.
pub made_up : (sightings : List Sighting) (events gaps last : ℕ) → count_by is_event sightings ≡ events → missing 0 sightings ≡ gaps → last_number 0 sightings ≡ last → gaps + events < 2 ^ 32 → last < 2 ^ 32 → gaps + events ≡ last
made_up sightings events gaps last events-are gaps-are last-is few less =
    let all : 0 + (missing 0 sightings + count_by is_event sightings) ≡ gaps + events = omega (arith, events-are, gaps-are) in
    sym (mod-eq_of_lt few) ∙ ap (λ n. n % 2 ^ 32) (sym all) ∙ balance 0 sightings ∙ ap (λ n. n % 2 ^ 32) last-is ∙ mod-eq_of_lt less
