-- Numbers that rise, with those that are missing between them.
use Rattle.std.proofs.Common.{◌≡◌, ℕ, ◌+◌, ◌-◌, ◌%◌, ◌^◌, ◌<◌, ◌≤◌, true, false, inl, inr, List, [], ◌∷◌, ◌++◌, map, filter, Option, Some, eqb, refl, sym, ◌∙◌, arith, add-zero, zero-add}
use Rattle.std.specs.List.{list_any, last_or, AllByRecursion}
use Rattle.std.proofs.lemmas.Bool.{cases_Bool, cases_eq, eq-eqb, ne_eqb}
use Rattle.std.proofs.Math.Nat.{add-mod_right, mod-eq_of_lt}
use Rattle.ep_defs.specs.Entry.{EventEntry, Event}
use Rattle.ep_defs.specs.Gaps.{Sighting, Known, sightings, distance, missing}

-- The numbers of these events rise from above the first up to the last, and this many are left out.
abbrev pub Runs : ℕ → List EventEntry → ℕ → ℕ → Type 0
Runs first [] last left = first + left ≡ last
Runs first (event ∷ events) last left =
    (skip : ℕ) × (rest : ℕ) × (event.number ≡ first + skip + 1) × (left ≡ skip + rest) × Runs (first + skip + 1) events last rest

-- One event more, with the next number.
pub runs-push : (first last left : ℕ) (events : List EventEntry) (event : EventEntry) → Runs first events last left → event.number ≡ last + 1 → Runs first (events ++ event ∷ []) (1 + last) left
runs-push first last left [] event runs next = (left, 0, omega (arith, next, runs), omega arith, omega (arith, runs))
runs-push first last left (e ∷ events) event runs next =
    (runs.0, runs.1, runs.2, runs.3, runs-push (first + runs.0 + 1) last runs.1 events event runs.4 next)

-- The next number is left out.
pub runs-skip : (first last left : ℕ) (events : List EventEntry) → Runs first events last left → Runs first events (1 + last) (left + 1)
runs-skip first last left [] runs = omega (arith, runs)
runs-skip first last left (event ∷ events) runs =
    (runs.0, runs.1 + 1, runs.2, omega (arith, runs.3), runs-skip (first + runs.0 + 1) last runs.1 events runs.4)

-- They rise from above an earlier number too, which leaves out more.
pub runs-earlier : (seen skipped told last left : ℕ) (events : List EventEntry) → seen + skipped ≡ told → Runs told events last left → Runs seen events last (skipped + left)
runs-earlier seen skipped told last left [] before runs = omega (arith, before, runs)
runs-earlier seen skipped told last left (event ∷ events) before runs =
    let from : told + runs.0 + 1 ≡ seen + (skipped + runs.0) + 1 = omega (arith, before) in
    (skipped + runs.0, runs.1, runs.2 ∙ from, omega (arith, runs.3), rw (← from) runs.4)

pub runs-up : (first last left : ℕ) (events : List EventEntry) → Runs first events last left → first ≤ last
runs-up first last left [] runs = omega (arith, runs)
runs-up first last left (event ∷ events) runs =
    let up = runs-up (first + runs.0 + 1) last runs.1 events runs.4 in omega arith

-- A number that is further on by this much, where numbers fit 32 bits.
pub distance-on : (from more : ℕ) → from + more < 2 ^ 32 → distance from (from + more) ≡ more
distance-on from more few =
    let stays : from % 2 ^ 32 ≡ from = mod-eq_of_lt (omega arith) in
    let on : from + more + 2 ^ 32 - from ≡ more + 2 ^ 32 = omega arith in
    let small : more % 2 ^ 32 ≡ more = mod-eq_of_lt (omega arith) in
    rw (stays, on, add-mod_right more (2 ^ 32), small) refl

-- ---- the thread's own events

abbrev pub AreOwn : ℕ → List EventEntry → Type 0
AreOwn thread events = AllByRecursion (λ event. event.thread ≡ thread) events

-- What is seen of such events: some number, up to which this many were left out.
pub record Sees (thread first last left : ℕ) (events : List EventEntry) : Type 0 where
  pub seen : ℕ
  pub done : ℕ
  pub rest : ℕ
  pub all : done + rest ≡ left
  pub up : seen + rest ≡ last
  pub steady : (later : List Sighting) → missing first (sightings thread (map Event events) ++ later) ≡ done + missing seen later

pub runs-sees : (thread first last left : ℕ) (events : List EventEntry) → Runs first events last left → AreOwn thread events → last < 2 ^ 32 → Sees thread first last left events
runs-sees thread first last left [] runs own few =
    record { seen = first; done = 0; rest = left; all = omega arith; up = runs; steady = λ later. sym (zero-add (missing first later)) }
runs-sees thread first last left (event ∷ events) runs own few =
    let next = first + runs.0 + 1 in
    let h = runs-sees thread next last runs.1 events runs.4 own.1 few in
    let up = runs-up next last runs.1 events runs.4 in
    let number : event.number ≡ first + 1 + runs.0 = omega (arith, runs.2) in
    let same : first + 1 + runs.0 ≡ next = omega arith in
    record {
      seen = h.seen;
      done = runs.0 + h.done;
      rest = h.rest;
      all = omega (arith, h.all, runs.3);
      up = h.up;
      steady = λ later.
          rw (eq-eqb event.thread thread own.0, number, distance-on (first + 1) runs.0 (omega arith), same, h.steady later) (omega arith);
    }

-- ---- points

-- What a point says of a thread, where it gives each thread what was told of it.
abbrev pub knowns : (ℕ → ℕ) → ℕ → List ℕ → List Sighting
knowns told thread threads = map (λ (t : ℕ × ℕ). Known t.1) (filter (λ (t : ℕ × ℕ). eqb t.0 thread) (map (λ t. (t, told t)) threads))

pub knowns-none : (told : ℕ → ℕ) (thread : ℕ) (threads : List ℕ) → list_any (λ t. eqb t thread) threads ≡ false → knowns told thread threads ≡ []
knowns-none told thread [] h = refl
knowns-none told thread (t ∷ threads) h =
    elim (cases_Bool (eqb t thread)) [ inl same ↦ let no : true ≡ false = rw same at h in cc | inr other ↦ rw other (knowns-none told thread threads (rw other at h)) ]

-- A point that knows of the last number leaves nothing out.
knowns-steady : (told : ℕ → ℕ) (thread : ℕ) (threads : List ℕ) (later : List Sighting) → told thread < 2 ^ 32 → missing (told thread) (knowns told thread threads ++ later) ≡ missing (told thread) later
knowns-steady told thread [] later few = refl
knowns-steady told thread (t ∷ threads) later few =
    elim (cases_eq t thread) [
      | inl same ↦
          let none : distance (told thread) (told thread) ≡ 0 = rw add-zero at (distance-on (told thread) 0 (omega arith)) in
          rw (eq-eqb t thread same, same, none, zero-add) (knowns-steady told thread threads later few)
      | inr other ↦ rw (ne_eqb t thread other) (knowns-steady told thread threads later few)
    ]

pub knowns-some : (told : ℕ → ℕ) (thread seen skipped : ℕ) (threads : List ℕ) (later : List Sighting) → list_any (λ t. eqb t thread) threads ≡ true → seen + skipped ≡ told thread → told thread < 2 ^ 32 → missing seen (knowns told thread threads ++ later) ≡ skipped + missing (told thread) later
knowns-some told thread seen skipped [] later h on few = cc
knowns-some told thread seen skipped (t ∷ threads) later h on few =
    elim (cases_eq t thread) [
      | inl same ↦
          let far : distance seen (told thread) ≡ skipped = rw on at (distance-on seen skipped (omega (arith, on))) in
          rw (eq-eqb t thread same, same, far, knowns-steady told thread threads later few) refl
      | inr other ↦
          let differ = ne_eqb t thread other in
          rw differ (knowns-some told thread seen skipped threads later (rw differ at h) on few)
    ]

knowns-keep : (told : ℕ → ℕ) (thread : ℕ) (threads : List ℕ) → last_or (Some (Known (told thread))) (knowns told thread threads) ≡ Some (Known (told thread))
knowns-keep told thread [] = refl
knowns-keep told thread (t ∷ threads) =
    elim (cases_eq t thread) [
      | inl same ↦ rw (eq-eqb t thread same, same) (knowns-keep told thread threads)
      | inr other ↦ rw (ne_eqb t thread other) (knowns-keep told thread threads)
    ]

pub knowns-last : (told : ℕ → ℕ) (thread : ℕ) (threads : List ℕ) (before : Option Sighting) → list_any (λ t. eqb t thread) threads ≡ true → last_or before (knowns told thread threads) ≡ Some (Known (told thread))
knowns-last told thread [] before h = cc
knowns-last told thread (t ∷ threads) before h =
    elim (cases_eq t thread) [
      | inl same ↦ rw (eq-eqb t thread same, same) (knowns-keep told thread threads)
      | inr other ↦ let differ = ne_eqb t thread other in rw differ (knowns-last told thread threads before (rw differ at h))
    ]

pub last-append : {A : Type 0} (before : Option A) (xs ys : List A) → last_or before (xs ++ ys) ≡ last_or (last_or before xs) ys
last-append before [] ys = refl
last-append before (x ∷ xs) ys = last-append (Some x) xs ys
