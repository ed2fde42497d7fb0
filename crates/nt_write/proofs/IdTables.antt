-- The ids of the definitions that were used, and the table that has them.
use Rattle.std.proofs.Common.{◌≡◌, ◌≢◌, ℕ, zero, suc, ◌+◌, ◌<◌, Bool, true, false, cond, eqb, ◌⊎◌, inl, inr, List, [], ◌∷◌, ◌++◌, length, Option, Some, None, set, take, map, refl, ap, sym, ◌∙◌, arith, length-append}
use Rattle.std.proofs.lemmas.List.{get_or-set_same, get_or-set_other, map-append, take_more_set}
use Rattle.std.proofs.lemmas.List.Sums.{length-filter}
use Rattle.std.proofs.lemmas.Bool.{cases_Bool, eq-eqb}
use Rattle.std.proofs.lemmas.Bool.Decides.{eqb_tells}
use Rattle.std.specs.Prelude.{slice_index, replicate, unwrap_or, count_by, filter, ◌==◌, ◌≤◌}
use Rattle.std.specs.List.{position_from}
use Rattle.ep_defs.specs.declared.event.EventDef.{EventDef}
use Rattle.ep_defs.specs.Event.{is_same_event}
use Rattle.nt_write.specs.declared.ids.IdTable.{IdTable}
use Rattle.nt_write.specs.declared.limits.TheConstants.{LAST_EVENT}
use Rattle.nt_write.specs.Layout.{id_in, with_member}
use Rattle.ep_defs.specs.Definitions.{AreDistinct}
use Rattle.ep_defs.proofs.Sameness.{distinct-same}
use Rattle.nt_write.specs.Writing.{AreIds, id_at, numbers_in}
use Rattle.nt_write.proofs.Sameness.{event_sameness}

-- Where no member passes the test, one more at the end has its place if it passes.
place-end : {A : Type 0} (test : A → Bool) (n : ℕ) (xs : List A) (x : A) → 0 < n → unwrap_or (position_from test n xs) 0 ≡ 0 → test x ≡ true → unwrap_or (position_from test n (xs ++ x ∷ [])) 0 ≡ n + length xs
place-end test n [] x low none passes = rw passes (omega arith)
place-end test n (y ∷ xs) x low none passes =
    elim (cases_Bool (test y)) [
      | inl e ↦ absurd (first (rw e at none))
      | inr e ↦ rw e (place-end test (n + 1) xs x (omega arith) (rw e at none) passes ∙ shift (length xs))
    ]
  where
    first : n ≡ 0 → ⊥
    first e = omega arith

    shift : (k : ℕ) → n + 1 + k ≡ n + suc k
    shift k = omega arith

-- One more at the end that doesn't pass changes nothing.
place-other : {A : Type 0} (test : A → Bool) (n : ℕ) (xs : List A) (x : A) → test x ≡ false → position_from test n (xs ++ x ∷ []) ≡ position_from test n xs
place-other test n [] x fails = rw fails refl
place-other test n (y ∷ xs) x fails = ap (λ o. cond (test y) (Some n) o) (place-other test (n + 1) xs x fails)

-- A definition that is new has the next id.
pub id-new : (definitions : List EventDef) (def : EventDef) → id_in is_same_event def definitions ≡ 0 → id_in is_same_event def (definitions ++ def ∷ []) ≡ length definitions + 1
id-new definitions def none =
    place-end (λ other. is_same_event def other) 1 definitions def (omega arith) none (event_sameness.itself def) ∙ turn (length definitions)
  where
    turn : (n : ℕ) → 1 + n ≡ n + 1
    turn n = omega arith

-- Another definition keeps its id.
id-other : (definitions : List EventDef) (def other : EventDef) → is_same_event other def ≡ false → id_in is_same_event other (definitions ++ def ∷ []) ≡ id_in is_same_event other definitions
id-other definitions def other differs =
    ap (λ (o : Option ℕ). unwrap_or o 0) (place-other (λ y. is_same_event other y) 1 definitions def differs)

-- The definitions with one that is new.
pub with_new : (definitions : List EventDef) (def : EventDef) → id_in is_same_event def definitions ≡ 0 → with_member is_same_event definitions def ≡ definitions ++ def ∷ []
with_new definitions def none =
    ap (λ (id : ℕ). cond (eqb id 0) (definitions ++ def ∷ []) definitions) none

-- The numbers of two definitions that are the same are one.
same-number : (defs : ℕ → Option EventDef) (i j : ℕ) (a b : EventDef) → AreDistinct defs → defs i ≡ Some a → defs j ≡ Some b → i ≢ j → is_same_event a b ≡ false
same-number defs i j a b d p q differ =
    elim (cases_Bool (is_same_event a b)) [ inl e ↦ absurd (differ (distinct-same defs d i j a b p q e)) | inr e ↦ e ]

-- One number has one definition.
one-definition : (defs : ℕ → Option EventDef) (i j : ℕ) (a b : EventDef) → defs i ≡ Some a → defs j ≡ Some b → i ≡ j → a ≡ b
one-definition defs i j a b p q e = cc

some-none : {A : Type 0} {a : A} → Some a ≡ None → ⊥
some-none e = cc

-- The table with the next id at a number that had none.
pub ids-given : (defs : ℕ → Option EventDef) (definitions : List EventDef) (def : EventDef) (number : ℕ) (old new : IdTable) → AreIds defs definitions old → AreDistinct defs → defs number ≡ Some def → number < length old.table.items → old.used < length old.numbers.items → id_at old number ≡ 0 → new.table.items ≡ set old.table.items number (old.used + 1) → new.numbers.items ≡ set old.numbers.items old.used number → new.used ≡ old.used + 1 → AreIds defs (definitions ++ def ∷ []) new
ids-given defs definitions def number old new h distinct at low room free items numbers used =
    record {
      used = omega (arith, h.used, used, length-append definitions (def ∷ []));
      id_is = λ i other p. by-number i other p (eqb_tells i number);
      none_is = λ i none. undefined i none (eqb_tells i number);
      numbers = ap (map defs) all ∙ map-append defs (numbers_in old) (number ∷ []) ∙ ap (λ (ds : List (Option EventDef)). ds ++ defs number ∷ []) h.numbers
          ∙ ap (λ (d : Option EventDef). map Some definitions ++ d ∷ []) at ∙ sym (map-append Some definitions (def ∷ []));
    }
  where
    none : id_in is_same_event def definitions ≡ 0
    none = sym (h.id_is number def at) ∙ free

    all : numbers_in new ≡ numbers_in old ++ number ∷ []
    all = ap (λ (n : ℕ). take n new.numbers.items) used ∙ ap (λ (ns : List ℕ). take (old.used + 1) ns) numbers ∙ take_more_set old.numbers.items old.used number room

    undefined : (i : ℕ) → defs i ≡ None → ((eqb i number ≡ true) × (i ≡ number)) ⊎ ((eqb i number ≡ false) × (i ≢ number)) → id_at new i ≡ 0
    undefined i nothing (inl same) = absurd (some-none (sym at ∙ ap defs (sym same.1) ∙ nothing))
    undefined i nothing (inr differ) =
        ap (λ (xs : List ℕ). slice_index xs i) items
        ∙ get_or-set_other old.table.items number i (old.used + 1) 0 differ.1
        ∙ h.none_is i nothing

    by-number : (i : ℕ) (other : EventDef) → defs i ≡ Some other → ((eqb i number ≡ true) × (i ≡ number)) ⊎ ((eqb i number ≡ false) × (i ≢ number)) → id_at new i ≡ id_in is_same_event other (definitions ++ def ∷ [])
    by-number i other p (inl same) =
        ap (λ (xs : List ℕ). slice_index xs i) items
        ∙ ap (λ (n : ℕ). slice_index (set old.table.items number (old.used + 1)) n) same.1
        ∙ get_or-set_same old.table.items number (old.used + 1) 0 low
        ∙ ap (λ (n : ℕ). n + 1) h.used
        ∙ sym (id-new definitions def none)
        ∙ ap (λ (d : EventDef). id_in is_same_event d (definitions ++ def ∷ [])) (sym (one-definition defs i number other def p at same.1))
    by-number i other p (inr differ) =
        ap (λ (xs : List ℕ). slice_index xs i) items
        ∙ get_or-set_other old.table.items number i (old.used + 1) 0 differ.1
        ∙ h.id_is i other p
        ∙ sym (id-other definitions def other (same-number defs i number other def distinct p at differ.1))

-- What passes at a place is kept.
kept-some : (test : ℕ → Bool) (xs : List ℕ) (i : ℕ) → i < length xs → test (slice_index xs i) ≡ true → 0 < length (filter test xs)
kept-some test [] i low passes = absurd (omega (arith, low))
kept-some test (x ∷ xs) zero low passes = rw passes (omega arith)
kept-some test (x ∷ xs) (suc i) low passes =
    elim (cases_Bool (test x)) [ inl e ↦ rw e (omega arith) | inr e ↦ rw e (kept-some test xs i (omega (arith, low)) passes) ]

-- Where a place of the table is free there is room for one number more.
pub room_left : (table numbers : List ℕ) (used number : ℕ) → number < length table → slice_index table number ≡ 0 → used + count_by (λ id. id == 0) table ≤ LAST_EVENT + 1 → length numbers ≡ LAST_EVENT + 1 → used < length numbers
room_left table numbers used number low free few room =
    let some : 0 < length (filter (λ (id : ℕ). id == 0) table) = kept-some (λ (id : ℕ). id == 0) table number low (eq-eqb (slice_index table number) 0 free) in
    omega (arith, some, length-filter (λ (id : ℕ). id == 0) table, few, room)

-- Zeros are zero at each place, and past the last one.
pub slice_index-zeros : (n i : ℕ) → let zeros : List ℕ = replicate n 0 in slice_index zeros i ≡ 0
slice_index-zeros zero i = refl
slice_index-zeros (suc n) zero = refl
slice_index-zeros (suc n) (suc i) = slice_index-zeros n i
