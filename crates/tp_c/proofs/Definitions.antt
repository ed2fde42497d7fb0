-- Definitions that are numbered as they come, each of them once.
use Rattle.std.proofs.Common.{◌≡◌, ℕ, zero, suc, ◌+◌, ◌<◌, Bool, true, false, cond, eqb, inl, inr, List, [], ◌∷◌, ◌++◌, length, Option, Some, None, refl, ap, sym, ◌∙◌, subst, arith, length-append}
use Rattle.std.proofs.lemmas.Bool.{cases_Bool}
use Rattle.std.proofs.lemmas.List.{get_or_append_left}
use Rattle.std.proofs.lemmas.List.Elements.{All-push}
use Rattle.std.proofs.lemmas.Option.{get_or_from_slice_get, slice_get-get_or, slice_get_within}
use Rattle.std.specs.Prelude.{◌⊎◌, unwrap_or, slice_get, IsTrue}
use Rattle.std.specs.List.{position_from}
use Rattle.ep_defs.specs.declared.event.EventDef.{EventDef}
use Rattle.ep_defs.specs.declared.limits.TheConstants.{EVENTS}
use Rattle.ep_defs.specs.Definitions.{AreDistinct, definition_at}
use Rattle.ep_defs.specs.Event.{is_valid_event, is_same_event}
use Rattle.ep_defs.proofs.Sameness.{event-itself}
use Rattle.nt_write.specs.Layout.{id_in, with_member}
use Rattle.nt_write.proofs.IdTables.{id-new}
use Rattle.tp_c.specs.Defining.{IsCatalog}
use Rattle.tp_c.specs.Recording.{HasAll}

-- ---- places

-- Nothing stands in an empty list.
get-nothing : {A : Type 0} (k : ℕ) (x : A) → slice_get [] k ≡ Some x → ⊥
get-nothing zero x h = cc
get-nothing (suc k) x h = cc

-- What stands in a list with one more stands in the list, or is the last.
get-more : {A : Type 0} (xs : List A) (y : A) (k : ℕ) (x : A) → slice_get (xs ++ y ∷ []) k ≡ Some x → (slice_get xs k ≡ Some x) ⊎ ((k ≡ length xs) × (x ≡ y))
get-more [] y zero x h = inr (refl, sym (ap (λ o. unwrap_or o y) h))
get-more [] y (suc k) x h = absurd (get-nothing k x h)
get-more (z ∷ xs) y zero x h = inl h
get-more (z ∷ xs) y (suc k) x h =
    elim (get-more xs y k x h) [ inl e ↦ inl e | inr e ↦ inr (ap (λ n. suc n) e.0, e.1) ]

-- ---- ids

-- Where no id is found, no member passes.
none-passes : {A : Type 0} (test : A → Bool) (n : ℕ) (xs : List A) → 0 < n → unwrap_or (position_from test n xs) 0 ≡ 0 → (k : ℕ) (x : A) → slice_get xs k ≡ Some x → test x ≡ false
none-passes test n [] some none k x h = absurd (get-nothing k x h)
none-passes {A} test n (y ∷ xs) some none k x h =
    elim (cases_Bool (test y)) [
      | inl e ↦
          absurd (positive (sym (ap (λ (b : Bool). unwrap_or (cond b (Some n) (position_from test (n + 1) xs)) 0) e) ∙ none))
      | inr e ↦
          let left = sym (ap (λ (b : Bool). unwrap_or (cond b (Some n) (position_from test (n + 1) xs)) 0) e) ∙ none in
          rest k x h e (λ place z at. none-passes test (n + 1) xs more left place z at)
    ]
  where
    positive : n ≡ 0 → ⊥
    positive e = omega arith

    more : 0 < n + 1
    more = omega arith

    rest : (k : ℕ) (x : A) → slice_get (y ∷ xs) k ≡ Some x → test y ≡ false → ((place : ℕ) (z : A) → slice_get xs place ≡ Some z → test z ≡ false) → test x ≡ false
    rest zero x h e later = subst (λ (z : A). test z ≡ false) (ap (λ o. unwrap_or o y) h) e
    rest (suc k) x h e later = later k x h

-- A definition without an id is not there.
not-there : (definitions : List EventDef) (def : EventDef) → id_in is_same_event def definitions ≡ 0 → (k : ℕ) → slice_get definitions k ≡ Some def → ⊥
not-there definitions def none k h =
    differ (sym (event-itself def) ∙ none-passes (λ y. is_same_event def y) 1 definitions (omega arith) none k def h)
  where
    differ : true ≡ false → ⊥
    differ e = cc

-- The position from one on is that from zero on, and one more.
pub position-next : {A : Type 0} (test : A → Bool) (n : ℕ) (xs : List A) (place : ℕ) → position_from test n xs ≡ Some place → position_from test (n + 1) xs ≡ Some (place + 1)
position-next test n [] place h = absurd (nothing h)
  where
    nothing : None ≡ Some place → ⊥
    nothing h = cc
position-next test n (y ∷ xs) place h =
    elim (cases_Bool (test y)) [
      | inl e ↦ found e (sym (ap (λ (b : Bool). cond b (Some n) (position_from test (n + 1) xs)) e) ∙ h)
      | inr e ↦
          ap (λ (b : Bool). cond b (Some (n + 1)) (position_from test (n + 1 + 1) xs)) e ∙ position-next test (n + 1) xs place (sym (ap (λ (b : Bool). cond b (Some n) (position_from test (n + 1) xs)) e) ∙ h)
    ]
  where
    found : test y ≡ true → Some n ≡ Some place → cond (test y) (Some (n + 1)) (position_from test (n + 1 + 1) xs) ≡ Some (place + 1)
    found e f = ap (λ (b : Bool). cond b (Some (n + 1)) (position_from test (n + 1 + 1) xs)) e ∙ ap (λ (o : Option ℕ). Some (unwrap_or o n + 1)) f

-- Where there is none from zero on, there is none from one on.
pub position-none : {A : Type 0} (test : A → Bool) (n : ℕ) (xs : List A) → position_from test n xs ≡ None → position_from test (n + 1) xs ≡ None
position-none test n [] h = refl
position-none test n (y ∷ xs) h =
    elim (cases_Bool (test y)) [
      | inl e ↦ absurd (nothing (sym (ap (λ (b : Bool). cond b (Some n) (position_from test (n + 1) xs)) e) ∙ h))
      | inr e ↦
          ap (λ (b : Bool). cond b (Some (n + 1)) (position_from test (n + 1 + 1) xs)) e ∙ position-none test (n + 1) xs (sym (ap (λ (b : Bool). cond b (Some n) (position_from test (n + 1) xs)) e) ∙ h)
    ]
  where
    nothing : Some n ≡ None → ⊥
    nothing h = cc

-- ---- one definition more

-- The numbers of what was there, and of the last.
distinct-more : (definitions : List EventDef) (def : EventDef) → AreDistinct (definition_at definitions) → id_in is_same_event def definitions ≡ 0 → AreDistinct (definition_at (definitions ++ def ∷ []))
distinct-more definitions def distinct none = by_numbers
  where
    by_places : (i j : ℕ) (other : EventDef) → (slice_get definitions i ≡ Some other) ⊎ ((i ≡ length definitions) × (other ≡ def)) → (slice_get definitions j ≡ Some other) ⊎ ((j ≡ length definitions) × (other ≡ def)) → suc i ≡ suc j
    by_places i j other (inl a) (inl b) = distinct (suc i) (suc j) other a b
    by_places i j other (inl a) (inr b) =
        absurd (not-there definitions def none i (subst (λ (d : EventDef). slice_get definitions i ≡ Some d) b.1 a))
    by_places i j other (inr a) (inl b) =
        absurd (not-there definitions def none j (subst (λ (d : EventDef). slice_get definitions j ≡ Some d) a.1 b))
    by_places i j other (inr a) (inr b) = ap (λ (n : ℕ). suc n) (a.0 ∙ sym b.0)

    by_numbers : (i j : ℕ) (other : EventDef) → definition_at (definitions ++ def ∷ []) i ≡ Some other → definition_at (definitions ++ def ∷ []) j ≡ Some other → i ≡ j
    by_numbers zero j other a b = absurd (nothing other a)
      where
        nothing : (other : EventDef) → None ≡ Some other → ⊥
        nothing other h = cc
    by_numbers (suc i) zero other a b = absurd (nothing other b)
      where
        nothing : (other : EventDef) → None ≡ Some other → ⊥
        nothing other h = cc
    by_numbers (suc i) (suc j) other a b =
        by_places i j other (get-more definitions def i other a) (get-more definitions def j other b)

-- A catalog with one more definition that is valid and was not there.
pub catalog-more : (definitions : List EventDef) (def : EventDef) → IsCatalog definitions → IsTrue (is_valid_event def) → length definitions < EVENTS → id_in is_same_event def definitions ≡ 0 → IsCatalog (definitions ++ def ∷ [])
catalog-more definitions def h valid room none =
    record {
      few = omega (arith, room, length-append definitions (def ∷ []));
      valid = All-push (λ d. IsTrue (is_valid_event d)) definitions def h.valid valid;
      distinct = distinct-more definitions def h.distinct none;
    }

-- A table that has all definitions has all that were there before.
pub has-fewer : (definitions : List EventDef) (def : EventDef) (table : ℕ → Option EventDef) → HasAll (with_member is_same_event definitions def) table → HasAll definitions table
has-fewer definitions def table h = by_test (eqb (id_in is_same_event def definitions) 0) h
  where
    longer : (number : ℕ) (other : EventDef) → definition_at definitions number ≡ Some other → definition_at (definitions ++ def ∷ []) number ≡ Some other
    longer zero other e = e
    longer (suc place) other e =
        let here = slice_get_within definitions place other e in
        slice_get-get_or (definitions ++ def ∷ []) place other (omega (arith, here, length-append definitions (def ∷ [])))
        ∙ ap Some (get_or_append_left definitions (def ∷ []) other place here ∙ get_or_from_slice_get definitions place other other e)

    by_test : (is_new : Bool) → HasAll (cond is_new (definitions ++ def ∷ []) definitions) table → HasAll definitions table
    by_test true h = λ number other e. h number other (longer number other e)
    by_test false h = h

-- The catalog after a push that may have found no memory.
pub catalog-pushed : (is_pushed : Bool) (items definitions : List EventDef) (def : EventDef) → items ≡ cond is_pushed (definitions ++ def ∷ []) definitions → IsCatalog definitions → IsTrue (is_valid_event def) → length definitions < EVENTS → id_in is_same_event def definitions ≡ 0 → IsCatalog items
catalog-pushed true items definitions def e h valid room none =
    subst (λ (ds : List EventDef). IsCatalog ds) (sym e) (catalog-more definitions def h valid room none)
catalog-pushed false items definitions def e h valid room none = subst (λ (ds : List EventDef). IsCatalog ds) (sym e) h

-- The number of the definition that was pushed is one more than the count of the others.
pub pushed-number : (items definitions : List EventDef) (def : EventDef) (number : ℕ) → items ≡ definitions ++ def ∷ [] → id_in is_same_event def definitions ≡ 0 → number ≡ length definitions + 1 → number ≡ id_in is_same_event def items
pushed-number items definitions def number e none count =
    count ∙ sym (id-new definitions def none) ∙ ap (λ (ds : List EventDef). id_in is_same_event def ds) (sym e)
