-- What a machine wants of definitions, with one more.
use Rattle.std.proofs.Common.{◌≡◌, ℕ, zero, suc, ◌⊎◌, Bool, true, false, List, [], ◌∷◌, ◌++◌, length, Some, refl, sym, ap, ◌∙◌, inl, inr}
use Rattle.std.specs.Prelude.{IsTrue, slice_get}
use Rattle.std.specs.List.{list_all, list_any}
use Rattle.std.proofs.lemmas.Bool.{or_parts}
use Rattle.std.proofs.lemmas.List.Folds.{list_all-append}
use Rattle.ep_defs.specs.declared.event.EventDef.{EventDef}
use Rattle.ep_defs.specs.Definitions.{AreDistinct}
use Rattle.ep_defs.specs.Event.{is_valid_event, is_same_event}
use Rattle.ep_defs.proofs.Sameness.{event-itself}
use Rattle.ep_rundown.specs.Rundown.{rundown_def, lacks_rundown}
use Rattle.ep_model.specs.History.{event_at}

-- One valid definition more.
pub all-more : (events : List EventDef) (def : EventDef) → IsTrue (list_all is_valid_event events) → IsTrue (is_valid_event def) → IsTrue (list_all is_valid_event (events ++ def ∷ []))
all-more events def all one = rw (list_all-append, all, one) refl

-- One more that is not the rundown's.
pub lacks-more : (events : List EventDef) (def : EventDef) → IsTrue (lacks_rundown events) → is_same_event def rundown_def ≡ false → IsTrue (lacks_rundown (events ++ def ∷ []))
lacks-more events def all other = rw (list_all-append, all, other) refl

-- A place among the definitions is one of those before, or that of the new one.
get-more : (events : List EventDef) (def : EventDef) (i : ℕ) (a : EventDef) → slice_get (events ++ def ∷ []) i ≡ Some a → (slice_get events i ≡ Some a) ⊎ ((i ≡ length events) × (a ≡ def))
get-more [] def zero a h = inr (refl, cc)
get-more [] def (suc i) a h = cc
get-more (e ∷ events) def zero a h = inl h
get-more (e ∷ events) def (suc i) a h =
    elim (get-more events def i a h) [ inl was ↦ inl was | inr new ↦ inr (ap suc new.0, new.1) ]

-- So is a number.
at-more : (events : List EventDef) (def : EventDef) (i : ℕ) (a : EventDef) → event_at (events ++ def ∷ []) i ≡ Some a → (event_at events i ≡ Some a) ⊎ ((i ≡ suc (length events)) × (a ≡ def))
at-more events def zero a h = cc
at-more events def (suc i) a h =
    elim (get-more events def i a h) [ inl was ↦ inl was | inr new ↦ inr (ap suc new.0, new.1) ]

-- None of the definitions passes a test that no definition passes.
any-get : (test : EventDef → Bool) (events : List EventDef) (i : ℕ) (a : EventDef) → list_any test events ≡ false → slice_get events i ≡ Some a → test a ≡ false
any-get test [] i a none h = cc
any-get test (e ∷ events) zero a none h =
    let is : e ≡ a = cc in
    ap test (sym is) ∙ (or_parts (test e) (list_any test events) none).0
any-get test (e ∷ events) (suc i) a none h = any-get test events i a (or_parts (test e) (list_any test events) none).1 h

-- A definition that is like none of these stands at no number of theirs.
new-not_at : (events : List EventDef) (def : EventDef) (i : ℕ) (a : EventDef) → list_any (λ other. is_same_event other def) events ≡ false → event_at events i ≡ Some a → a ≡ def → ⊥
new-not_at events def zero a new at is = cc
new-not_at events def (suc i) a new at is =
    let unlike = any-get (λ other. is_same_event other def) events i a new at in
    let like : is_same_event a def ≡ true = ap (λ d. is_same_event d def) is ∙ event-itself def in
    cc

-- With one that is like none of them no definition stands at two numbers.
pub distinct-more : (events : List EventDef) (def : EventDef) → AreDistinct (event_at events) → list_any (λ other. is_same_event other def) events ≡ false → AreDistinct (event_at (events ++ def ∷ []))
distinct-more events def distinct new i j a at_i at_j =
    elim (at-more events def i a at_i) [
      | inl was_i ↦ elim (at-more events def j a at_j) [
        | inl was_j ↦ distinct i j a was_i was_j
        | inr new_j ↦ absurd (new-not_at events def i a new was_i new_j.1)
      ]
      | inr new_i ↦ elim (at-more events def j a at_j) [
        | inl was_j ↦ absurd (new-not_at events def j a new was_j new_i.1)
        | inr new_j ↦ new_i.0 ∙ sym new_j.0
      ]
    ]
