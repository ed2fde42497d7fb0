-- The one slot of rows in a list, with which tests try a session.
use Rattle.std.specs.Prelude.{◌≡◌, ℕ, zero, suc, ◌≤◌, true, false, ◌==◌, if◌then◌else◌, List, Option, None, Some, option_map, slice_index_or, length, refl}
use Rattle.std.proofs.Common.{ap, sym, subst, suc-le-suc, zero-le}
use Rattle.std.proofs.lemmas.List.{get_or_past}
use Rattle.ep_stream.specs.Rows.{IsRow}

-- By row and slot, what a function says of what stands at the row's place.
abbrev pub at_slot : {A B : Type 0} → (A → B) → List (Option A) → ℕ → ℕ → Option B
at_slot f cells row slot = if slot == 3 then option_map f (slice_index_or cells row None) else None

-- By slot, a count that this one alone has.
abbrev pub counted_at : ℕ → ℕ → ℕ
counted_at count slot = if slot == 3 then count else 0

-- What stands at each place has the place's number.
abbrev pub AreNumbered : {A : Type 0} → (A → ℕ) → List (Option A) → Type 0
AreNumbered {A} number cells = (r : ℕ) (x : A) → slice_index_or cells r None ≡ Some x → number x ≡ r

none_at : {A : Type 0} (cells : List (Option A)) (row : ℕ) → length cells ≡ 3 → slice_index_or cells 0 None ≡ None → (IsRow 2 row → ⊥) → slice_index_or cells row None ≡ None
none_at cells zero count first none = first
none_at cells (suc zero) count first none = absurd (none (suc-le-suc zero-le, suc-le-suc zero-le))
none_at cells (suc (suc zero)) count first none = absurd (none (suc-le-suc zero-le, suc-le-suc (suc-le-suc zero-le)))
none_at cells (suc (suc (suc row))) count first none =
    get_or_past cells (suc (suc (suc row))) None (subst (λ (n : ℕ). n ≤ suc (suc (suc row))) (sym count) (suc-le-suc (suc-le-suc (suc-le-suc zero-le))))

-- Nothing is said of what is no row.
pub none_there : {A B : Type 0} (f : A → B) (cells : List (Option A)) (row slot : ℕ) → length cells ≡ 3 → slice_index_or cells 0 None ≡ None → (IsRow 2 row → ⊥) → at_slot f cells row slot ≡ None
none_there f cells row slot count first none =
    elim (slot == 3) as (λ v. (if v then option_map f (slice_index_or cells row None) else None) ≡ None) [
      | true ↦ ap (option_map f) (none_at cells row count first none)
      | false ↦ refl
    ]
