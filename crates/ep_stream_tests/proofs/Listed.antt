-- What stands at the places of a list, for the rows of tests.
use Rattle.std.proofs.Common.{◌≡◌, ℕ, zero, suc, ◌+◌, ◌<◌, true, false, List, Option, None, Some, length, refl, ap, sym, ◌∙◌, subst, arith}
use Rattle.std.specs.List.{sum_by}
use Rattle.std.specs.Prelude.{slice_index_or, slice_set, option_map, ◌==◌, if◌then◌else◌}
use Rattle.std.proofs.lemmas.Bool.{eqb-true, eqb-false}
use Rattle.std.specs.Option.{is_some}
use Rattle.std.proofs.lemmas.List.{get_or-set_same, get_or-set_other}
use Rattle.std.proofs.lemmas.List.Sums.{sum_by-set}
use Rattle.std.proofs.lemmas.Option.{none-some}
use Rattle.ep_stream.specs.Rows.{IsRow}
use Rattle.ep_stream_tests.specs.OneSlot.{at_slot}

-- What is expected is open in the slot.
is_there : {B : Type 0} (x : Option B) (slot : ℕ) (y : B) → (if slot == 3 then x else None) ≡ Some y → (slot ≡ 3) × (x ≡ Some y)
is_there x slot y is =
    elim (slot == 3) as (λ v. (slot == 3) ≡ v → (if v then x else None) ≡ Some y → (slot ≡ 3) × (x ≡ Some y)) [
      | true ↦ λ same is. (eqb-true slot 3 same, is)
      | false ↦ λ _ is. absurd (none-some y is)
    ]
    refl is

-- A function says this of what is open.
pub said : {A B : Type 0} (f : A → B) (cell : Option A) (x : A) (y : B) → cell ≡ Some x → option_map f cell ≡ Some y → f x ≡ y
said f cell x y is says = cc

cell_set : {A : Type 0} (cells : List (Option A)) (row : ℕ) (cell : Option A) (r : ℕ) → row < length cells → slice_index_or (slice_set cells row cell) r None ≡ (if r == row then cell else slice_index_or cells r None)
cell_set cells row cell r within =
    elim (r == row) as (λ v. (r == row) ≡ v → slice_index_or (slice_set cells row cell) r None ≡ (if v then cell else slice_index_or cells r None)) [
      | true ↦ λ same. ap (λ (n : ℕ). slice_index_or (slice_set cells row cell) n None) (eqb-true r row same) ∙ get_or-set_same cells row cell None within
      | false ↦ λ other. get_or-set_other cells row r cell None (eqb-false r row other)
    ]
    refl

-- Nothing is put down at the place before the rows.
pub first_set : {A : Type 0} (cells : List (Option A)) (row : ℕ) (cell : Option A) → 0 < row → slice_index_or cells 0 None ≡ None → slice_index_or (slice_set cells row cell) 0 None ≡ None
first_set cells row cell some first = get_or-set_other cells row 0 cell None (λ (e : 0 ≡ row). omega (arith, e, some)) ∙ first

-- What holds of what is open at each place still holds.
pub all_set : {A : Type 0} (P : ℕ → A → Type 0) (cells : List (Option A)) (row : ℕ) (cell : Option A) → row < length cells → ((x : A) → cell ≡ Some x → P row x) → ((r : ℕ) (x : A) → slice_index_or cells r None ≡ Some x → P r x)
    → (r : ℕ) (x : A) → slice_index_or (slice_set cells row cell) r None ≡ Some x → P r x
all_set P cells row cell within here all r x is =
    elim (r == row) as (λ v. (r == row) ≡ v → (if v then cell else slice_index_or cells r None) ≡ Some x → P r x) [
      | true ↦ λ same is. subst (λ (n : ℕ). P n x) (sym (eqb-true r row same)) (here x is)
      | false ↦ λ _ is. all r x is
    ]
    refl (sym (cell_set cells row cell r within) ∙ is)

-- Something is said of a place where something is open, and there alone.
pub is_there_as : {A B : Type 0} (f : A → B) (cells : List (Option A)) (row slot : ℕ) → slot ≡ 3 → is_some (slice_index_or cells row None) ≡ is_some (at_slot f cells row slot)
is_there_as f cells row slot is = subst (λ (s : ℕ). is_some (slice_index_or cells row None) ≡ is_some (at_slot f cells row s)) (sym is) (mapped f (slice_index_or cells row None))
  where
    mapped : {A B : Type 0} (f : A → B) (x : Option A) → is_some x ≡ is_some (option_map f x)
    mapped f None = refl
    mapped f (Some x) = refl

-- Nothing is said of any row, where nothing is said of the two that there are.
pub none_of_two : {A : Type 0} (hand : ℕ → Option A) → hand 1 ≡ None → hand 2 ≡ None → ((row : ℕ) → (IsRow 2 row → ⊥) → hand row ≡ None) → (row : ℕ) → hand row ≡ None
none_of_two hand one two outside zero = outside 0 (λ (h : IsRow 2 0). omega (arith, h.0))
none_of_two hand one two outside (suc zero) = one
none_of_two hand one two outside (suc (suc zero)) = two
none_of_two hand one two outside (suc (suc (suc row))) = outside (suc (suc (suc row))) (λ (h : IsRow 2 (suc (suc (suc row)))). omega (arith, h.1))

-- What is open at each place has the place's number.
pub number_there : {A B : Type 0} (f : A → B) (number : B → ℕ) (cells : List (Option A)) (row slot : ℕ) (y : B) → ((r : ℕ) (x : A) → slice_index_or cells r None ≡ Some x → number (f x) ≡ r)
    → at_slot f cells row slot ≡ Some y → number y ≡ row
number_there {A = A} f number cells row slot y all is = from (slice_index_or cells row None) refl (is_there (option_map f (slice_index_or cells row None)) slot y is).1
  where
    from : (old : Option A) → slice_index_or cells row None ≡ old → option_map f old ≡ Some y → number y ≡ row
    from None is e = absurd (cc)
    from (Some x) is e = let same : y ≡ f x = cc in ap number same ∙ all row x is

-- What is set has nothing that is counted.
pub sum_less : {A : Type 0} (f : Option A → ℕ) (cells : List (Option A)) (row : ℕ) (cell : Option A) → row < length cells → f cell ≡ 0 → sum_by f (slice_set cells row cell) + f (slice_index_or cells row None) ≡ sum_by f cells
sum_less f cells row cell within none = let e = sum_by-set f cells row cell None within in omega (arith, e, none)
