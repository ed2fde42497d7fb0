-- What the machine needs of its parts to make a step. Of its past it knows only that there is one.
use Rattle.std.proofs.Common.{◌≡◌, ℕ, false, Option, Some, None, Result, Ok, Err, OnOk, refl, ap, sym, ◌∙◌, subst}
use Rattle.std.specs.Prelude.{◌==◌, position, slice_get}
use Rattle.std.specs.Result.{is_err}
use Rattle.std.proofs.Math.Logic.{∥∥₁_elim, ∥∥₁_map}
use Rattle.std.proofs.Math.Option.{Path-none_prop}
use Rattle.std.proofs.Props.{props}
use Rattle.ep_defs.specs.declared.limits.TheConstants.{THREADS}
use Rattle.ep_model.specs.declared.step.Step.{Step}
use Rattle.ep_model.specs.declared.step.Step.TheVariants as step
use Rattle.ep_row.specs.Row.{RowState}
use Rattle.ep_stream.specs.Rows.{IsRow}
use Rattle.ep_rows.specs.Rows.{told_of}
use Rattle.ep_tables.specs.declared.tables.Present.{Present}
use Rattle.ep_tables.specs.declared.tables.Tables.{Tables}
use Rattle.ep_tables.specs.Can.{CanMake, HasRow, HasPlace, IsQuiet}
use Rattle.ep_tables.specs.Tables.{row_of}

-- A fact that can be found once it is known to hold.
abbrev pub IsFound : Type 0 → Type 0
IsFound A = ∥ A ∥₁ → A

-- A fact that can hold in one way is found.
in_one_way : {A : Type 0} → IsProp A → IsFound A
in_one_way prop there = ∥∥₁_elim there prop (λ fact. fact)

both_found : {A B : Type 0} → IsFound A → IsFound B → IsFound (A × B)
both_found a b there = (a (∥∥₁_map there (λ both. both.0)), b (∥∥₁_map there (λ both. both.1)))

-- The tables say which row a thread has.
row_found : (tables : Tables) (thread : ℕ) (Holds : RowState → Type 0) → ((row : RowState) → IsFound (Holds row)) → IsFound (HasRow tables thread Holds)
row_found tables thread Holds found there = at (row_of tables thread) refl
  where
    at : (read : Option ℕ) → row_of tables thread ≡ read → HasRow tables thread Holds
    at (Some row) own =
        let known : ∥ IsRow THREADS row × Holds ((told_of tables.rows).row row) ∥₁ = ∥∥₁_map there (λ h.
        let same : h.row ≡ row = cc in
        (subst (λ r. IsRow THREADS r) same h.is_row, subst (λ r. Holds ((told_of tables.rows).row r)) same h.holds)) in
        record { row = row; own = own; is_row = in_one_way (hlevel props) (∥∥₁_map known (λ h. h.0)); holds = found _ (∥∥₁_map known (λ h. h.1)) }
    at None own = absurd (∥∥₁_elim there (hlevel props) (λ h. let no = h.own in cc))

-- The first place that is right, and what stands there.
record Stood {A : Type 0} (first : Option ℕ) (read : ℕ → Option A) (Holds : A → Type 0) : Type 0 where
  pub place : ℕ
  pub first_is : first ≡ Some place
  pub one : A
  pub there : read place ≡ Some one
  pub holds : Holds one

same_one : {A : Type 0} (place : ℕ) (read : ℕ → Option A) (one : A) (Holds : A → Type 0) → read place ≡ Some one → (h : Stood (Some place) read Holds) → h.one ≡ one
same_one place read one Holds is h =
    let first = h.first_is in
    let same : h.place ≡ place = cc in
    let there : read place ≡ Some h.one = ap read (sym same) ∙ h.there in
    cc

stood_at : {A : Type 0} (Holds : A → Type 0) → ((one : A) → IsFound (Holds one)) → (place : ℕ) (read : ℕ → Option A) (found : Option A) → read place ≡ found → IsFound (Stood (Some place) read Holds)
stood_at Holds holds place read (Some one) is there =
    record { place = place; first_is = refl; one = one; there = is; holds = holds one (∥∥₁_map there (λ h. subst Holds (same_one place read one Holds is h) h.holds)) }
stood_at Holds holds place read None is there =
    absurd (∥∥₁_elim there (hlevel props) (λ h. let first = h.first_is in let same : h.place ≡ place = cc in let no : read place ≡ Some h.one = ap read (sym same) ∙ h.there in cc))

stood_found : {A : Type 0} (Holds : A → Type 0) → ((one : A) → IsFound (Holds one)) → (first : Option ℕ) (read : ℕ → Option A) → IsFound (Stood first read Holds)
stood_found Holds holds (Some place) read there = stood_at Holds holds place read (read place) refl there
stood_found Holds holds None read there = absurd (∥∥₁_elim there (hlevel props) (λ h. let first = h.first_is in cc))

-- The tables say where a session stands.
place_found : (tables : Tables) (session : ℕ) (Holds : Present → Type 0) → ((present : Present) → IsFound (Holds present)) → IsFound (HasPlace tables session Holds)
place_found tables session Holds holds there =
    let h = stood_found Holds holds (position (λ (p : Present). p.number == session) tables.present.items) (λ place. slice_get tables.present.items place)
    (∥∥₁_map there (λ h. record { place = h.place; first_is = h.first; one = h.present; there = h.there; holds = h.holds })) in
    record { place = h.place; first = h.first_is; present = h.one; there = h.there; holds = h.holds }

-- What a step finds in the tables is there once it is known to be.
pub can_found : (s : Step) (tables : Tables) → IsFound (CanMake s tables)
can_found (step.Accept s config) tables there = in_one_way (hlevel props) there
can_found (step.Enter t) tables there = in_one_way (hlevel props) there
can_found (step.Leave t) tables there = row_found tables t _ (λ row. in_one_way (hlevel props)) there
can_found (step.Open s t) tables there = place_found tables s _ (λ present. row_found tables t _ (λ row. in_one_way (hlevel (props, Path-none_prop)))) there
can_found (step.Begin t stamp write) tables there = (
  row_found tables t IsQuiet (λ row. in_one_way (hlevel props)) (∥∥₁_map there (λ h. h.0)),
  in_one_way (hlevel props) (∥∥₁_map there (λ h. h.1)),
  in_one_way (hlevel props) (∥∥₁_map there (λ h. h.2)),
  in_one_way (hlevel props) (∥∥₁_map there (λ h. h.3)),
  in_one_way (hlevel props) (∥∥₁_map there (λ h. h.4)),
)
can_found (step.Show t s) tables there = place_found tables s _ (λ present. row_found tables t _ (λ row. in_one_way (hlevel props))) there
can_found (step.End t) tables there = row_found tables t _ (λ row. in_one_way (hlevel props)) there
can_found (step.Steal s t) tables there = place_found tables s _ (λ present. both_found (row_found tables t _ (λ row. in_one_way (hlevel props))) (in_one_way (hlevel props))) there
can_found (step.Close s t) tables there = place_found tables s _ (λ present. both_found (row_found tables t _ (λ row. in_one_way (hlevel props))) (in_one_way (hlevel props))) there
can_found (step.Give s) tables there = place_found tables s _ (λ present. in_one_way (hlevel props)) there
can_found (step.Point s stamp) tables there = place_found tables s _ (λ present. in_one_way (hlevel props)) there
can_found (step.Finish s stamp) tables there = place_found tables s _ (λ present. in_one_way (hlevel (props, Path-none_prop))) there

-- What holds where a call went well, of one that did.
pub went_well : {A E P : Type 0} (result : Result A E) → is_err result ≡ false → OnOk result P → P
went_well (Ok a) well holds = holds
went_well (Err e) well holds = cc
