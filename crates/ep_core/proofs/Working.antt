-- What the parts of the machine stand for before and after a step.
use Rattle.std.proofs.Common.{◌≡◌, ◌<◌, ◌-◌, ℕ, List, length, Option, Some, Result, Ok, Err, OnOk, refl, ap, ◌∙◌, subst, arith}
use Rattle.std.specs.Prelude.{slice_get, slice_index_or}
use Rattle.std.proofs.lemmas.Option.{slice_get_read}
use Rattle.std.proofs.Math.Logic.{∥∥₁_elim}
use Rattle.std.proofs.Math.Bridge.{le_prop}
use Rattle.ep_defs.specs.declared.limits.TheConstants.{THREADS}
use Rattle.ep_defs.specs.declared.session.Write.{Write}
use Rattle.nt_write.specs.declared.fault.Fault.{Fault}
use Rattle.nt_write.specs.declared.fault.Fault.TheVariants.{WriteFault, TooLong, OutOfMemory}
use Rattle.ep_model.specs.declared.step.Step.{Step}
use Rattle.ep_stream.specs.Fates.{fate_after}
use Rattle.ep_stream.specs.Rows.{IsRow}
use Rattle.ep_stream.specs.declared.session.Fate.TheVariants.{ProgramEnd, Requested}
use Rattle.ep_tables.specs.declared.tables.Tables.{Tables}
use Rattle.ep_tables.specs.Tied.{AreTied}
use Rattle.ep_core_laws.specs.Works.{CanGoOn}
use Rattle.ep_core.proofs.Once.{AreTied-prop}

-- What follows where a call answered no error.
pub ok_both : {A E P Q R : Type 0} (result : Result A E) → OnOk result P → OnOk result Q → (P → Q → R) → OnOk result R
ok_both (Ok a) p q f = f p q
ok_both (Err e) p q f = tt

-- The same, where the answer is that of a call behind it.
pub ok_made : {E P Q R : Type 0} (result : Result (Unit {0}) Fault) (answer : Result (Unit {0}) E) → OnOk answer (result ≡ Ok tt) → OnOk result P → OnOk result Q → (P → Q → R) → OnOk answer R
ok_made {P = P} {Q = Q} result (Ok u) is p q f = f (subst (λ r. OnOk r P) is p) (subst (λ r. OnOk r Q) is q)
ok_made result (Err e) is p q f = tt

-- A session of a schedule was requested by no connection.
pub not_requested : (answer : Result (Unit {0}) Fault) (conn : ℕ) → fate_after answer ProgramEnd ≡ Requested conn → ⊥
not_requested (Ok u) conn is = cc
not_requested (Err WriteFault) conn is = cc
not_requested (Err TooLong) conn is = cc
not_requested (Err OutOfMemory) conn is = cc

-- ---- what is known of the tables, whichever steps led here

pub tied_once : {step : Step} {tables : Tables} {begun : List (Option Write)} → ∥ CanGoOn step tables begun ∥₁ → AreTied tables
tied_once {tables = tables} goes = ∥∥₁_elim goes (AreTied-prop tables) (λ goes. goes.before.works.tied)

-- A row has its place in the list.
pub place_within : {step : Step} {tables : Tables} {begun : List (Option Write)} (row : ℕ) → ∥ CanGoOn step tables begun ∥₁ → IsRow THREADS row → row - 1 < length begun
place_within row goes is_row = ∥∥₁_elim goes le_prop (λ goes. let count = goes.before.works.begun_count in let first = is_row.0 in let last = is_row.1 in omega (arith, count, first, last))

-- What is read at a place of a list is there.
pub read_is : {A : Type 0} (xs : List A) (i : ℕ) (x y : A) → i < length xs → x ≡ slice_index_or xs i x → x ≡ y → slice_get xs i ≡ Some y
read_is xs i x y within reads is = slice_get_read xs (length xs) i x refl within reads ∙ ap Some is
