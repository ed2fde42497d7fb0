-- The writes that threads are in are those that they began last.
use Rattle.std.proofs.Common.{◌≡◌, ℕ, ◌-◌, true, List, [], ◌∷◌, length, Option, Some, refl, ap, sym, ◌∙◌, subst, arith, if◌then◌else◌, set}
use Rattle.std.specs.Prelude.{slice_get}
use Rattle.std.proofs.lemmas.Bool.{false≢true}
use Rattle.ep_table.proofs.Places.{get-set, get-set_other}
use Rattle.ep_defs.specs.declared.limits.TheConstants.{THREADS}
use Rattle.ep_defs.specs.declared.event.EventDef.{EventDef}
use Rattle.ep_defs.specs.declared.session.Config.{Config}
use Rattle.ep_defs.specs.declared.session.TraceInfo.{TraceInfo}
use Rattle.ep_defs.specs.declared.session.Write.{Write}
use Rattle.ep_model.specs.declared.step.Step.{Step}
use Rattle.ep_model.specs.declared.step.Step.TheVariants as step
use Rattle.ep_model.specs.History.{Past, Begun, last_begun}
use Rattle.ep_slot.specs.Slot.{is_refused}
use Rattle.ep_row.specs.Row.{RowState}
use Rattle.ep_stream.specs.Rows.{IsRow}
use Rattle.ep_stream.specs.Session.{rest_of}
use Rattle.ep_stream.specs.Steps.{ToldRows, OpensRow, ClosesRow}
use Rattle.ep_rows.specs.Rows.{told_of}
use Rattle.ep_rows.specs.Shows.{ShowsRow, shown_slot}
use Rattle.ep_rows.specs.Writes.{BeginsRow, EndsRow, LeavesRow, EntersRow}
use Rattle.ep_tables.specs.declared.tables.Tables.{Tables}
use Rattle.ep_tables.specs.Tables.{TablesFollow, row_of}
use Rattle.ep_tables.proofs.Found.{row_found}
use Rattle.ep_core_laws.specs.Kept.{IsLast}
use Rattle.ep_tables.specs.Made.{MakesAccept, MakesEnter, MakesLeave, MakesOpen, MakesBegin, MakesShow, MakesEnd, MakesSteal, MakesGive, MakesPoint, MakesClose, MakesFinish, IsStart}
use Rattle.ep_core_laws.proofs.Follow.{each_row, own_row}
use Rattle.ep_core_laws.specs.Rests.{AreAtRest, AreBegun}
use Rattle.ep_core_laws.proofs.RestTurns.{given_same, pointed_same}

-- ---- a step that begins no write

-- A row that is in a write was in it before.
record StillIn (old new : RowState) : Type 0 where
  writing : old.in_write ≡ true
  thread : new.thread ≡ old.thread
  stamp : new.stamp ≡ old.stamp

abbrev StaysIn : RowState → RowState → Type 0
StaysIn old new = new.in_write ≡ true → StillIn old new

stays : (row : RowState) → StaysIn row row
stays row writing = record { writing = writing; thread = refl; stamp = refl }

stays_as : (old new : RowState) → new ≡ old → StaysIn old new
stays_as old new same = subst (StaysIn old) (sym same) (stays old)

begun_on : (past : Past) (s : Step) (old new : ToldRows) (begun : List (Option Write)) → ((t : ℕ) → last_begun t (s ∷ past) ≡ last_begun t past) → ((r : ℕ) → IsRow THREADS r → StaysIn (old.row r) (new.row r))
    → AreBegun past old begun → AreBegun (s ∷ past) new begun
begun_on past s old new begun same rows h =
    record {
      kept = λ r is_row writing.
          let still = rows r is_row writing in
          let was = h.kept r is_row still.writing in
          let Last : ℕ → Type 0 = λ stamp. IsLast (new.row r).thread (s ∷ past) stamp was.0 in
          (was.0, was.1, subst Last (sym still.stamp) (same (new.row r).thread ∙ ap (λ t. last_begun t past) still.thread ∙ was.2));
    }

begun_same : (past : Past) (s : Step) (old new : ToldRows) (begun : List (Option Write)) → ((t : ℕ) → last_begun t (s ∷ past) ≡ last_begun t past) → ((r : ℕ) → new.row r ≡ old.row r) → AreBegun past old begun → AreBegun (s ∷ past) new begun
begun_same past s old new begun same rows h = begun_on past s old new begun same (λ r is_row. stays_as (old.row r) (new.row r) (rows r)) h

-- ---- threads

pub begin_begun : (events : List EventDef) (past : Past) (thread stamp : ℕ) (write : Write) (old new : Tables) (begun : List (Option Write)) → TablesFollow events past old → (m : MakesBegin thread stamp write old new) → length begun ≡ THREADS
    → AreBegun past (told_of old.rows) begun → AreBegun (step.Begin thread stamp write ∷ past) (told_of new.rows) (set begun (m.own.row - 1) (Some write))
begin_begun events past thread stamp write old new begun h m long b =
    let row = m.own.row in
    let above = m.own.is_row.0 in
    let before = told_of old.rows in
    let after = told_of new.rows in
    let later = step.Begin thread stamp write ∷ past in
    let own = own_row events past old thread row h m.own.own in
    let it : Begun = record { stamp = stamp; write = write } in
    record {
      kept = each_row row (BeginsRow stamp write) before after
          (λ r R S. IsRow THREADS r → S.in_write ≡ true → (w : Write) × (slice_get (set begun (row - 1) (Some write)) (r - 1) ≡ Some (Some w)) × IsLast S.thread later S.stamp w) m.own.rows.rows
          (λ begins at _.
          let Last : RowState → Type 0 = λ S. IsLast S.thread later S.stamp write in (
            write,
            get-set begun (row - 1) (Some write) (omega (arith, long, at.0, at.1)),
            subst Last (sym begins.row) (ap (λ b. if b then Some it else last_begun (before.row row).thread past) own.here),
          ))
          (λ r other at writing.
          let was = b.kept r at writing in (
            was.0,
            get-set_other begun (row - 1) (r - 1) (Some write) (λ same. other (omega (arith, same, above, at.0))) ∙ was.1,
            ap (λ b. if b then Some it else last_begun (before.row r).thread past) (own.others r at other) ∙ was.2,
          ));
    }

-- The thread that left the row is in no write.
pub enter_begun : (events : List EventDef) (past : Past) (thread : ℕ) (old new : Tables) (begun : List (Option Write)) → AreAtRest events past old → MakesEnter thread old new → AreBegun past (told_of old.rows) begun → AreBegun (step.Enter thread ∷ past) (told_of new.rows) begun
enter_begun events past thread old new begun rest m =
    let before = told_of old.rows in
    begun_on past (step.Enter thread) before (told_of new.rows) begun (λ t. refl)
    (each_row m.row (EntersRow thread) before (told_of new.rows) (λ r R S. IsRow THREADS r → StaysIn R S) m.rows.rows
    (λ enters at writing. absurd (false≢true (sym ((rest.rows m.row at).left m.left) ∙ sym (ap (λ (R : RowState). R.in_write) enters.row) ∙ writing)))
    (λ r other at. stays (before.row r)))

pub leave_begun : (past : Past) (thread : ℕ) (old new : Tables) (begun : List (Option Write)) → MakesLeave thread old new → AreBegun past (told_of old.rows) begun → AreBegun (step.Leave thread ∷ past) (told_of new.rows) begun
leave_begun past thread old new begun m =
    let before = told_of old.rows in
    begun_on past (step.Leave thread) before (told_of new.rows) begun (λ t. refl)
    (each_row m.own.row LeavesRow before (told_of new.rows) (λ r R S. IsRow THREADS r → StaysIn R S) m.own.rows.rows
    (λ leaves at. subst (StaysIn (before.row m.own.row)) (sym leaves.row) (λ writing. record { writing = writing; thread = refl; stamp = refl })) (λ r other at. stays (before.row r)))

pub end_begun : (past : Past) (thread : ℕ) (old new : Tables) (begun : List (Option Write)) → MakesEnd thread old new → AreBegun past (told_of old.rows) begun → AreBegun (step.End thread ∷ past) (told_of new.rows) begun
end_begun past thread old new begun m =
    let before = told_of old.rows in
    begun_on past (step.End thread) before (told_of new.rows) begun (λ t. refl)
    (each_row m.own.row EndsRow before (told_of new.rows) (λ r R S. IsRow THREADS r → StaysIn R S) m.own.rows.rows
    (λ ends at writing. absurd (false≢true (sym (ap (λ (R : RowState). R.in_write) ends.row) ∙ writing))) (λ r other at. stays (before.row r)))

pub show_begun : (past : Past) (thread session : ℕ) (write : Write) (old new : Tables) (begun : List (Option Write)) → MakesShow thread session write old new → AreBegun past (told_of old.rows) begun → AreBegun (step.Show thread session ∷ past) (told_of new.rows) begun
show_begun past thread session write old new begun m =
    let before = told_of old.rows in
    begun_on past (step.Show thread session) before (told_of new.rows) begun (λ t. refl)
    (each_row m.row (ShowsRow m.present.slot (shown_slot (is_refused m.shown) m.rows.buffer (before.row m.row).stamp write)) before (told_of new.rows) (λ r R S. IsRow THREADS r → StaysIn R S) m.rows.rows
    (λ shows at. subst (StaysIn (before.row m.row)) (sym shows.others) (λ writing. record { writing = writing; thread = refl; stamp = refl })) (λ r other at. stays (before.row r)))

-- ---- sessions

pub open_begun : (past : Past) (session thread : ℕ) (old new : Tables) (begun : List (Option Write)) → MakesOpen session thread old new → AreBegun past (told_of old.rows) begun → AreBegun (step.Open session thread ∷ past) (told_of new.rows) begun
open_begun past session thread old new begun m =
    let before = told_of old.rows in
    let was = m.one.was in
    begun_on past (step.Open session thread) before (told_of new.rows) begun (λ t. refl)
    (each_row m.row (OpensRow old.events.items was.slot (rest_of was.session).seat.id (rest_of was.session).config) before (told_of new.rows) (λ r R S. IsRow THREADS r → StaysIn R S) m.one.changes.told.rows
    (λ opens at. subst (StaysIn (before.row m.row)) (sym opens.others) (λ writing. record { writing = writing; thread = refl; stamp = refl })) (λ r other at. stays (before.row r)))

pub close_begun : (past : Past) (session thread : ℕ) (old new : Tables) (begun : List (Option Write)) → MakesClose session thread old new → AreBegun past (told_of old.rows) begun → AreBegun (step.Close session thread ∷ past) (told_of new.rows) begun
close_begun past session thread old new begun m =
    let before = told_of old.rows in
    begun_on past (step.Close session thread) before (told_of new.rows) begun (λ t. refl)
    (each_row m.row (ClosesRow m.one.was.slot) before (told_of new.rows) (λ r R S. IsRow THREADS r → StaysIn R S) m.one.changes.told.rows
    (λ closes at. subst (StaysIn (before.row m.row)) (sym closes.others) (λ writing. record { writing = writing; thread = refl; stamp = refl })) (λ r other at. stays (before.row r)))

pub steal_begun : (past : Past) (session thread : ℕ) (old new : Tables) (begun : List (Option Write)) → MakesSteal session thread old new → AreBegun past (told_of old.rows) begun → AreBegun (step.Steal session thread ∷ past) (told_of new.rows) begun
steal_begun past session thread old new begun m = begun_same past (step.Steal session thread) (told_of old.rows) (told_of new.rows) begun (λ t. refl) m.one.changes.told.rows

pub give_begun : (past : Past) (session : ℕ) (old new : Tables) (begun : List (Option Write)) → MakesGive session old new → AreBegun past (told_of old.rows) begun → AreBegun (step.Give session ∷ past) (told_of new.rows) begun
give_begun past session old new begun m = begun_same past (step.Give session) (told_of old.rows) (told_of new.rows) begun (λ t. refl) (given_same session old new m).rows

pub point_begun : (past : Past) (session stamp : ℕ) (old new : Tables) (begun : List (Option Write)) → MakesPoint session stamp old new → AreBegun past (told_of old.rows) begun → AreBegun (step.Point session stamp ∷ past) (told_of new.rows) begun
point_begun past session stamp old new begun m = begun_same past (step.Point session stamp) (told_of old.rows) (told_of new.rows) begun (λ t. refl) (pointed_same session stamp old new m).rows

pub accept_begun : (past : Past) (session : ℕ) (config : Config) (info : TraceInfo) (old new : Tables) (begun : List (Option Write)) → MakesAccept session config info old new → AreBegun past (told_of old.rows) begun
    → AreBegun (step.Accept session config ∷ past) (told_of new.rows) begun
accept_begun past session config info old new begun m = begun_same past (step.Accept session config) (told_of old.rows) (told_of new.rows) begun (λ t. refl) m.rows.rows

pub finish_begun : (past : Past) (session stamp : ℕ) (old new : Tables) (begun : List (Option Write)) → MakesFinish session old new → AreBegun past (told_of old.rows) begun → AreBegun (step.Finish session stamp ∷ past) (told_of new.rows) begun
finish_begun past session stamp old new begun m = begun_same past (step.Finish session stamp) (told_of old.rows) (told_of new.rows) begun (λ t. refl) m.rows.rows

-- ---- the start

pub start_begun : (events : List EventDef) (tables : Tables) (begun : List (Option Write)) → IsStart events tables → AreBegun [] (told_of tables.rows) begun
start_begun events tables begun start =
    record { kept = λ r is_row writing. absurd (false≢true (sym (ap (λ (R : RowState). R.in_write) (start.rows.rows r is_row)) ∙ writing)) }

-- ---- what is kept

some_write : (a b : Write) → Some (Some a) ≡ Some (Some b) → a ≡ b
some_write a b is = cc

pub kept_last : (events : List EventDef) (past : Past) (thread row : ℕ) (write : Write) (tables : Tables) (begun : List (Option Write)) → TablesFollow events past tables → AreBegun past (told_of tables.rows) begun
    → row_of tables thread ≡ Some row → ((told_of tables.rows).row row).in_write ≡ true → slice_get begun (row - 1) ≡ Some (Some write) → IsLast thread past ((told_of tables.rows).row row).stamp write
kept_last events past thread row write tables begun h b own writing at =
    let found = row_found events past tables thread row h (sym own) in
    let kept = b.kept row found.is_row writing in
    let stamp = ((told_of tables.rows).row row).stamp in
    let Last : Write → Type 0 = λ w. IsLast thread past stamp w in
    let On : ℕ → Type 0 = λ t. IsLast t past stamp kept.0 in
    subst Last (some_write kept.0 write (sym kept.1 ∙ at)) (subst On found.thread_is kept.2)
