-- All stay at rest where a write begins, and where threads and sessions come and go; and they are at rest at the start.
use Rattle.std.proofs.Common.{◌≡◌, ℕ, true, false, inl, inr, List, [], ◌∷◌, ◌++◌, length, Some, None, refl, ap, sym, ◌∙◌, subst, if◌then◌else◌}
use Rattle.std.specs.Prelude.{is_some, ◌==◌}
use Rattle.std.specs.List.{list_any, AllByRecursion}
use Rattle.std.proofs.lemmas.Bool.{eqb-true, eq-eqb, cases_eq, false≢true, false_from_ne_true}
use Rattle.ep_defs.specs.declared.limits.TheConstants.{THREADS}
use Rattle.ep_defs.specs.declared.event.EventDef.{EventDef}
use Rattle.ep_defs.specs.declared.session.Config.{Config}
use Rattle.ep_defs.specs.declared.session.TraceInfo.{TraceInfo}
use Rattle.ep_defs.specs.declared.session.Write.{Write}
use Rattle.ep_model.specs.declared.step.Step.TheVariants as step
use Rattle.ep_model.specs.History.{Past, config_of, writes_of}
use Rattle.ep_model.specs.Lawful.{IsLawful}
use Rattle.ep_model.proofs.Lists.{has, eqb_turn}
use Rattle.ep_row.specs.Row.{RowState, slot_of}
use Rattle.ep_row.specs.AtRest.{RowAtRest, SlotAtRest, with_config}
use Rattle.ep_stream.specs.Rows.{IsRow}
use Rattle.ep_rows.specs.Rows.{told_of}
use Rattle.ep_rows.specs.Writes.{BeginsRow, EntersRow}
use Rattle.ep_tables.specs.declared.tables.Present.{Present}
use Rattle.ep_tables.specs.declared.tables.Tables.{Tables}
use Rattle.ep_tables.specs.Tables.{TablesFollow, has_slot, number_of}
use Rattle.ep_tables.proofs.Found.{list_any-map}
use Rattle.ep_tables.proofs.Slots.{none_at}
use Rattle.ep_tables.specs.Made.{MakesAccept, MakesEnter, MakesBegin, MakesFinish, IsStart}
use Rattle.ep_core_laws.proofs.Follow.{each_row, own_row}
use Rattle.ep_tables.proofs.Seats.{free_slot}
use Rattle.ep_core_laws.specs.Rests.{AreAtRest}
use Rattle.ep_core_laws.proofs.RestLists.{All-apart, All-removed}
use Rattle.ep_core_laws.proofs.RestPasts.{enters_unwritten, accepts_absent}
use Rattle.ep_core_laws.proofs.RestRows.{masks_are, slot_on}
use Rattle.ep_core_laws.proofs.Configs.{row_rests_with, slot_rests_more}
use Rattle.ep_core_laws.proofs.Keeping.{IsConfigured, IsKept, configured_still, rests_as, rests_on}

-- ---- a write begins

-- The writes of a row's thread, and those of another row's.
module _ (past : Past) (thread stamp : ℕ) (write : Write) (R : RowState) where
  begun_here : (S : RowState) → (thread == R.thread) ≡ true → S.thread ≡ R.thread → writes_of R.thread past ++ write ∷ [] ≡ writes_of S.thread (step.Begin thread stamp write ∷ past)
  begun_here S own same =
      sym (ap (λ b. if b then writes_of R.thread past ++ write ∷ [] else writes_of R.thread past) own)
      ∙ ap (λ t. writes_of t (step.Begin thread stamp write ∷ past)) (sym same)

  begun_elsewhere : (thread == R.thread) ≡ false → writes_of R.thread past ≡ writes_of R.thread (step.Begin thread stamp write ∷ past)
  begun_elsewhere other = sym (ap (λ b. if b then writes_of R.thread past ++ write ∷ [] else writes_of R.thread past) other)

pub begin_rests : (events : List EventDef) (past : Past) (thread stamp : ℕ) (write : Write) (old new : Tables) → TablesFollow events past old → MakesBegin thread stamp write old new
    → AreAtRest events past old → AreAtRest events (step.Begin thread stamp write ∷ past) new
begin_rests events past thread stamp write old new h m rest =
    let row = m.own.row in
    let before = told_of old.rows in
    let after = told_of new.rows in
    let later = step.Begin thread stamp write ∷ past in
    let own = own_row events past old thread row h m.own.own in
    let changes = m.own.rows.rows in
    let sessions = configured_still events past (step.Begin thread stamp write) old new rest (λ n. refl) m.own.sessions in
    record {
      configs = rest.configs;
      configured = sessions.configured;
      kept = sessions.kept;
      rows = λ r is_row. each_row row (BeginsRow stamp write) before after (λ r R S. IsRow THREADS r → RowAtRest events rest.configs (writes_of R.thread past) R → RowAtRest events rest.configs (writes_of S.thread later) S) changes
          (λ begins at is.
          let R = before.row row in
          let S = after.row row in
          let On : List Write → Type 0 = λ ws. RowAtRest events rest.configs ws S in
          subst On (begun_here past thread stamp write R S own.here (ap (λ (row : RowState). row.thread) begins.row)) (begins.rest events rest.configs (writes_of R.thread past) (masks_are events past old row h at) is))
          (λ r other at is.
          let R = before.row r in
          let On : List Write → Type 0 = λ ws. RowAtRest events rest.configs ws R in
          subst On (begun_elsewhere past thread stamp write R (own.others r at other)) is) r is_row (rest.rows r is_row);
      slots = λ r s is_row slot is. each_row row (BeginsRow stamp write) before after (λ r R S. IsRow THREADS r → SlotAtRest events (rest.configs s) (writes_of R.thread past) slot → SlotAtRest events (rest.configs s) (writes_of S.thread later) slot) changes
          (λ begins at was.
          let R = before.row row in
          let On : List Write → Type 0 = λ ws. SlotAtRest events (rest.configs s) ws slot in
          subst On (begun_here past thread stamp write R (after.row row) own.here (ap (λ (row : RowState). row.thread) begins.row)) (slot_rests_more events (rest.configs s) (writes_of R.thread past) (write ∷ []) slot was))
          (λ r other at was.
          let R = before.row r in
          let On : List Write → Type 0 = λ ws. SlotAtRest events (rest.configs s) ws slot in
          subst On (begun_elsewhere past thread stamp write R (own.others r at other)) was) r is_row (rest.slots r s is_row slot (sym (m.own.rows.slots r s) ∙ is));
    }

-- ---- a thread comes

pub enter_rests : (events : List EventDef) (past : Past) (thread : ℕ) (old new : Tables) → IsLawful events (step.Enter thread ∷ past) → TablesFollow events past old → MakesEnter thread old new
    → AreAtRest events past old → AreAtRest events (step.Enter thread ∷ past) new
enter_rests events past thread old new lawful h m rest =
    let row = m.row in
    let before = told_of old.rows in
    let after = told_of new.rows in
    let changes = m.rows.rows in
    let sessions = configured_still events past (step.Enter thread) old new rest (λ n. refl) m.sessions in
    record {
      configs = rest.configs;
      configured = sessions.configured;
      kept = sessions.kept;
      rows = λ r is_row. each_row row (EntersRow thread) before after (λ r R S. IsRow THREADS r → RowAtRest events rest.configs (writes_of R.thread past) R → RowAtRest events rest.configs (writes_of S.thread past) S) changes
          (λ enters at is.
          let On : List Write → Type 0 = λ ws. RowAtRest events rest.configs ws (after.row row) in
          let none : writes_of (after.row row).thread past ≡ [] = ap (λ (S : RowState). writes_of S.thread past) enters.row ∙ enters_unwritten events thread past lawful in
          subst On (sym none) (enters.rest events rest.configs (writes_of (before.row row).thread past) (masks_are events past old row h at) is))
          (λ r other at is. is) r is_row (rest.rows r is_row);
      slots = λ r s is_row slot is.
          let was : before.slot r s ≡ Some slot = sym (m.rows.slots r s) ∙ is in
          elim (cases_eq r row) [
            | inl same ↦
                let On : ℕ → Type 0 = λ n. is_some (slot_of (before.row n) s) ≡ true in
                absurd (false≢true (sym (none_at (before.row row).slots s m.off) ∙ subst On same (slot_on old r s slot was)))
            | inr other ↦
                let On : RowState → Type 0 = λ R. SlotAtRest events (rest.configs s) (writes_of R.thread past) slot in
                subst On (sym (changes.others r other)) (rest.slots r s is_row slot was)
          ];
    }

-- ---- a session comes

-- What is known of the slot and the number of a session that is accepted.
record Anew (session slot : ℕ) (tables : Tables) : Type 0 where
  absent : list_any (λ (p : Present). p.number == session) tables.present.items ≡ false
  free : has_slot slot tables.present.items ≡ false
  off : (r : ℕ) → IsRow THREADS r → is_some (slot_of ((told_of tables.rows).row r) slot) ≡ false

accept_anew : (events : List EventDef) (past : Past) (session : ℕ) (config : Config) (info : TraceInfo) (old new : Tables) → IsLawful events (step.Accept session config ∷ past) → TablesFollow events past old
    → (m : MakesAccept session config info old new) → Anew session m.now.slot old
accept_anew events past session config info old new lawful h m =
    let free : has_slot m.now.slot old.present.items ≡ false = sym (h.held m.now.slot) ∙ free_slot old.table m.now.slot m.id m.seat in
    record {
      absent = sym (list_any-map (λ n. n == session) number_of old.present.items) ∙ sym (ap (has session) h.present_are) ∙ accepts_absent events session config past lawful;
      free = free;
      off = λ r is_row. false_from_ne_true (is_some (slot_of ((told_of old.rows).row r) m.now.slot)) (λ on. false≢true (sym free ∙ h.on_known r m.now.slot is_row on));
    }

pub accept_rests : (events : List EventDef) (past : Past) (session : ℕ) (config : Config) (info : TraceInfo) (old new : Tables) → IsLawful events (step.Accept session config ∷ past) → TablesFollow events past old
    → MakesAccept session config info old new → AreAtRest events past old → AreAtRest events (step.Accept session config ∷ past) new
accept_rests events past session config info old new lawful h m rest =
    let place = m.now.slot in
    let before = told_of old.rows in
    let after = told_of new.rows in
    let later = step.Accept session config ∷ past in
    let items = old.present.items in
    let configs = with_config rest.configs place config in
    let anew = accept_anew events past session config info old new lawful h m in
    let own : config ≡ configs place = sym (ap (λ b. if b then config else rest.configs place) (eq-eqb place place refl)) in
    record {
      configs = configs;
      configured = subst (AllByRecursion (IsConfigured configs later)) (sym m.sessions) (
        ap (λ b. if b then Some config else config_of m.now.number past) (eq-eqb session m.now.number (sym m.number)) ∙ ap (λ c. Some c) own,
        All-apart (λ (p : Present). p.number == session) (λ (p : Present). p.slot == place) (IsConfigured rest.configs past) (IsConfigured configs later) items anew.absent anew.free
            (λ p number slot is.
            ap (λ b. if b then Some config else config_of p.number past) (eqb_turn p.number session number)
            ∙ is ∙ sym (ap (λ b. Some (if b then config else rest.configs p.slot)) slot)) rest.configured,
      );
      kept = subst (AllByRecursion (IsKept configs)) (sym m.sessions) (
        ap (λ (r : _). r.config) m.rest.1 ∙ own,
        All-apart (λ (p : Present). p.number == session) (λ (p : Present). p.slot == place) (IsKept rest.configs) (IsKept configs) items anew.absent anew.free
            (λ p number slot is. is ∙ sym (ap (λ b. if b then config else rest.configs p.slot) slot)) rest.kept,
      );
      rows = λ r is_row.
          let On : RowState → Type 0 = λ R. RowAtRest events configs (writes_of R.thread past) R in
          subst On (sym (m.rows.rows r)) (row_rests_with events rest.configs place config (writes_of (before.row r).thread past) (before.row r) (anew.off r is_row) (rest.rows r is_row));
      slots = λ r s is_row slot is.
          let was : before.slot r s ≡ Some slot = sym (m.rows.slots r s) ∙ is in
          let On : RowState → Type 0 = λ R. SlotAtRest events (configs s) (writes_of R.thread past) slot in
          subst On (sym (m.rows.rows r)) (elim (s == place) as (λ v. (s == place) ≡ v → SlotAtRest events (if v then config else rest.configs s) (writes_of (before.row r).thread past) slot) [
            | true ↦ λ same.
                let Off : ℕ → Type 0 = λ n. is_some (slot_of (before.row r) n) ≡ false in
                absurd (false≢true (sym (subst Off (sym (eqb-true s place same)) (anew.off r is_row)) ∙ slot_on old r s slot was))
            | false ↦ λ _. rest.slots r s is_row slot was
          ] refl);
    }

-- ---- a session goes

pub finish_rests : (events : List EventDef) (past : Past) (session stamp : ℕ) (old new : Tables) → MakesFinish session old new → AreAtRest events past old → AreAtRest events (step.Finish session stamp ∷ past) new
finish_rests events past session stamp old new m rest =
    let before = told_of old.rows in
    let after = told_of new.rows in
    let later = step.Finish session stamp ∷ past in
    rests_on events past (step.Finish session stamp) old new rest (λ t. refl)
    (record {
      configured = subst (AllByRecursion (IsConfigured rest.configs later)) (sym m.sessions) (All-removed (IsConfigured rest.configs later) old.present.items m.place m.was m.stands.there rest.configured);
      kept = subst (AllByRecursion (IsKept rest.configs)) (sym m.sessions) (All-removed (IsKept rest.configs) old.present.items m.place m.was m.stands.there rest.kept);
    })
    (λ r at. rests_as events rest.configs (before.row r) (after.row r) (m.rows.rows r)) (λ r s at slot is. rest.slots r s at slot (sym (m.rows.slots r s) ∙ is))

-- ---- the start

pub start_rests : (events : List EventDef) (tables : Tables) → IsStart events tables → AreAtRest events [] tables
start_rests events tables start =
    let any : Config = record { rules = []; chunks = 0; stackwalk = false; rundown = false } in
    let configs : ℕ → Config = λ slot. any in
    record {
      configs = configs;
      configured = subst (AllByRecursion (IsConfigured configs [])) (sym start.present) tt;
      kept = subst (AllByRecursion (IsKept configs)) (sym start.present) tt;
      rows = λ r is_row. start.rows.rest r is_row events configs (ap length (sym start.known) ∙ sym (tables.rows.masks r is_row));
      slots = λ r s is_row slot is.
          let none : None ≡ Some slot = sym (start.rows.slots r s) ∙ is in
          absurd (cc);
    }
