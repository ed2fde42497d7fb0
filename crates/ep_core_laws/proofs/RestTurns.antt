-- All stay at rest in steps of sessions on threads, and of threads that stay.
use Rattle.std.proofs.Common.{◌≡◌, ℕ, zero, suc, List, [], ◌∷◌, Option, Some, None, refl, ap, sym, ◌∙◌, subst}
use Rattle.std.specs.List.{All}
use Rattle.std.proofs.lemmas.List.{append-nil}
use Rattle.std.proofs.lemmas.List.Elements.{All-nil}
use Rattle.std.proofs.lemmas.Option.{none-some, same_Some}
use Rattle.ep_defs.specs.declared.limits.TheConstants.{THREADS}
use Rattle.ep_defs.specs.declared.event.EventDef.{EventDef}
use Rattle.ep_defs.specs.declared.session.Config.{Config}
use Rattle.ep_defs.specs.declared.session.Write.{Write}
use Rattle.ep_model.specs.declared.step.Step.{Step}
use Rattle.ep_model.specs.declared.step.Step.TheVariants as step
use Rattle.ep_model.specs.History.{Past, config_of, writes_of}
use Rattle.ep_slot.specs.Slot.{SlotState, opened, with_steal, is_refused}
use Rattle.ep_row.specs.Row.{RowState}
use Rattle.ep_row.specs.AtRest.{RowAtRest, SlotAtRest, IsNumbered, KeepsRestOpened}
use Rattle.ep_stream.specs.Rows.{IsRow, IsSame, IsSetAt}
use Rattle.ep_stream.specs.Session.{rest_of}
use Rattle.ep_stream.specs.Steps.{ToldRows, OpensRow, ClosesRow}
use Rattle.ep_stream.specs.Sweep.{TellsGive}
use Rattle.ep_rows.specs.Rows.{told_of}
use Rattle.ep_rows.specs.Shows.{ShowsRow, shown_slot}
use Rattle.ep_rows.specs.Writes.{EndsRow, LeavesRow}
use Rattle.ep_tables.specs.declared.tables.Present.{Present}
use Rattle.ep_tables.specs.declared.tables.Tables.{Tables}
use Rattle.ep_tables.specs.Tables.{TablesFollow}
use Rattle.ep_tables.proofs.Found.{All-at}
use Rattle.ep_core_laws.specs.Kept.{IsLast}
use Rattle.ep_tables.specs.Made.{ChangesOne, MakesLeave, MakesEnd, MakesOpen, MakesShow, MakesSteal, MakesGive, MakesPoint, MakesClose, Gives, Points, OpensOn, StealsOn, ClosesOn}
use Rattle.ep_core_laws.proofs.Follow.{each_row, own_row}
use Rattle.ep_core_laws.specs.Rests.{AreAtRest}
use Rattle.ep_core_laws.proofs.RestPasts.{last_written}
use Rattle.ep_core_laws.proofs.RestRows.{masks_are, set_slot}
use Rattle.ep_core_laws.proofs.Configs.{same_configs}
use Rattle.ep_core_laws.proofs.Keeping.{IsKept, configured_still, configured_one, RestsOn, rests_same, rests_as, rests_on}

-- ---- threads

pub leave_rests : (events : List EventDef) (past : Past) (thread : ℕ) (old new : Tables) → TablesFollow events past old → MakesLeave thread old new → AreAtRest events past old → AreAtRest events (step.Leave thread ∷ past) new
leave_rests events past thread old new h m rest =
    let row = m.own.row in
    let before = told_of old.rows in
    let after = told_of new.rows in
    rests_on events past (step.Leave thread) old new rest (λ t. refl) (configured_still events past (step.Leave thread) old new rest (λ n. refl) m.own.sessions)
    (each_row row LeavesRow before after (λ r R S. IsRow THREADS r → RestsOn events rest.configs R S) m.own.rows.rows
    (λ leaves at. record { thread = ap (λ (R : RowState). R.thread) leaves.row; rest = λ writes is. leaves.rest events rest.configs writes (masks_are events past old row h at) is })
    (λ r other at. rests_same events rest.configs (before.row r)))
    (λ r s at slot is. rest.slots r s at slot (sym (m.own.rows.slots r s) ∙ is))

pub end_rests : (events : List EventDef) (past : Past) (thread : ℕ) (old new : Tables) → TablesFollow events past old → MakesEnd thread old new → AreAtRest events past old → AreAtRest events (step.End thread ∷ past) new
end_rests events past thread old new h m rest =
    let row = m.own.row in
    let before = told_of old.rows in
    let after = told_of new.rows in
    rests_on events past (step.End thread) old new rest (λ t. refl) (configured_still events past (step.End thread) old new rest (λ n. refl) m.own.sessions)
    (each_row row EndsRow before after (λ r R S. IsRow THREADS r → RestsOn events rest.configs R S) m.own.rows.rows
    (λ ends at. record { thread = ap (λ (R : RowState). R.thread) ends.row; rest = λ writes is. ends.rest events rest.configs writes (masks_are events past old row h at) is })
    (λ r other at. rests_same events rest.configs (before.row r)))
    (λ r s at slot is. rest.slots r s at slot (sym (m.own.rows.slots r s) ∙ is))

-- The record of the write that is shown is numbered: the write is the last of its thread.
pub show_rests : (events : List EventDef) (past : Past) (thread session : ℕ) (write : Write) (old new : Tables) → TablesFollow events past old → (m : MakesShow thread session write old new)
    → IsLast thread past ((told_of old.rows).row m.row).stamp write → AreAtRest events past old → AreAtRest events (step.Show thread session ∷ past) new
show_rests events past thread session write old new h m last rest =
    let row = m.row in
    let place = m.present.slot in
    let before = told_of old.rows in
    let after = told_of new.rows in
    let stamp = (before.row row).stamp in
    let was = m.rows.buffer in
    let now = shown_slot (is_refused m.shown) was stamp write in
    let own = own_row events past old thread row h m.own in
    let writes : List Write = writes_of (before.row row).thread past in
    let Last : ℕ → Type 0 = λ t. IsLast t past stamp write in
    let newest = last_written (before.row row).thread past stamp write (subst Last (sym own.thread_is) last) in
    let Was : List Write → Type 0 = λ ws. SlotAtRest events (rest.configs place) ws was in
    let Now : List Write → Type 0 = λ ws. SlotAtRest events (rest.configs place) ws now in
    let shown = subst Now (append-nil writes) (m.rows.rest events rest.configs writes [] (rest.rows row m.is_row) newest (subst Was (sym (append-nil writes)) (rest.slots row place m.is_row was m.rows.was))) in
    let At : ℕ → ℕ → SlotState → Type 0 = λ r s slot. SlotAtRest events (rest.configs s) (writes_of (before.row r).thread past) slot in
    rests_on events past (step.Show thread session) old new rest (λ t. refl) (configured_still events past (step.Show thread session) old new rest (λ n. refl) m.sessions)
    (each_row row (ShowsRow place now) before after (λ r R S. IsRow THREADS r → RestsOn events rest.configs R S) m.rows.rows
    (λ shows at. record { thread = ap (λ (R : RowState). R.thread) shows.others; rest = λ writes is. shows.rest events rest.configs writes (masks_are events past old row h at) is })
    (λ r other at. rests_same events rest.configs (before.row r)))
    (λ r s at slot. set_slot row place (Some now) before.slot after.slot At m.rows.slots r s slot (λ there. subst (At row place) (same_Some now slot there) shown) (rest.slots r s at slot))

-- ---- a session on a thread

-- All stay at rest where what is set in one slot of a row is at rest there.
turn_rests : (events : List EventDef) (past : Past) (s : Step) (session row : ℕ) (Changes : Present → Present → ToldRows → ToldRows → Type 0) (value : Option SlotState) (old new : Tables) (rest : AreAtRest events past old)
    → (one : ChangesOne session Changes old new) → ((t : ℕ) → writes_of t (s ∷ past) ≡ writes_of t past) → ((n : ℕ) → config_of n (s ∷ past) ≡ config_of n past)
    → ((r : ℕ) → IsRow THREADS r → RestsOn events rest.configs ((told_of old.rows).row r) ((told_of new.rows).row r))
    → IsSetAt row one.was.slot value (told_of old.rows).slot (told_of new.rows).slot
    → ((slot : SlotState) → value ≡ Some slot → SlotAtRest events (rest.configs one.was.slot) (writes_of ((told_of old.rows).row row).thread past) slot)
    → AreAtRest events (s ∷ past) new
turn_rests events past s session row Changes value old new rest one same_writes same_config rows sets here =
    let before = told_of old.rows in
    let At : ℕ → ℕ → SlotState → Type 0 = λ r p slot. SlotAtRest events (rest.configs p) (writes_of (before.row r).thread past) slot in
    rests_on events past s old new rest same_writes (configured_one events past s session Changes old new rest same_config one) rows
    (λ r p at slot. set_slot row one.was.slot value before.slot (told_of new.rows).slot At sets r p slot (here slot) (rest.slots r p at slot))

-- A slot without records is at rest.
empty_rests : (events : List EventDef) (config : Config) (writes : List Write) (now slot : SlotState) → now.records ≡ [] → Some now ≡ Some slot → SlotAtRest events config writes slot
empty_rests events config writes now slot none is =
    subst (SlotAtRest events config writes) (same_Some now slot is) (subst (All (IsNumbered events config writes now.from)) (sym none) (All-nil (IsNumbered events config writes now.from)))

pub open_rests : (events : List EventDef) (past : Past) (session thread : ℕ) (old new : Tables) → TablesFollow events past old → MakesOpen session thread old new → AreAtRest events past old → AreAtRest events (step.Open session thread ∷ past) new
open_rests events past session thread old new h m rest =
    let row = m.row in
    let one = m.one in
    let place = one.was.slot in
    let id = (rest_of one.was.session).seat.id in
    let config = (rest_of one.was.session).config in
    let before = told_of old.rows in
    let after = told_of new.rows in
    let now = opened id (before.row row).thread (before.row row).index config.chunks in
    let kept : config ≡ rest.configs place = All-at (IsKept rest.configs) old.present.items one.place one.was rest.kept one.stands.there in
    turn_rests events past (step.Open session thread) session row (OpensOn old.events.items thread row) (Some now) old new rest one (λ t. refl) (λ n. refl)
    (each_row row (OpensRow old.events.items place id config) before after (λ r R S. IsRow THREADS r → RestsOn events rest.configs R S) one.changes.told.rows
    (λ opens at.
    let Opened : List EventDef → Type 0 = λ es. KeepsRestOpened es place config (before.row row) (after.row row) in
    record {
      thread = ap (λ (R : RowState). R.thread) opens.others;
      rest = λ writes is.
          let Configs : (ℕ → Config) → Type 0 = λ cs. RowAtRest events cs writes (after.row row) in
          subst Configs (same_configs rest.configs place config kept) (subst Opened h.events_are opens.rest rest.configs writes is);
    })
    (λ r other at. rests_same events rest.configs (before.row r)))
    one.changes.told.slots (λ slot is. empty_rests events (rest.configs place) (writes_of (before.row row).thread past) now slot refl is)

pub steal_rests : (events : List EventDef) (past : Past) (session thread : ℕ) (old new : Tables) → MakesSteal session thread old new → AreAtRest events past old → AreAtRest events (step.Steal session thread ∷ past) new
steal_rests events past session thread old new m rest =
    let one = m.one in
    let told = one.changes.told in
    let before = told_of old.rows in
    let now = with_steal told.buffer in
    turn_rests events past (step.Steal session thread) session m.row (StealsOn old.events.items m.row) (Some now) old new rest one (λ t. refl) (λ n. refl)
    (λ r at. rests_as events rest.configs (before.row r) ((told_of new.rows).row r) (told.rows r))
    told.slots (λ slot is. empty_rests events (rest.configs one.was.slot) (writes_of (before.row m.row).thread past) now slot refl is)

pub close_rests : (events : List EventDef) (past : Past) (session thread : ℕ) (old new : Tables) → TablesFollow events past old → MakesClose session thread old new → AreAtRest events past old → AreAtRest events (step.Close session thread ∷ past) new
close_rests events past session thread old new h m rest =
    let row = m.row in
    let one = m.one in
    let told = one.changes.told in
    let before = told_of old.rows in
    turn_rests events past (step.Close session thread) session row (ClosesOn old.events.items row) None old new rest one (λ t. refl) (λ n. refl)
    (each_row row (ClosesRow one.was.slot) before (told_of new.rows) (λ r R S. IsRow THREADS r → RestsOn events rest.configs R S) told.rows
    (λ closes at. record { thread = ap (λ (R : RowState). R.thread) closes.others; rest = λ writes is. closes.rest events rest.configs writes (masks_are events past old row h at) is })
    (λ r other at. rests_same events rest.configs (before.row r)))
    told.slots (λ slot is. absurd (none-some slot is))

-- ---- a session alone

-- Rows and slots stay.
pub record SameRows (old new : ToldRows) : Type 0 where
  pub rows : (r : ℕ) → new.row r ≡ old.row r
  pub slots : IsSame old.slot new.slot

told_same : (old new : ToldRows) → new ≡ old → SameRows old new
told_same old new same =
    let P : ToldRows → Type 0 = λ told. SameRows old told in
    subst P (sym same) (record { rows = λ r. refl; slots = λ r s. refl })

gives_same : (place chunks : ℕ) (old new : ToldRows) → TellsGive place chunks (Some old) (Some new) → SameRows old new
gives_same place zero old new gives = told_same old new (same_Some new old gives)
gives_same place (suc chunks) old new gives = record { rows = gives.rows; slots = gives.slots }

pub given_same : (session : ℕ) (old new : Tables) → MakesGive session old new → SameRows (told_of old.rows) (told_of new.rows)
given_same session old new m = gives_same m.was.slot (rest_of m.was.session).in_hand (told_of old.rows) (told_of new.rows) m.changes.told

pub pointed_same : (session stamp : ℕ) (old new : Tables) → MakesPoint session stamp old new → SameRows (told_of old.rows) (told_of new.rows)
pointed_same session stamp old new m = told_same (told_of old.rows) (told_of new.rows) m.changes.told

pub give_rests : (events : List EventDef) (past : Past) (session : ℕ) (old new : Tables) → MakesGive session old new → AreAtRest events past old → AreAtRest events (step.Give session ∷ past) new
give_rests events past session old new m rest =
    let same = given_same session old new m in
    let before = told_of old.rows in
    let after = told_of new.rows in
    rests_on events past (step.Give session) old new rest (λ t. refl) (configured_one events past (step.Give session) session Gives old new rest (λ n. refl) m)
    (λ r at. rests_as events rest.configs (before.row r) (after.row r) (same.rows r)) (λ r s at slot is. rest.slots r s at slot (sym (same.slots r s) ∙ is))

pub point_rests : (events : List EventDef) (past : Past) (session stamp : ℕ) (old new : Tables) → MakesPoint session stamp old new → AreAtRest events past old → AreAtRest events (step.Point session stamp ∷ past) new
point_rests events past session stamp old new m rest =
    let same = pointed_same session stamp old new m in
    let before = told_of old.rows in
    let after = told_of new.rows in
    rests_on events past (step.Point session stamp) old new rest (λ t. refl) (configured_one events past (step.Point session stamp) session (Points old.events.items stamp) old new rest (λ n. refl) m)
    (λ r at. rests_as events rest.configs (before.row r) (after.row r) (same.rows r)) (λ r s at slot is. rest.slots r s at slot (sym (same.slots r s) ∙ is))
