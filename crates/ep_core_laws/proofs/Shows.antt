-- A session stands once a write was shown to it, and can take the write that is due to it.
use Rattle.std.proofs.Common.{◌≡◌, ℕ, ◌-◌, ◌<◌, ◌≤◌, Bool, true, false, List, [], ◌∷◌, length, Option, None, Some, refl, ap, sym, ◌∙◌, subst, arith}
use Rattle.std.specs.Prelude.{◌==◌, if◌then◌else◌, slice_get}
use Rattle.std.specs.Option.{option_map_or}
use Rattle.std.proofs.lemmas.Bool.{and_right, not-false}
use Rattle.std.proofs.lemmas.Option.{same_Some}
use Rattle.ep_defs.specs.Session.{fits}
use Rattle.ep_defs.specs.declared.limits.TheConstants.{THREADS, WRITES}
use Rattle.ep_defs.specs.declared.event.EventDef.{EventDef}
use Rattle.ep_defs.specs.declared.session.TraceInfo.{TraceInfo}
use Rattle.ep_defs.specs.declared.session.Write.{Write}
use Rattle.ep_pool.specs.Counts.{PoolCounts}
use Rattle.ep_model.specs.declared.step.Step.TheVariants as step
use Rattle.ep_model.specs.Chunks.{in_hand, is_refused, turns}
use Rattle.ep_model.specs.Fold.{budget_of}
use Rattle.ep_model.specs.History.{Past, Begun, last_begun, is_due}
use Rattle.ep_model.specs.Lawful.{IsLawful, objections}
use Rattle.ep_model.proofs.Objections.{none_there}
use Rattle.ep_model.proofs.Due.{due_within}
use Rattle.ep_model.proofs.Sessions.{writes_begun}
use Rattle.ep_row.specs.Bits.{one_if}
use Rattle.ep_slot.specs.declared.shown.Shown.{Shown}
use Rattle.ep_slot.specs.Slot.{SlotState, is_refused as is_shown_refused}
use Rattle.ep_stream.specs.Rows.{IsRow}
use Rattle.ep_stream.specs.Session.{rest_of}
use Rattle.ep_stream.specs.Steps.{ToldRows}
use Rattle.ep_rows.specs.Rows.{told_of}
use Rattle.ep_rows.specs.Shows.{ShowsWrite, shown_slot}
use Rattle.ep_tables.specs.declared.tables.Tables.{Tables}
use Rattle.ep_tables.specs.Can.{CanMake}
use Rattle.ep_tables.specs.Tables.{TablesFollow, row_of}
use Rattle.ep_tables.proofs.Found.{row_found, on_found, in_write_found}
use Rattle.ep_tables.proofs.Makes.{can_make, defined}
use Rattle.ep_core_laws.specs.Kept.{IsLast, SlotFollows, PoolFollows}
use Rattle.ep_tables.specs.Made.{StandsAt, MakesShow, CanTake}
use Rattle.ep_core_laws.proofs.Follow.{own_row, session_at}
use Rattle.ep_core_laws.specs.Rests.{AreBegun}
use Rattle.ep_core_laws.specs.Stands.{StandBefore}
use Rattle.ep_core_laws.proofs.Begun.{kept_last}
use Rattle.ep_core_laws.proofs.KeptPasts.{shown_begun}
use Rattle.ep_core_laws.proofs.Spent.{Limited}
use Rattle.ep_core_laws.proofs.Through.{SlotStays, RestStays}
use Rattle.ep_core_laws.proofs.Sets.{each_slot, row_thread, row_opened}
use Rattle.ep_core_laws.proofs.Sessions.{StandsAs, Placed, placed}
use Rattle.ep_core_laws.proofs.SessionTurns.{other_rows}

-- ---- a write is shown

abbrev pub SlotShows : Type 0
SlotShows =
    (events : List EventDef) (past : Past) (session thread : ℕ) (slot : SlotState) (stamp : ℕ) (write : Write)
    → SlotFollows events past session slot → slot.thread ≡ thread → IsLast thread past stamp write
    → SlotFollows events (step.Show thread session ∷ past) session (shown_slot (is_refused session thread past) slot stamp write)

abbrev pub PoolRefuses : Type 0
PoolRefuses =
    (events : List EventDef) (past : Past) (session thread : ℕ) (slot : SlotState) (stamp : ℕ) (write : Write) (shown : Shown) (old new : PoolCounts)
    → SlotFollows events past session slot → slot.thread ≡ thread → IsLast thread past stamp write
    → PoolFollows past session old → ShowsWrite write shown slot old new → is_shown_refused shown ≡ is_refused session thread past

abbrev pub PoolShows : Type 0
PoolShows =
    (events : List EventDef) (past : Past) (session thread : ℕ) (slot : SlotState) (stamp : ℕ) (write : Write) (shown : Shown) (old new : PoolCounts)
    → SlotFollows events past session slot → slot.thread ≡ thread → IsLast thread past stamp write
    → PoolFollows past session old → ShowsWrite write shown slot old new → PoolFollows (step.Show thread session ∷ past) session new

pub shown_now : SlotStays → SlotShows → PoolRefuses → PoolShows → RestStays → (events : List EventDef) (info : TraceInfo) (past : Past) (thread session : ℕ) (write : Write) (old new : Tables)
    → StandBefore events info (step.Show thread session) past old → (m : MakesShow thread session write old new) → IsLast thread past ((told_of old.rows).row m.row).stamp write
    → Placed events info past old session m.present → StandsAs events info (step.Show thread session ∷ past) (told_of new.rows) session m.present.slot m.present
shown_now slot_stays slot_shows pool_refuses pool_shows rest_stays events info past thread session write old new h m last here =
    let s = step.Show thread session in
    let was = m.present in
    let before = told_of old.rows in
    let after = told_of new.rows in
    let buffer = m.rows.buffer in
    let stamp = (before.row m.row).stamp in
    let own = own_row events past old thread m.row h.follow m.own in
    let own_thread : buffer.thread ≡ thread = row_thread old.rows m.row was.slot buffer m.rows.was ∙ own.thread_is in
    let follows : SlotFollows events past session buffer = here.stands.slots m.row own.is_row buffer m.rows.was in
    let Follows : SlotState → Type 0 = λ b. SlotFollows events (s ∷ past) session b in
    let refuses = pool_refuses events past session thread buffer stamp write m.shown (before.pool was.slot) (after.pool was.slot) follows own_thread last here.stands.pool m.rows.pool in
    let At : Bool → Type 0 = λ v. Follows (shown_slot v buffer stamp write) in
    let shows : Follows (shown_slot (is_shown_refused m.shown) buffer stamp write) =
    subst At (sym refuses) (slot_shows events past session thread buffer stamp write follows own_thread last) in
    record {
      slots = each_slot m.row was.slot (Some (shown_slot (is_shown_refused m.shown) buffer stamp write)) before after Follows m.rows.slots
          (λ b is. let same : shown_slot (is_shown_refused m.shown) buffer stamp write ≡ b = cc in subst Follows same shows)
          (other_rows slot_stays events info s past old session thread m.row was.slot was h own (λ n off. and_right (session == session) (thread == n) off) here.stands);
      pool = pool_shows events past session thread buffer stamp write m.shown (before.pool was.slot) (after.pool was.slot) follows own_thread last here.stands.pool m.rows.pool;
      rest = rest_stays events past (rest_of was.session) s here.stands.rest h.lawful refl;
      telling = here.stands.telling;
    }

-- ---- the write that was begun last

-- A write that can be made: its event is defined, and it fits.
pub record CanBeMade (events : List EventDef) (write : Write) : Type 0 where
  pub some : 0 < write.event
  pub known : write.event ≤ length events
  pub fit : fits write ≡ true

pub last_fits : (events : List EventDef) (thread : ℕ) (past : Past) (stamp : ℕ) (write : Write) → IsLawful events past → IsLast thread past stamp write → CanBeMade events write
last_fits events thread [] stamp write lawful is = absurd (cc)
last_fits events thread (step.Begin t at begun ∷ past) stamp write lawful is =
    let o = none_there (objections events past (step.Begin t at begun)) lawful.1 in
    let known = defined events begun.event o.1.1.0 in
    let made : CanBeMade events begun = record { some = known.0; known = known.1; fit = not-false _ o.1.1.1.0 } in
    elim (t == thread) as (λ v. (if v then Some (record { stamp = at; write = begun }) else last_begun thread past) ≡ Some (record { stamp = stamp; write = write }) → CanBeMade events write) [
      | true ↦ λ e. subst (CanBeMade events) (ap (λ (o : Option Begun). option_map_or (λ b. b.write) o begun) e) made
      | false ↦ λ e. last_fits events thread past stamp write lawful.0 e
    ] is
last_fits events thread (_ ∷ past) stamp write lawful is = last_fits events thread past stamp write lawful.0 is

-- The thread of a Show is in a write, and so is its row.
pub writing_found : (events : List EventDef) (past : Past) (thread session row : ℕ) (tables : Tables) → TablesFollow events past tables → IsLawful events (step.Show thread session ∷ past) → row_of tables thread ≡ Some row
    → IsRow THREADS row × (((told_of tables.rows).row row).in_write ≡ true)
writing_found events past thread session row tables follow lawful own =
    let o = none_there (objections events past (step.Show thread session)) lawful.1 in
    let found = row_found events past tables thread row follow (sym own) in
    (found.is_row, in_write_found past tables thread row found ∙ not-false _ o.1.1.0)

-- The write that is kept is the one that is shown.
pub last_shown : (events : List EventDef) (past : Past) (thread session row : ℕ) (write : Write) (tables : Tables) (begun : List (Option Write)) → TablesFollow events past tables → IsLawful events (step.Show thread session ∷ past)
    → AreBegun past (told_of tables.rows) begun → row_of tables thread ≡ Some row → slice_get begun (row - 1) ≡ Some (Some write) → IsLast thread past ((told_of tables.rows).row row).stamp write
last_shown events past thread session row write tables begun follow lawful begun_are own kept =
    kept_last events past thread row write tables begun follow begun_are own (writing_found events past thread session row tables follow lawful own).1 kept

-- While a thread is in a write, it is kept.
pub not_unkept : (past : Past) (told : ToldRows) (begun : List (Option Write)) (row : ℕ) → AreBegun past told begun → IsRow THREADS row → (told.row row).in_write ≡ true → slice_get begun (row - 1) ≡ Some None → ⊥
not_unkept past told begun row h is_row writing none =
    let kept = h.kept row is_row writing in
    let clash : Some (Some kept.0) ≡ Some None = sym kept.1 ∙ none in
    let same : Some kept.0 ≡ None = same_Some (Some kept.0) None clash in
    absurd (cc)

-- ---- a write that is due can be taken

abbrev pub Few : Type 0
Few = (events : List EventDef) (past : Past) (session : ℕ) (slot : SlotState) → IsLawful events past → SlotFollows events past session slot → is_due events session slot.thread past ≡ true → slot.used < WRITES

-- The write that is due is one more than were shown, and no more can begin than there are numbers.
pub due_few : Limited → Few
due_few limited events past session slot lawful h due =
    let all = shown_begun events session slot.thread past lawful in
    let one : one_if (is_due events session slot.thread past) ≡ 1 = ap one_if due in
    let begun = writes_begun slot.thread past in
    let few = limited events past lawful in
    omega (arith, all, one, h.used_are, begun, few)

abbrev pub HandCounted : Type 0
HandCounted = (session : ℕ) (past : Past) → in_hand (turns session past) ≡ (budget_of session past).in_hand

pub due_taken : Few → HandCounted → (events : List EventDef) (info : TraceInfo) (past : Past) (thread session stamp : ℕ) (write : Write) (tables : Tables)
    → StandBefore events info (step.Show thread session) past tables → IsLast thread past stamp write → CanTake thread session write tables
due_taken few counted events info past thread session stamp write tables h last =
    let s = step.Show thread session in
    let can : CanMake s tables = can_make events past tables s (λ n. counted n past) h.follow h.lawful.1 in
    let on = can.holds in
    let o = none_there (objections events past s) h.lawful.1 in
    let due : is_due events session thread past ≡ true = not-false _ o.1.1.1.0 in
    let shown_on = (due_within events session thread past h.lawful.0 due).on in
    let stands : StandsAt session tables can.place can.present = record { first = can.first; there = can.there } in
    let here = placed events info s past tables session can.place can.present h stands in
    let found = session_at events past tables session can.place can.present h.follow stands in
    let row = row_found events past tables thread on.row h.follow (sym on.own) in
    let opened = row_opened tables.rows on.row can.present.slot (on_found events past tables session thread on.row can.present found row ∙ shown_on) in
    let buffer = opened.buffer in
    let follows = here.stands.slots on.row row.is_row buffer opened.is in
    let own_thread : buffer.thread ≡ thread = row_thread tables.rows on.row can.present.slot buffer opened.is ∙ row.thread_is in
    let made = last_fits events thread past stamp write h.lawful.0 last in
    let Due : ℕ → Type 0 = λ t. is_due events session t past ≡ true in
    let Within : List EventDef → Type 0 = λ es. write.event ≤ length es in
    record {
      row = on.row;
      own = on.own;
      place = can.place;
      present = can.present;
      stands = stands;
      buffer = buffer;
      slot_is = opened.is;
      few = few events past session buffer h.lawful.0 follows (subst Due (sym own_thread) due);
      total = here.stands.pool.total_is ∙ sym follows.chunks_are;
      event = made.some;
      events = subst Within (sym h.follow.known) made.known;
      fit = made.fit;
    }
