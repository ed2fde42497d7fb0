-- A slot follows each step.
use Rattle.std.proofs.Common.{◌≡◌, ℕ, ◌+◌, Bool, true, false, List, [], ◌∷◌, ◌++◌, length, map, Option, Some, refl, ap, sym, ◌∙◌, subst, arith}
use Rattle.std.specs.Prelude.{◌&&◌, ◌||◌, not, unwrap_or, ◌==◌, if◌then◌else◌}
use Rattle.std.specs.Option.{option_map_or}
use Rattle.std.proofs.lemmas.Bool.{eq-eqb, and_from, not_from_true, not_from_false}
use Rattle.std.proofs.lemmas.List.{length_push, append-nil, map-append}
use Rattle.std.proofs.lemmas.Grind.{flat_map-append}
use Rattle.ep_defs.specs.declared.event.EventDef.{EventDef}
use Rattle.ep_defs.specs.declared.session.Config.{Config}
use Rattle.ep_defs.specs.declared.session.Write.{Write}
use Rattle.ep_defs.specs.Entry.{EventEntry, Entry, Event}
use Rattle.ep_chunk.specs.Record.{Record}
use Rattle.ep_model.specs.declared.step.Step.{Step}
use Rattle.ep_model.specs.declared.step.Step.TheVariants as step
use Rattle.ep_model.specs.Budget.{Pending, pending_with, record_size}
use Rattle.ep_model.specs.Chunks.{chunks_of, shown_size, is_refused, refused, written}
use Rattle.ep_model.specs.Entries.{has_stacks, entry_shown, pending, told_number}
use Rattle.ep_model.specs.Fold.{Budget, lacks_chunk, with_record as with_record_held, with_show, budget_of}
use Rattle.ep_model.specs.History.{Past, Begun, config_of, last_begun, is_open, opened_at, closed_at, shows, writes_of}
use Rattle.ep_model.specs.Lawful.{IsLawful}
use Rattle.ep_model.specs.Marks.{marks_on}
use Rattle.ep_model.proofs.Objections.{open_new}
use Rattle.ep_slot.specs.Slot.{SlotState, opened, recorded, with_record, with_refusal, with_steal, marks_of}
use Rattle.ep_stream.specs.Telling.{entry_of, entries_of}
use Rattle.ep_rows.specs.Shows.{shown_slot}
use Rattle.ep_core_laws.specs.Changes.{changes_slot}
use Rattle.ep_core_laws.specs.Kept.{IsLast, SlotFollows}
use Rattle.ep_core_laws.proofs.Elsewhere.{same_on, config_stays}
use Rattle.ep_core_laws.proofs.Unopened.{has_nothing}

same_pair : (session thread : ℕ) → ((session == session) && (thread == thread)) ≡ true
same_pair session thread = and_from (session == session) (thread == thread) (eq-eqb session session refl) (eq-eqb thread thread refl)

-- ---- a session is opened

pub slot_opened : (events : List EventDef) (past : Past) (session thread : ℕ) (config : Config) → IsLawful events (step.Open session thread ∷ past) → config_of session past ≡ Some config
    → SlotFollows events (step.Open session thread ∷ past) session (opened session thread (length (writes_of thread past)) config.chunks)
slot_opened events past session thread config lawful configured =
    let none = has_nothing events session thread past lawful.0 (open_new events past session thread lawful.1) in
    let here = same_pair session thread in
    record {
      session_is = refl;
      on = ap (λ (v : Bool). v || is_open session thread past) here;
      from_is = ap (λ (v : Bool). if v then Some (length (writes_of thread past)) else opened_at session thread past) here;
      chunks_are = sym (ap (λ (c : Option Config). option_map_or (λ conf. conf.chunks) c 0) configured);
      used_are = sym none.shows_are;
      refused_are = sym (ap (length {A = ℕ}) none.refused_are);
      kept_are = sym none.written_are;
      last_is = sym none.told_is;
      pending_is = sym none.pending_is;
      records_are = sym (ap (map Event) none.waiting_are);
    }

-- ---- a write is shown

-- What the budget counts after a Show of the session.
budget_shown : (session thread : ℕ) (past : Past) (lacks : Bool) → lacks_chunk (budget_of session past) (chunks_of session past) thread (shown_size thread past) ≡ lacks
    → budget_of session (step.Show thread session ∷ past) ≡ (if lacks then budget_of session past else with_record_held (budget_of session past) thread (shown_size thread past))
budget_shown session thread past lacks is =
    ap (λ (v : Bool). if v then with_show (budget_of session past) (chunks_of session past) thread (shown_size thread past) else budget_of session past) (eq-eqb session session refl)
    ∙ ap (λ (v : Bool). if v then budget_of session past else with_record_held (budget_of session past) thread (shown_size thread past)) is

-- It is shown with the next number, refused or not.
shows_next : (session thread : ℕ) (past : Past) → shows session thread (step.Show thread session ∷ past) ≡ 1 + shows session thread past
shows_next session thread past = ap (λ (v : Bool). (if v then 1 else 0) + shows session thread past) (same_pair session thread)

both_and : (a b c v : Bool) → (a && b) ≡ true → c ≡ v → (a && b && c) ≡ v
both_and true true c v both is = is
both_and true false c v both is = cc
both_and false b c v both is = cc

-- A refused write uses a number and leaves nothing else.
slot_refused : (events : List EventDef) (past : Past) (session : ℕ) (slot : SlotState) → is_refused session slot.thread past ≡ true
    → is_refused session slot.thread past ≡ lacks_chunk (budget_of session past) (chunks_of session past) slot.thread (shown_size slot.thread past)
    → SlotFollows events past session slot → SlotFollows events (step.Show slot.thread session ∷ past) session (with_refusal slot)
slot_refused events past session slot out counted h =
    let t = slot.thread in
    let here = same_pair session t in
    let refuses = both_and (session == session) (t == t) (is_refused session t past) true here out in
    let keeps = both_and (session == session) (t == t) (not (is_refused session t past)) false here (not_from_true (is_refused session t past) out) in
    let numbers : refused session t (step.Show t session ∷ past) ≡ refused session t past ++ (shows session t past + 1) ∷ [] =
    ap (λ (v : Bool). if v then refused session t past ++ (shows session t past + 1) ∷ [] else refused session t past) refuses in
    let none : written session t (step.Show t session ∷ past) ≡ 0 + written session t past = ap (λ (v : Bool). (if v then 1 else 0) + written session t past) keeps in
    let waiting : pending events session t (step.Show t session ∷ past) ≡ pending events session t past =
    ap (λ (v : Bool). if v then pending events session t past ++ entry_shown events (has_stacks session past) t (shows session t past + 1) (last_begun t past) else pending events session t past) keeps in
    record {
      session_is = h.session_is;
      on = h.on;
      from_is = h.from_is;
      chunks_are = h.chunks_are;
      used_are = omega (arith, h.used_are, shows_next session t past);
      refused_are = omega (arith, h.refused_are, length_push (refused session t past) (shows session t past + 1)) ∙ sym (ap (length {A = ℕ}) numbers);
      kept_are = omega (arith, h.kept_are, none);
      last_is = h.last_is;
      pending_is = h.pending_is ∙ sym (ap (λ (b : Budget). b.pending t) (budget_shown session t past true (sym counted ∙ out)));
      records_are = h.records_are ∙ ap (map Event) (sym waiting);
    }

-- The entries of records and one more.
entries_more : (events : List EventDef) (stacks : Bool) (records : List Record) (r : Record) → entries_of events stacks (records ++ r ∷ []) ≡ entries_of events stacks records ++ entry_of events stacks r
entries_more events stacks records r =
    flat_map-append (entry_of events stacks) records (r ∷ []) ∙ ap (λ (more : List Entry). entries_of events stacks records ++ more) (append-nil (entry_of events stacks r))

-- A write that is kept leaves its record.
slot_written : (events : List EventDef) (past : Past) (session : ℕ) (slot : SlotState) (stamp : ℕ) (write : Write) → is_refused session slot.thread past ≡ false
    → is_refused session slot.thread past ≡ lacks_chunk (budget_of session past) (chunks_of session past) slot.thread (shown_size slot.thread past)
    → IsLast slot.thread past stamp write
    → SlotFollows events past session slot → SlotFollows events (step.Show slot.thread session ∷ past) session (with_record slot stamp write)
slot_written events past session slot stamp write in_room counted begun h =
    let t = slot.thread in
    let stacks = has_stacks session past in
    let here = same_pair session t in
    let refuses = both_and (session == session) (t == t) (is_refused session t past) false here in_room in
    let keeps = both_and (session == session) (t == t) (not (is_refused session t past)) true here (not_from_false (is_refused session t past) in_room) in
    let size : shown_size t past ≡ record_size write = ap (λ (o : Option Begun). option_map_or (λ b. record_size b.write) o 0) begun in
    let numbers : refused session t (step.Show t session ∷ past) ≡ refused session t past =
    ap (λ (v : Bool). if v then refused session t past ++ (shows session t past + 1) ∷ [] else refused session t past) refuses in
    let one : written session t (step.Show t session ∷ past) ≡ 1 + written session t past = ap (λ (v : Bool). (if v then 1 else 0) + written session t past) keeps in
    let shown : List EventEntry = entry_shown events stacks t (shows session t past + 1) (last_begun t past) in
    let waiting : pending events session t (step.Show t session ∷ past) ≡ pending events session t past ++ shown =
    ap (λ (v : Bool). if v then pending events session t past ++ shown else pending events session t past) keeps in
    let now : (budget_of session (step.Show t session ∷ past)).pending t ≡ pending_with ((budget_of session past).pending t) (shown_size t past) =
    ap (λ (b : Budget). b.pending t) (budget_shown session t past false (sym counted ∙ in_room))
    ∙ ap (λ (v : Bool). if v then pending_with ((budget_of session past).pending t) (shown_size t past) else (budget_of session past).pending t) (eq-eqb t t refl) in
    let r : Record = recorded slot stamp write in
    let entry : entry_of events stacks r ≡ map Event shown =
    ap (λ (n : ℕ). map Event (entry_shown events stacks t (n + 1) (Some (record { stamp = stamp; write = write })))) h.used_are
    ∙ ap (λ (o : Option Begun). map Event (entry_shown events stacks t (shows session t past + 1) o)) (sym begun) in
    record {
      session_is = h.session_is;
      on = h.on;
      from_is = h.from_is;
      chunks_are = h.chunks_are;
      used_are = omega (arith, h.used_are, shows_next session t past);
      refused_are = h.refused_are ∙ sym (ap (length {A = ℕ}) numbers);
      kept_are = omega (arith, h.kept_are, one, length_push slot.records r);
      last_is = h.last_is;
      pending_is = ap (λ (p : Pending). pending_with p (record_size write)) h.pending_is
          ∙ ap (λ (n : ℕ). pending_with ((budget_of session past).pending t) n) (sym size)
          ∙ sym now;
      records_are = entries_more events stacks slot.records r
          ∙ ap (λ (es : List Entry). es ++ entry_of events stacks r) h.records_are
          ∙ ap (λ (es : List Entry). map Event (pending events session t past) ++ es) entry
          ∙ sym (map-append Event (pending events session t past) shown)
          ∙ ap (map Event) (sym waiting);
    }

slot_shown_here : (events : List EventDef) (past : Past) (session : ℕ) (slot : SlotState) (stamp : ℕ) (write : Write)
    → is_refused session slot.thread past ≡ lacks_chunk (budget_of session past) (chunks_of session past) slot.thread (shown_size slot.thread past)
    → SlotFollows events past session slot → IsLast slot.thread past stamp write
    → SlotFollows events (step.Show slot.thread session ∷ past) session (shown_slot (is_refused session slot.thread past) slot stamp write)
slot_shown_here events past session slot stamp write counted h begun =
    elim (is_refused session slot.thread past) as (λ v. is_refused session slot.thread past ≡ v → SlotFollows events (step.Show slot.thread session ∷ past) session (shown_slot v slot stamp write)) [
      | true ↦ λ out. slot_refused events past session slot out counted h
      | false ↦ λ in_room. slot_written events past session slot stamp write in_room counted begun h
    ] refl

pub slot_shown : ((session thread : ℕ) (past : Past) → is_refused session thread past ≡ lacks_chunk (budget_of session past) (chunks_of session past) thread (shown_size thread past))
    → (events : List EventDef) (past : Past) (session thread : ℕ) (slot : SlotState) (stamp : ℕ) (write : Write)
    → SlotFollows events past session slot → slot.thread ≡ thread → IsLast thread past stamp write
    → SlotFollows events (step.Show thread session ∷ past) session (shown_slot (is_refused session thread past) slot stamp write)
slot_shown counted events past session thread slot stamp write h own begun =
    let Last : ℕ → Type 0 = λ t. IsLast t past stamp write in
    let Follows : ℕ → Type 0 = λ t. SlotFollows events (step.Show t session ∷ past) session (shown_slot (is_refused session t past) slot stamp write) in
    subst Follows own (slot_shown_here events past session slot stamp write (counted session slot.thread past) h (subst Last (sym own) begun))

-- ---- what is pending is taken

pub slot_stolen : (events : List EventDef) (past : Past) (session : ℕ) (slot : SlotState) → SlotFollows events past session slot
    → SlotFollows events (step.Steal session slot.thread ∷ past) session (with_steal slot)
slot_stolen events past session slot h =
    let t = slot.thread in
    let here = same_pair session t in
    record {
      session_is = h.session_is;
      on = h.on;
      from_is = h.from_is;
      chunks_are = h.chunks_are;
      used_are = h.used_are;
      refused_are = h.refused_are;
      kept_are = omega (arith, h.kept_are);
      last_is = h.used_are ∙ sym (ap (λ (v : Bool). if v then shows session t past else told_number session t past) here);
      pending_is = rw (eq-eqb session session refl, eq-eqb t t refl) refl;
      records_are = sym (ap (λ (v : Bool). map Event (if v then [] else pending events session t past)) here);
    }

-- ---- other steps

pub slot_stays : (events : List EventDef) (past : Past) (session : ℕ) (slot : SlotState) (step : Step) → IsLawful events (step ∷ past) → changes_slot session slot.thread step ≡ false
    → SlotFollows events past session slot → SlotFollows events (step ∷ past) session slot
slot_stays events past session slot s lawful off h =
    let same = same_on events session slot.thread past s off in
    let config = config_stays events session slot.thread past s lawful h.on in
    record {
      session_is = h.session_is;
      on = same.open_is ∙ h.on;
      from_is = same.from_is ∙ h.from_is;
      chunks_are = h.chunks_are ∙ ap (λ (c : Option Config). option_map_or (λ conf. conf.chunks) c 0) (sym config);
      used_are = h.used_are ∙ sym same.shows_are;
      refused_are = h.refused_are ∙ ap (length {A = ℕ}) (sym same.refused_are);
      kept_are = h.kept_are ∙ sym same.written_are;
      last_is = h.last_is ∙ sym same.told_is;
      pending_is = h.pending_is ∙ sym same.pending_is;
      records_are = ap (λ (c : Option Config). entries_of events (option_map_or (λ conf. conf.stackwalk) c false) slot.records) config
          ∙ h.records_are
          ∙ ap (map Event) (sym same.waiting_are);
    }

-- ---- a session is closed

pub slot_marked : (events : List EventDef) (past : Past) (session : ℕ) (slot : SlotState) → SlotFollows events past session slot
    → marks_of slot (length (writes_of slot.thread past)) ≡ marks_on session slot.thread (step.Close session slot.thread ∷ past)
slot_marked events past session slot h =
    let t = slot.thread in
    let from : slot.from ≡ unwrap_or (opened_at session t past) 0 = sym (ap (λ (o : Option ℕ). unwrap_or o 0) h.from_is) in
    let to : length (writes_of t past) ≡ unwrap_or (closed_at session t (step.Close session t ∷ past)) (length (writes_of t past)) =
    sym (ap (λ (v : Bool). unwrap_or (if v then Some (length (writes_of t past)) else closed_at session t past) (length (writes_of t past))) (same_pair session t)) in
    λ i. record { thread = t; from = from i; to = to i; taken = h.kept_are i; refused = h.refused_are i }
