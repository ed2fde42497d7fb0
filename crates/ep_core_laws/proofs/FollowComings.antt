-- What a session makes that comes or goes.
use Rattle.std.proofs.Common.{◌≡◌, ℕ, suc, true, false, List, ◌∷◌, map, length, Some, refl, ap, sym, ◌∙◌, subst}
use Rattle.std.specs.Prelude.{◌||◌, not, filter, is_some, remove, nat_lt, nat_le, ◌==◌}
use Rattle.std.specs.Int.{bit_at}
use Rattle.std.specs.List.{list_any, AllByRecursion}
use Rattle.std.specs.BTreeMap.{get}
use Rattle.std.specs.Ordering.{nat_cmp}
use Rattle.std.proofs.lemmas.Bool.{eq-eqb, ne_eqb, and_parts, or_left, or_right, not-true, not-false, false≢true, false_from_ne_true}
use Rattle.ep_defs.specs.declared.limits.TheConstants.{THREADS}
use Rattle.ep_defs.specs.declared.event.EventDef.{EventDef}
use Rattle.ep_defs.specs.declared.session.Config.{Config}
use Rattle.ep_defs.specs.declared.session.TraceInfo.{TraceInfo}
use Rattle.ep_model.specs.declared.step.Step.{Step}
use Rattle.ep_model.specs.declared.step.Step.TheVariants as step
use Rattle.ep_model.specs.Fold.{budget_of, Budget}
use Rattle.ep_model.specs.History.{Past, accepted, entered, opened, was_there, is_open, is_due}
use Rattle.ep_model.specs.Lawful.{IsLawful, objections, begins, is_next_session, was_opened}
use Rattle.ep_model.proofs.Objections.{none_there}
use Rattle.ep_model.proofs.Sessions.{open_somewhere, accept_new, untouched}
use Rattle.ep_model.proofs.Due.{due_within}
use Rattle.ep_table.specs.Sessions.{is_held, held_count, holds}
use Rattle.ep_row.specs.Row.{RowState, slot_of}
use Rattle.ep_stream.specs.Rows.{IsRow}
use Rattle.ep_stream.specs.Steps.{ToldRows}
use Rattle.ep_rows.specs.Rows.{told_of}
use Rattle.ep_tables.specs.declared.tables.Present.{Present}
use Rattle.ep_tables.specs.declared.tables.Tables.{Tables}
use Rattle.ep_tables.specs.Tables.{TablesFollow, PresentFollows, RowFollows, PlaceFollows, OnFollows, IsGone, has_slot, number_of}
use Rattle.ep_tables.specs.Made.{KeepsThreads, MakesAccept, MakesFinish}
use Rattle.ep_tables.proofs.Items.{All-each, All-remove, map-remove, any-remove, length-remove}
use Rattle.ep_core_laws.proofs.FollowPasts.{never_on, present_accept, present_finish, last_more, last_less}
use Rattle.ep_core_laws.proofs.Follow.{place_stays, session_at, numbers_distinct, seats_distinct}
use Rattle.ep_tables.proofs.Seats.{free_slot, accept_held, accept_count, gone_slot, free_held, free_count}

same_rows : (old new : ToldRows) (P : RowState → Type 0) → ((r : ℕ) → new.row r ≡ old.row r) → (r : ℕ) → P (old.row r) → P (new.row r)
same_rows old new P same r holds = subst P (sym (same r)) holds

false_bit : (n : ℕ) → (n ≡ 1 → ⊥) → (n == 1) ≡ false
false_bit n not = ne_eqb n 1 not

-- Nothing is due to a session that is not open.
undue : (events : List EventDef) (session thread : ℕ) (past : Past) → IsLawful events past → is_open session thread past ≡ false → is_due events session thread past ≡ false
undue events session thread past lawful off = false_from_ne_true (is_due events session thread past) (λ due. false≢true (sym off ∙ (due_within events session thread past lawful due).on))

-- ---- threads

-- What the tables say of threads and of their rows.
record ThreadsFollow (past : Past) (tables : Tables) : Type 0 where
  last_thread : (thread : ℕ) → nat_lt THREADS thread ≡ true → list_any (λ t. nat_le thread t) (entered past) ≡ nat_le thread tables.last_thread
  begins_are : begins past ≡ tables.begins
  rows : (r : ℕ) → IsRow THREADS r → RowFollows past ((told_of tables.rows).row r)
  places : (thread : ℕ) → PlaceFollows past (told_of tables.rows) thread (get nat_cmp tables.threads thread)
  place_of : (r : ℕ) → IsRow THREADS r → get nat_cmp tables.threads ((told_of tables.rows).row r).thread ≡ Some r

-- It stays in a step that brings and takes no thread and changes no row.
threads_follow : (events : List EventDef) (past : Past) (s : Step) (old new : Tables) → TablesFollow events past old → KeepsThreads old new → new.begins ≡ old.begins
    → ((r : ℕ) → (told_of new.rows).row r ≡ (told_of old.rows).row r) → entered (s ∷ past) ≡ entered past → begins (s ∷ past) ≡ begins past
    → ((thread : ℕ) → was_there thread (s ∷ past) ≡ was_there thread past)
    → ((thread : ℕ) → IsGone thread past → IsGone thread (s ∷ past))
    → ((R : RowState) → RowFollows past R → RowFollows (s ∷ past) R)
    → ThreadsFollow (s ∷ past) new
threads_follow events past s old new h keeps begun same same_entered same_begins came gone kept =
    let before = told_of old.rows in
    let after = told_of new.rows in
    record {
      last_thread = λ t over. ap (list_any (λ n. nat_le t n)) same_entered ∙ h.last_thread t over ∙ ap (nat_le t) (sym keeps.last_thread);
      begins_are = same_begins ∙ h.begins_are ∙ sym begun;
      rows = λ r is_row. same_rows before after (RowFollows (s ∷ past)) same r (kept (before.row r) (h.rows r is_row));
      places = λ t. rw keeps.threads (place_stays past (s ∷ past) before after t (get nat_cmp old.threads t) (came t) (gone t) (λ r. ap (λ (R : RowState). R.thread) (same r)) (h.places t));
      place_of = λ r is_row. rw keeps.threads (ap (λ (R : RowState). get nat_cmp old.threads R.thread) (same r) ∙ h.place_of r is_row);
    }

-- ---- a session comes

pub after_accept_step : (events : List EventDef) (past : Past) (session : ℕ) (config : Config) (info : TraceInfo) (old new : Tables) → IsLawful events (step.Accept session config ∷ past) → TablesFollow events past old
    → MakesAccept session config info old new → TablesFollow events (step.Accept session config ∷ past) new
after_accept_step events past session config info old new lawful h m =
    let before = told_of old.rows in
    let after = told_of new.rows in
    let later = step.Accept session config ∷ past in
    let now = m.now in
    let slot = now.slot in
    let anew = accept_new events past session config lawful.1 in
    let fresh = untouched events session past h.lawful anew in
    let next = and_parts (nat_lt 0 session) _ (not-false (is_next_session session past) (none_there (objections events past (step.Accept session config)) lawful.1).0) in
    let less = last_less old.last_session session (sym (h.last_session session next.0) ∙ not-true _ next.1) in
    let rest = m.rest.1 in
    let unheld : has_slot slot old.present.items ≡ false = sym (h.held slot) ∙ free_slot old.table slot m.id m.seat in
    let off : (r : ℕ) → IsRow THREADS r → is_some (slot_of (after.row r) slot) ≡ false = λ r is_row.
    false_from_ne_true (is_some (slot_of (after.row r) slot)) (λ on. false≢true (sym unheld ∙ h.on_known r slot is_row (ap (λ (R : RowState). is_some (slot_of R slot)) (sym (m.rows.rows r)) ∙ on))) in
    let undue_at : (r : ℕ) → IsRow THREADS r → (bit_at (after.row r).due slot == 1) ≡ false = λ r is_row.
    false_bit (bit_at (after.row r).due slot) (λ one. false≢true (sym unheld ∙ h.due_known r slot is_row (ap (λ (R : RowState). bit_at R.due slot) (sym (m.rows.rows r)) ∙ one))) in
    let never : (t : ℕ) → is_open session t past ≡ false = λ t. never_on events session t past h.lawful anew in
    let follows_now : PresentFollows events later after now = record {
      seat = ap (λ (r : _). r.seat.slot) rest;
      rows = λ r is_row. record {
        on = off r is_row ∙ sym (never (after.row r).thread) ∙ ap (λ n. is_open n (after.row r).thread past) (sym m.number);
        owed = undue_at r is_row ∙ sym (undue events session (after.row r).thread past h.lawful (never (after.row r).thread)) ∙ ap (λ n. is_due events n (after.row r).thread past) (sym m.number);
      };
      ever = λ t. ap is_some (m.ever t) ∙ sym (ap (λ n. was_opened n t past) m.number ∙ ap (list_any (λ x. x == t)) fresh.nowhere);
      count = m.count ∙ sym (ap (λ n. length (opened n past)) m.number ∙ ap length fresh.nowhere);
      in_hand = ap (λ (r : _). r.in_hand) rest ∙ sym (ap (λ n. (budget_of n past).in_hand) m.number ∙ ap (λ (b : Budget). b.in_hand) fresh.nothing);
    } in
    let threads = threads_follow events past (step.Accept session config) old new h m.threads m.begins m.rows.rows refl refl (λ t. refl) (λ t gone. record { gone = gone.gone; closed = gone.closed })
    (λ R f. record { came = f.came; count = f.count; writing = f.writing; gone = f.gone }) in
    let All : List Present → Type 0 = AllByRecursion (PresentFollows events later after) in
    record {
      lawful = lawful;
      events_are = rw m.events_stay.events h.events_are;
      known = m.events_stay.known ∙ h.known;
      last_session = λ s over. last_more s old.last_session session (accepted past) (h.last_session s over) less ∙ ap (nat_le s) (sym m.last_session);
      last_thread = threads.last_thread;
      begins_are = threads.begins_are;
      rows = threads.rows;
      places = threads.places;
      place_of = threads.place_of;
      present_are = present_accept session config past anew ∙ ap (λ ns. session ∷ ns) h.present_are ∙ ap (λ n. n ∷ map number_of old.present.items) (sym m.number) ∙ sym (ap (map number_of) m.sessions);
      sessions = subst All (sym m.sessions) (
        follows_now,
        All-each (PresentFollows events past before) (PresentFollows events later after) old.present.items (λ p f. record {
          seat = f.seat;
          rows = λ r is_row. let on = f.rows r is_row in same_rows before after (OnFollows events later p.number p.slot) m.rows.rows r (record { on = on.on; owed = on.owed });
          ever = f.ever;
          count = f.count;
          in_hand = f.in_hand;
        }) h.sessions,
      );
      held = λ s. ap (λ t. is_held t s) m.table ∙ accept_held old.table slot s m.id m.seat ∙ ap (λ b. (slot == s) || b) (h.held s) ∙ sym (ap (has_slot s) m.sessions);
      held_are = ap held_count m.table ∙ accept_count old.table slot m.id m.seat ∙ ap suc h.held_are ∙ sym (ap length m.sessions);
      on_known = λ r s is_row on. ap (has_slot s) m.sessions ∙ or_right (slot == s) (has_slot s old.present.items) (h.on_known r s is_row (ap (λ (R : RowState). is_some (slot_of R s)) (sym (m.rows.rows r)) ∙ on));
      due_known = λ r s is_row one. ap (has_slot s) m.sessions ∙ or_right (slot == s) (has_slot s old.present.items) (h.due_known r s is_row (ap (λ (R : RowState). bit_at R.due s) (sym (m.rows.rows r)) ∙ one));
    }

-- ---- a session goes

known_still : (slot s : ℕ) (ps : List Present) (rest : List Present) → has_slot s ps ≡ ((slot == s) || has_slot s rest) → has_slot s ps ≡ true → (s ≡ slot → ⊥) → has_slot s rest ≡ true
known_still slot s ps rest parts is other = sym (ap (λ b. b || has_slot s rest) (ne_eqb slot s (λ same. other (sym same)))) ∙ sym parts ∙ is

pub after_finish : (events : List EventDef) (past : Past) (session stamp : ℕ) (old new : Tables) → IsLawful events (step.Finish session stamp ∷ past) → TablesFollow events past old → MakesFinish session old new → TablesFollow events (step.Finish session stamp ∷ past) new
after_finish events past session stamp old new lawful h m =
    let before = told_of old.rows in
    let after = told_of new.rows in
    let later = step.Finish session stamp ∷ past in
    let slot = m.was.slot in
    let found = session_at events past old session m.place m.was h m.stands in
    let rest = remove old.present.items m.place in
    let nowhere = (none_there (objections events past (step.Finish session stamp)) lawful.1).1.0 in
    let closed : (t : ℕ) → is_open session t past ≡ false = λ t. false_from_ne_true (is_open session t past) (λ on. false≢true (sym nowhere ∙ open_somewhere session t past on)) in
    let off : (r : ℕ) → IsRow THREADS r → is_some (slot_of (before.row r) slot) ≡ false = λ r is_row.
    (found.follows.rows r is_row).on ∙ ap (λ n. is_open n (before.row r).thread past) found.number ∙ closed (before.row r).thread in
    let undue_at : (r : ℕ) → IsRow THREADS r → (bit_at (before.row r).due slot == 1) ≡ false = λ r is_row.
    (found.follows.rows r is_row).owed ∙ ap (λ n. is_due events n (before.row r).thread past) found.number ∙ undue events session (before.row r).thread past h.lawful (closed (before.row r).thread) in
    let parts : (s : ℕ) → has_slot s old.present.items ≡ ((slot == s) || has_slot s rest) = λ s. any-remove (λ (p : Present). p.slot == s) old.present.items m.place m.was m.stands.there in
    let numbers = numbers_distinct events past old h in
    let slots = seats_distinct events past old h in
    let threads = threads_follow events past (step.Finish session stamp) old new h m.threads m.begins m.rows.rows refl refl (λ t. refl) (λ t gone. record { gone = gone.gone; closed = gone.closed })
    (λ R f. record { came = f.came; count = f.count; writing = f.writing; gone = f.gone }) in
    let All : List Present → Type 0 = AllByRecursion (PresentFollows events later after) in
    record {
      lawful = lawful;
      events_are = rw m.events.events h.events_are;
      known = m.events.known ∙ h.known;
      last_session = λ s over. h.last_session s over ∙ ap (nat_le s) (sym m.last_session);
      last_thread = threads.last_thread;
      begins_are = threads.begins_are;
      rows = threads.rows;
      places = threads.places;
      place_of = threads.place_of;
      present_are = present_finish session stamp past ∙ ap (filter (λ x. not (session == x))) h.present_are ∙ sym (map-remove number_of old.present.items m.place m.was session m.stands.there found.number numbers) ∙ sym (ap (map number_of) m.sessions);
      sessions = subst All (sym m.sessions)
          (All-remove number_of (λ (p : Present). p.slot) (PresentFollows events past before) (PresentFollows events later after) old.present.items m.place m.was m.stands.there numbers slots (λ p apart f. record {
            seat = f.seat;
            rows = λ r is_row. let on = f.rows r is_row in same_rows before after (OnFollows events later p.number p.slot) m.rows.rows r (record { on = on.on; owed = on.owed });
            ever = f.ever;
            count = f.count;
            in_hand = f.in_hand;
          }) h.sessions);
      held = λ s. ap (λ t. is_held t s) m.table ∙ free_held old.table slot s old.present.items rest h.held parts (gone_slot slot m.place m.was old.present.items m.stands.there refl slots) ∙ sym (ap (has_slot s) m.sessions);
      held_are = ap held_count m.table ∙ free_count old.table slot (length rest) (h.held slot ∙ parts slot ∙ or_left (slot == slot) (has_slot slot rest) (eq-eqb slot slot refl)) (h.held_are ∙ length-remove old.present.items m.place m.was m.stands.there) ∙ sym (ap length m.sessions);
      on_known = λ r s is_row on.
          let was : is_some (slot_of (before.row r) s) ≡ true = ap (λ (R : RowState). is_some (slot_of R s)) (sym (m.rows.rows r)) ∙ on in
          let P : ℕ → Type 0 = λ n. is_some (slot_of (before.row r) n) ≡ true in
          ap (has_slot s) m.sessions ∙ known_still slot s old.present.items rest (parts s) (h.on_known r s is_row was) (λ same. false≢true (sym (off r is_row) ∙ subst P same was));
      due_known = λ r s is_row one.
          let was : bit_at (before.row r).due s ≡ 1 = ap (λ (R : RowState). bit_at R.due s) (sym (m.rows.rows r)) ∙ one in
          let P : ℕ → Type 0 = λ n. bit_at (before.row r).due n ≡ 1 in
          ap (has_slot s) m.sessions ∙ known_still slot s old.present.items rest (parts s) (h.due_known r s is_row was) (λ same. false≢true (sym (undue_at r is_row) ∙ eq-eqb (bit_at (before.row r).due slot) 1 (subst P same was)));
    }
