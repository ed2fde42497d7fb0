-- What a thread makes that comes.
use Rattle.std.proofs.Common.{◌≡◌, ℕ, Bool, true, false, inl, inr, List, [], ◌∷◌, map, length, Option, Some, None, refl, ap, sym, ◌∙◌, subst, if◌then◌else◌}
use Rattle.std.specs.Prelude.{◌||◌, is_some, IsNone, nat_lt, nat_le, ◌==◌}
use Rattle.std.specs.Int.{bit_at, is_in_range}
use Rattle.std.specs.List.{All, AllByRecursion}
use Rattle.std.specs.BTreeMap.{get}
use Rattle.std.specs.Ordering.{nat_cmp}
use Rattle.std.proofs.lemmas.Bool.{eqb-true, eq-eqb, ne_eqb, ltb-true, and_parts, or_left, or_right, or_cases, not-true, not-false, cases_eq, false≢true}
use Rattle.ep_defs.specs.declared.limits.TheConstants.{THREADS}
use Rattle.ep_defs.specs.declared.event.EventDef.{EventDef}
use Rattle.ep_model.specs.declared.step.Step.TheVariants as step
use Rattle.ep_model.specs.History.{Past, entered, was_there, is_open}
use Rattle.ep_model.specs.Lawful.{IsLawful, objections, is_next_thread}
use Rattle.ep_model.proofs.Lists.{has}
use Rattle.ep_model.proofs.Objections.{none_there}
use Rattle.ep_model.proofs.Sessions.{open_present}
use Rattle.ep_table.specs.Sessions.{is_held, held_count}
use Rattle.ep_row.specs.Row.{RowState, slot_of}
use Rattle.ep_stream.specs.Rows.{IsRow}
use Rattle.ep_stream.specs.Steps.{ToldRows}
use Rattle.ep_rows.specs.Rows.{told_of}
use Rattle.ep_rows.specs.Writes.{EntersRow}
use Rattle.ep_tables.specs.declared.tables.Present.{Present}
use Rattle.ep_tables.specs.declared.tables.Tables.{Tables}
use Rattle.ep_tables.specs.Tables.{TablesFollow, PresentFollows, RowFollows, OnFollows, PlaceFollows, IsGone, number_of}
use Rattle.ep_tables.proofs.Pasts.{has_present}
use Rattle.ep_tables.proofs.Slots.{none_at}
use Rattle.ep_tables.specs.Made.{MakesEnter}
use Rattle.ep_tables.proofs.Items.{All-each}
use Rattle.ep_core_laws.proofs.FollowPasts.{left_quiet, never_came, never_open, quiet_undue, enters_anew, last_more, last_less}
use Rattle.ep_core_laws.proofs.Follow.{each_row, same_seats, sessions_stay}

-- ---- the row that is free

-- No session is open on the row's thread where none is open in a slot.
none_open : (events : List EventDef) (past : Past) (told : ToldRows) (session row : ℕ) (ps : List Present) → IsRow THREADS row → ((slot : ℕ) → is_some (slot_of (told.row row) slot) ≡ false)
    → AllByRecursion (PresentFollows events past told) ps → has session (map number_of ps) ≡ true → is_open session (told.row row).thread past ≡ false
none_open events past told session row [] is_row off all is = absurd (false≢true is)
none_open events past told session row (p ∷ ps) is_row off all is =
    elim (or_cases (p.number == session) (has session (map number_of ps)) is) [
      | inl here ↦ ap (λ n. is_open n (told.row row).thread past) (sym (eqb-true p.number session here)) ∙ sym (all.0.rows row is_row).on ∙ off p.slot
      | inr later ↦ none_open events past told session row ps is_row off all.1 later
    ]

-- A free row's thread is gone.
free_gone : (events : List EventDef) (past : Past) (tables : Tables) (row : ℕ) → TablesFollow events past tables → IsRow THREADS row → ((told_of tables.rows).row row).left ≡ true → All IsNone ((told_of tables.rows).row row).slots
    → IsGone ((told_of tables.rows).row row).thread past
free_gone events past tables row h is_row left off =
    let R = (told_of tables.rows).row row in
    record {
      gone = sym (h.rows row is_row).gone ∙ left;
      closed = λ session. elim (is_open session R.thread past) as (λ v. is_open session R.thread past ≡ v → v ≡ false) [
        | true ↦ λ on.
            let there = sym (ap (has session) h.present_are) ∙ has_present session past ∙ open_present events session R.thread past h.lawful on in
            sym on ∙ none_open events past (told_of tables.rows) session row tables.present.items is_row (λ slot. none_at R.slots slot off) h.sessions there
        | false ↦ λ _. refl
      ] refl;
    }

-- ---- the thread that comes

there_more : (a b c : Bool) → (a || c) ≡ true → (a || (b || c)) ≡ true
there_more true b c is = refl
there_more false b c is = or_right b c is

came_more : (thread t : ℕ) (past : Past) → was_there t past ≡ true → was_there t (step.Enter thread ∷ past) ≡ true
came_more thread t past is = there_more (is_in_range 1 THREADS t) (thread == t) (has t (entered past)) is

comes : (thread : ℕ) (past : Past) → was_there thread (step.Enter thread ∷ past) ≡ true
comes thread past = or_right (is_in_range 1 THREADS thread) _ (or_left (thread == thread) (has thread (entered past)) (eq-eqb thread thread refl))

not_come : (a b c : Bool) → b ≡ false → (a || c) ≡ false → (a || (b || c)) ≡ false
not_come false false c off is = is
not_come true b c off is = cc
not_come false true c off is = cc

never_apart : (thread t : ℕ) (past : Past) → was_there thread past ≡ false → was_there t past ≡ true → (t == thread) ≡ false
never_apart thread t past never there =
    let P : ℕ → Type 0 = λ n. was_there n past ≡ true in
    ne_eqb t thread (λ same. false≢true (sym never ∙ subst P same there))

enter_row : (events : List EventDef) (past : Past) (thread : ℕ) (R S : RowState) → IsLawful events past → was_there thread past ≡ false → R.left ≡ true → EntersRow thread R S → RowFollows past R → RowFollows (step.Enter thread ∷ past) S
enter_row events past thread R S lawful never left enters h =
    let fresh = never_came events thread past lawful never in
    subst (RowFollows (step.Enter thread ∷ past)) (sym enters.row)
    (record {
      came = comes thread past;
      count = sym (ap length fresh.0);
      writing = h.writing ∙ left_quiet events R.thread past lawful (sym h.gone ∙ left) ∙ sym fresh.1;
      gone = sym fresh.2;
    })

-- No session is open on the thread, and nothing is due.
enter_on : (events : List EventDef) (past : Past) (thread session slot : ℕ) (R S : RowState) → IsLawful events past → was_there thread past ≡ false → R.left ≡ true → All IsNone R.slots → RowFollows past R
    → EntersRow thread R S → OnFollows events past session slot R → OnFollows events (step.Enter thread ∷ past) session slot S
enter_on events past thread session slot R S lawful never left off f enters h =
    let fresh = never_came events thread past lawful never in
    subst (OnFollows events (step.Enter thread ∷ past) session slot) (sym enters.row)
    (record {
      on = none_at R.slots slot off ∙ sym (never_open events session thread past lawful never);
      owed = h.owed ∙ quiet_undue events session R.thread past lawful (left_quiet events R.thread past lawful (sym f.gone ∙ left)) ∙ sym (quiet_undue events session thread past lawful fresh.1);
    })

place_on : (past : Past) (thread row t : ℕ) (old new : ToldRows) (given : Option ℕ) → (t == thread) ≡ false → ((r : ℕ) → (r ≡ row → ⊥) → new.row r ≡ old.row r) → IsGone (old.row row).thread past
    → PlaceFollows past old t given → PlaceFollows (step.Enter thread ∷ past) new t given
place_on past thread row t old new None apart others free h =
    not_come (is_in_range 1 THREADS t) (thread == t) (has t (entered past)) (ne_eqb thread t (λ same. false≢true (sym apart ∙ eq-eqb t thread (sym same)))) h
place_on past thread row t old new (Some r) apart others free h = (
  came_more thread t past h.0,
  elim h.1 [
    | inl own ↦ elim (cases_eq r row) [
      | inl same ↦
          let G : ℕ → Type 0 = λ n. IsGone n past in
          let gone = subst G (ap (λ n. (old.row n).thread) (sym same) ∙ own) free in
          inr (record { gone = gone.gone; closed = gone.closed })
      | inr other ↦ inl (ap (λ (R : RowState). R.thread) (others r other) ∙ own)
    ]
    | inr gone ↦ inr (record { gone = gone.gone; closed = gone.closed })
  ],
)

-- ---- the tables

pub after_enter : (events : List EventDef) (past : Past) (thread : ℕ) (old new : Tables) → IsLawful events (step.Enter thread ∷ past) → TablesFollow events past old → MakesEnter thread old new → TablesFollow events (step.Enter thread ∷ past) new
after_enter events past thread old new lawful h m =
    let row = m.row in
    let before = told_of old.rows in
    let after = told_of new.rows in
    let later = step.Enter thread ∷ past in
    let changes = m.rows.rows in
    let never = enters_anew events thread past lawful in
    let free = free_gone events past old row h m.is_row m.left m.off in
    let next = and_parts (nat_lt THREADS thread) _ (not-false (is_next_thread thread past) (none_there (objections events past (step.Enter thread)) lawful.1).0) in
    let above = ltb-true THREADS thread next.0 in
    let less = last_less old.last_thread thread (sym (h.last_thread thread next.0) ∙ not-true _ next.1) in
    let seats = same_seats old new m.sessions in
    let served : (after.row row).thread ≡ thread = ap (λ (R : RowState). R.thread) changes.here.row in
    let others : (r : ℕ) → (r ≡ row → ⊥) → after.row r ≡ before.row r = changes.others in
    record {
      lawful = lawful;
      events_are = rw m.events.events h.events_are;
      known = m.events.known ∙ h.known;
      last_session = λ session over. h.last_session session over ∙ ap (nat_le session) (sym m.sessions.slots.last_session);
      last_thread = λ t over. last_more t old.last_thread thread (entered past) (h.last_thread t over) less ∙ ap (nat_le t) (sym m.last_thread);
      begins_are = h.begins_are ∙ sym m.begins;
      rows = λ r is_row. each_row row (EntersRow thread) before after (λ r R S. RowFollows past R → RowFollows later S) changes
          (λ enters. enter_row events past thread (before.row row) (after.row row) h.lawful never m.left enters)
          (λ r other f. record { came = came_more thread (before.row r).thread past f.came; count = f.count; writing = f.writing; gone = f.gone }) r (h.rows r is_row);
      places = λ t.
          let P : Option ℕ → Type 0 = λ given. PlaceFollows later after t given in
          subst P (sym (m.given t))
          (elim (t == thread) as (λ v. (t == thread) ≡ v → PlaceFollows later after t (if v then Some row else get nat_cmp old.threads t)) [
            | true ↦ λ same.
                let e = eqb-true t thread same in
                (ap (λ n. was_there n later) e ∙ comes thread past, inl (served ∙ sym e))
            | false ↦ λ apart. place_on past thread row t before after (get nat_cmp old.threads t) apart others free (h.places t)
          ] refl);
      place_of = each_row row (EntersRow thread) before after (λ r R S. IsRow THREADS r → get nat_cmp new.threads S.thread ≡ Some r) changes
          (λ enters at. m.given (after.row row).thread ∙ ap (λ b. if b then Some row else get nat_cmp old.threads (after.row row).thread) (eq-eqb (after.row row).thread thread served))
          (λ r other at.
          let apart = never_apart thread (before.row r).thread past never (h.rows r at).came in
          m.given (before.row r).thread ∙ ap (λ b. if b then Some row else get nat_cmp old.threads (before.row r).thread) apart ∙ h.place_of r at);
      present_are = h.present_are ∙ sym seats.numbers;
      sessions = sessions_stay old new (PresentFollows events later after) m.sessions
          (All-each (PresentFollows events past before) (PresentFollows events later after) old.present.items (λ p f. record {
            seat = f.seat;
            rows = λ r is_row. each_row row (EntersRow thread) before after (λ r R S. OnFollows events past p.number p.slot R → OnFollows events later p.number p.slot S) changes
                (enter_on events past thread p.number p.slot (before.row row) (after.row row) h.lawful never m.left m.off (h.rows row m.is_row))
                (λ r other on. record { on = on.on; owed = on.owed }) r (f.rows r is_row);
            ever = f.ever;
            count = f.count;
            in_hand = f.in_hand;
          }) h.sessions);
      held = λ slot. ap (λ t. is_held t slot) m.sessions.slots.table ∙ h.held slot ∙ sym (seats.slots slot);
      held_are = ap held_count m.sessions.slots.table ∙ h.held_are ∙ sym seats.count;
      on_known = λ r slot is_row is. seats.slots slot ∙ h.on_known r slot is_row
          (sym (each_row row (EntersRow thread) before after (λ r R S. is_some (slot_of S slot) ≡ is_some (slot_of R slot)) changes (λ enters. ap (λ (R : RowState). is_some (slot_of R slot)) enters.row) (λ r other. refl) r) ∙ is);
      due_known = λ r slot is_row is. seats.slots slot ∙ h.due_known r slot is_row
          (sym (each_row row (EntersRow thread) before after (λ r R S. bit_at S.due slot ≡ bit_at R.due slot) changes (λ enters. ap (λ (R : RowState). bit_at R.due slot) enters.row) (λ r other. refl) r) ∙ is);
    }
