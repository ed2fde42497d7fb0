-- What each step makes of one session that is present.
use Rattle.std.proofs.Common.{◌≡◌, ℕ, zero, suc, ◌+◌, Bool, true, false, inl, inr, List, ◌∷◌, length, Some, None, refl, ap, sym, ◌∙◌, subst, arith, if◌then◌else◌}
use Rattle.std.specs.Prelude.{◌&&◌, ◌||◌, not, is_some, slice_index_or, ◌==◌}
use Rattle.std.specs.Int.{bit_at}
use Rattle.std.specs.List.{list_any}
use Rattle.std.specs.BTreeMap.{get, btree_map_len}
use Rattle.std.specs.Ordering.{nat_cmp}
use Rattle.std.proofs.lemmas.Bool.{eq-eqb, ne_eqb, and_from, and_left, and_right, or_left, or_from, not-false, cases_eq, false≢true}
use Rattle.std.proofs.lemmas.Option.{same_Some}
use Rattle.std.proofs.lemmas.Map.Keys.{any_passes_from_place}
use Rattle.ep_defs.specs.declared.limits.TheConstants.{THREADS}
use Rattle.ep_defs.specs.declared.event.EventDef.{EventDef}
use Rattle.ep_model.specs.declared.step.Step.{Step}
use Rattle.ep_model.specs.declared.step.Step.TheVariants as step
use Rattle.ep_model.specs.Fold.{Budget, budget_of, with_steal, with_give}
use Rattle.ep_model.specs.History.{Past, accepted, entered, present, was_there, is_there, has_left, opened, insert_ascending, is_open, is_due}
use Rattle.ep_model.specs.Lawful.{IsLawful, objections, begins, was_opened}
use Rattle.ep_model.proofs.Objections.{none_there}
use Rattle.ep_model.proofs.Lists.{any_inserted, length_inserted}
use Rattle.ep_slot.specs.Slot.{opened as opened_slot}
use Rattle.ep_row.specs.Row.{RowState, slot_of}
use Rattle.ep_stream.specs.Rows.{IsRow}
use Rattle.ep_stream.specs.Session.{Rest, rest_of}
use Rattle.ep_stream.specs.Steps.{ToldRows, ChangesRow, OpensRow, ClosesRow}
use Rattle.ep_stream.specs.Sweep.{TellsGive}
use Rattle.ep_rows.specs.Rows.{told_of}
use Rattle.ep_tables.specs.declared.tables.Present.{Present}
use Rattle.ep_tables.specs.declared.tables.Tables.{Tables}
use Rattle.ep_tables.specs.Tables.{TablesFollow, PresentFollows, RowFollows, OnFollows, IsGone, has_slot, number_of}
use Rattle.ep_tables.proofs.Somewhere.{cell_on}
use Rattle.ep_tables.specs.Made.{ChangesOne, OpensOn, StealsOn, ClosesOn, Gives, Points, MakesOpen, MakesSteal, MakesClose, MakesGive, MakesPoint}
use Rattle.ep_core_laws.specs.Given.{PendingFollows}
use Rattle.ep_tables.proofs.Items.{All-set, get-set_other}
use Rattle.ep_core_laws.proofs.Follow.{each_row, OwnRow, own_row, one_seated, sessions_are, session_at, numbers_distinct, seats_distinct, follows_on}
use Rattle.ep_core_laws.proofs.Sets.{set_here}

-- ---- the session that changes

-- What the past says of a session, but for its hand.
record Says (events : List EventDef) (later : Past) (told : ToldRows) (was now : Present) : Type 0 where
  rows : (r : ℕ) → IsRow THREADS r → OnFollows events later was.number was.slot (told.row r)
  ever : (thread : ℕ) → is_some (get nat_cmp now.opened thread) ≡ was_opened was.number thread later
  count : btree_map_len now.opened ≡ length (opened was.number later)
  in_hand : (rest_of now.session).in_hand ≡ (budget_of was.number later).in_hand

one_follows : (events : List EventDef) (later : Past) (told : ToldRows) (was now : Present) → now.number ≡ was.number → now.slot ≡ was.slot → (rest_of now.session).seat ≡ (rest_of was.session).seat
    → (rest_of was.session).seat.slot ≡ was.slot → Says events later told was now → PresentFollows events later told now
one_follows events later told was now number slot seat seated h =
    record {
      seat = rw seat (seated ∙ sym slot);
      rows = λ r is_row.
          let N : ℕ → Type 0 = λ n. OnFollows events later n now.slot (told.row r) in
          let S : ℕ → Type 0 = λ s. OnFollows events later was.number s (told.row r) in
          subst N (sym number) (subst S (sym slot) (h.rows r is_row));
      ever = λ thread. h.ever thread ∙ ap (λ n. was_opened n thread later) (sym number);
      count = h.count ∙ ap (λ n. length (opened n later)) (sym number);
      in_hand = h.in_hand ∙ ap (λ n. (budget_of n later).in_hand) (sym number);
    }

present_alike : (events : List EventDef) (past : Past) (old new : ToldRows) (p : Present) → ((r : ℕ) → new.row r ≡ old.row r) → PresentFollows events past old p → PresentFollows events past new p
present_alike events past old new p same f =
    record {
      seat = f.seat;
      rows = λ r is_row. subst (OnFollows events past p.number p.slot) (sym (same r)) (f.rows r is_row);
      ever = f.ever;
      count = f.count;
      in_hand = f.in_hand;
    }

other_number : (session : ℕ) (was p : Present) → was.number ≡ session → (p.number == was.number) ≡ false → (session == p.number) ≡ false
other_number session was p number apart = ne_eqb session p.number (λ same. false≢true (sym apart ∙ eq-eqb p.number was.number (sym same ∙ sym number)))

-- ---- the rows stay

after_turn : (events : List EventDef) (past : Past) (s : Step) (session : ℕ) (Changes : Present → Present → ToldRows → ToldRows → Type 0) (old new : Tables) → IsLawful events (s ∷ past) → TablesFollow events past old
    → (one : ChangesOne session Changes old new)
    → accepted (s ∷ past) ≡ accepted past → entered (s ∷ past) ≡ entered past → present (s ∷ past) ≡ present past → begins (s ∷ past) ≡ begins past
    → ((thread : ℕ) → was_there thread (s ∷ past) ≡ was_there thread past)
    → ((thread : ℕ) → IsGone thread past → IsGone thread (s ∷ past))
    → ((R : RowState) → RowFollows past R → RowFollows (s ∷ past) R)
    → ((r : ℕ) → (told_of new.rows).row r ≡ (told_of old.rows).row r)
    → ((p : Present) → (session == p.number) ≡ false → PresentFollows events past (told_of old.rows) p → PresentFollows events (s ∷ past) (told_of old.rows) p)
    → ((session == one.was.number) ≡ true → one.was.number ≡ session → PresentFollows events past (told_of old.rows) one.was → Says events (s ∷ past) (told_of old.rows) one.was one.now)
    → TablesFollow events (s ∷ past) new
after_turn events past s session Changes old new lawful h one same_accepted same_entered same_present same_begins came gone kept rows others here =
    let before = told_of old.rows in
    let after = told_of new.rows in
    let found = session_at events past old session one.place one.was h one.stands in
    follows_on events past s old new lawful h one.events one.threads one.slots (one_seated session Changes old new one) same_accepted same_entered same_present (same_begins ∙ h.begins_are ∙ sym one.begins) came gone
    (λ r. ap (λ (R : RowState). R.thread) (rows r))
    (λ r is_row. subst (RowFollows (s ∷ past)) (sym (rows r)) (kept (before.row r) (h.rows r is_row)))
    (sessions_are session Changes old new (PresentFollows events (s ∷ past) after) one
    (All-set number_of (λ (p : Present). p.slot) (PresentFollows events past before) (PresentFollows events (s ∷ past) after) old.present.items one.place one.was one.now one.stands.there
    (numbers_distinct events past old h) (seats_distinct events past old h)
    (λ p apart f. present_alike events (s ∷ past) before after p rows (others p (other_number session one.was p found.number apart.numbers) f))
    (λ f. present_alike events (s ∷ past) before after one.now rows
    (one_follows events (s ∷ past) before one.was one.now one.number one.slot one.seat f.seat (here (eq-eqb session one.was.number (sym found.number)) found.number f)))
    h.sessions))
    (λ r slot is_row is. h.on_known r slot is_row (ap (λ (R : RowState). is_some (slot_of R slot)) (sym (rows r)) ∙ is))
    (λ r slot is_row is. h.due_known r slot is_row (ap (λ (R : RowState). bit_at R.due slot) (sym (rows r)) ∙ is))

-- A step in which no session is opened or closed, and nothing becomes due.
record OpensNone (events : List EventDef) (past : Past) (s : Step) : Type 0 where
  open_same : (n t : ℕ) → is_open n t (s ∷ past) ≡ is_open n t past
  due_same : (n t : ℕ) → is_due events n t (s ∷ past) ≡ is_due events n t past
  opened_same : (n : ℕ) → opened n (s ∷ past) ≡ opened n past

still_on : (events : List EventDef) (past : Past) (s : Step) (other at : ℕ) (R : RowState) → OpensNone events past s → OnFollows events past other at R → OnFollows events (s ∷ past) other at R
still_on events past s other at R quiet h =
    record { on = h.on ∙ sym (quiet.open_same other R.thread); owed = h.owed ∙ sym (quiet.due_same other R.thread) }

-- A session whose hand stays.
still_follows : (events : List EventDef) (past : Past) (s : Step) (told : ToldRows) (p : Present) → OpensNone events past s → (budget_of p.number (s ∷ past)).in_hand ≡ (budget_of p.number past).in_hand
    → PresentFollows events past told p → PresentFollows events (s ∷ past) told p
still_follows events past s told p quiet hand f =
    record {
      seat = f.seat;
      rows = λ r is_row. still_on events past s p.number p.slot (told.row r) quiet (f.rows r is_row);
      ever = λ t. f.ever t ∙ sym (ap (list_any (λ x. x == t)) (quiet.opened_same p.number));
      count = f.count ∙ sym (ap length (quiet.opened_same p.number));
      in_hand = f.in_hand ∙ sym hand;
    }

-- The session whose step it is.
still_says : (events : List EventDef) (past : Past) (s : Step) (told : ToldRows) (was now : Present) → OpensNone events past s → now.opened ≡ was.opened
    → (rest_of now.session).in_hand ≡ (budget_of was.number (s ∷ past)).in_hand → PresentFollows events past told was → Says events (s ∷ past) told was now
still_says events past s told was now quiet same hand f =
    record {
      rows = λ r is_row. still_on events past s was.number was.slot (told.row r) quiet (f.rows r is_row);
      ever = λ t. ap (λ o. is_some (get nat_cmp o t)) same ∙ f.ever t ∙ sym (ap (list_any (λ x. x == t)) (quiet.opened_same was.number));
      count = ap btree_map_len same ∙ f.count ∙ sym (ap length (quiet.opened_same was.number));
      in_hand = hand;
    }

-- ---- a session gives back

give_rows : (slot chunks : ℕ) (old new : ToldRows) → TellsGive slot chunks (Some old) (Some new) → (r : ℕ) → new.row r ≡ old.row r
give_rows slot zero old new told r = ap (λ (t : ToldRows). t.row r) (same_Some new old told)
give_rows slot (suc chunks) old new told r = told.rows r

pub after_give : (events : List EventDef) (past : Past) (session : ℕ) (old new : Tables) → IsLawful events (step.Give session ∷ past) → TablesFollow events past old → MakesGive session old new → TablesFollow events (step.Give session ∷ past) new
after_give events past session old new lawful h one =
    let before = told_of old.rows in
    let after = told_of new.rows in
    let quiet : OpensNone events past (step.Give session) = record { open_same = λ n t. refl; due_same = λ n t. refl; opened_same = λ n. refl } in
    let hand : Bool → ℕ → ℕ = λ b n. (if b then with_give (budget_of n past) else budget_of n past).in_hand in
    after_turn events past (step.Give session) session Gives old new lawful h one refl refl refl refl (λ t. refl) (λ t gone. record { gone = gone.gone; closed = gone.closed })
    (λ R f. record { came = f.came; count = f.count; writing = f.writing; gone = f.gone })
    (give_rows one.was.slot (rest_of one.was.session).in_hand before after one.changes.told)
    (λ p off f. still_follows events past (step.Give session) before p quiet (ap (λ b. hand b p.number) off) f)
    (λ on number f. still_says events past (step.Give session) before one.was one.now quiet one.changes.opened
    (ap (λ (r : Rest). r.in_hand) one.changes.rest ∙ (sym (ap (λ b. hand b one.was.number) on))) f)

-- ---- a session tells a point

pub after_point : (events : List EventDef) (past : Past) (session stamp : ℕ) (old new : Tables) → IsLawful events (step.Point session stamp ∷ past) → TablesFollow events past old → MakesPoint session stamp old new → TablesFollow events (step.Point session stamp ∷ past) new
after_point events past session stamp old new lawful h one =
    let before = told_of old.rows in
    let quiet : OpensNone events past (step.Point session stamp) = record { open_same = λ n t. refl; due_same = λ n t. refl; opened_same = λ n. refl } in
    after_turn events past (step.Point session stamp) session (Points old.events.items stamp) old new lawful h one refl refl refl refl (λ t. refl) (λ t gone. record { gone = gone.gone; closed = gone.closed })
    (λ R f. record { came = f.came; count = f.count; writing = f.writing; gone = f.gone })
    (λ r. ap (λ (t : ToldRows). t.row r) one.changes.told)
    (λ p off f. still_follows events past (step.Point session stamp) before p quiet refl f)
    (λ on number f. still_says events past (step.Point session stamp) before one.was one.now quiet one.changes.opened (ap (λ (r : Rest). r.in_hand) one.changes.rest ∙ f.in_hand) f)

-- ---- a session takes what is pending

-- What was taken is in hand, where nothing was.
in_hand_after : (budget : Budget) (thread chunks : ℕ) (pending : ℕ) → budget.in_hand ≡ 0 → chunks ≡ pending → pending ≡ (budget.pending thread).chunks → chunks ≡ (with_steal budget thread).in_hand
in_hand_after budget thread chunks pending none same is = omega (arith, none, same, is)

pub after_steal : (events : List EventDef) (past : Past) (session thread : ℕ) (old new : Tables) → IsLawful events (step.Steal session thread ∷ past) → TablesFollow events past old → (makes : MakesSteal session thread old new)
    → PendingFollows past session thread (told_of old.rows) makes.row makes.one.was.slot → TablesFollow events (step.Steal session thread ∷ past) new
after_steal events past session thread old new lawful h m pending =
    let before = told_of old.rows in
    let one = m.one in
    let quiet : OpensNone events past (step.Steal session thread) = record { open_same = λ n t. refl; due_same = λ n t. refl; opened_same = λ n. refl } in
    let hand : Bool → ℕ → ℕ = λ b n. (if b then with_steal (budget_of n past) thread else budget_of n past).in_hand in
    after_turn events past (step.Steal session thread) session (StealsOn old.events.items m.row) old new lawful h one refl refl refl refl (λ t. refl) (λ t gone. record { gone = gone.gone; closed = gone.closed })
    (λ R f. record { came = f.came; count = f.count; writing = f.writing; gone = f.gone })
    one.changes.told.rows
    (λ p off f. still_follows events past (step.Steal session thread) before p quiet (ap (λ b. hand b p.number) off) f)
    (λ on number f.
    let budget = budget_of one.was.number past in
    let is : one.changes.told.buffer.pending.chunks ≡ (budget.pending thread).chunks = rw (pending one.changes.told.buffer one.changes.told.was) (ap (λ n. ((budget_of n past).pending thread).chunks) (sym number)) in
    still_says events past (step.Steal session thread) before one.was one.now quiet one.changes.opened
    (ap (λ (r : Rest). r.in_hand) one.changes.rest ∙ (in_hand_after budget thread one.changes.chunks one.changes.told.buffer.pending.chunks (sym f.in_hand ∙ one.changes.empty) one.changes.told.all.chunks_are is ∙ sym (ap (λ b. hand b one.was.number) on))) f)

-- ---- a session is opened or closed on a row

-- A row of which one slot changes.
record SetsSlot (slot : ℕ) (R S : RowState) : Type 0 where
  follows : (later : Past) → RowFollows later R → RowFollows later S
  thread : S.thread ≡ R.thread
  due : S.due ≡ R.due
  others : (s : ℕ) → (s ≡ slot → ⊥) → slot_of S s ≡ slot_of R s

opens_slot : (events : List EventDef) (slot session : ℕ) (config : _) (R S : RowState) → OpensRow events slot session config R S → SetsSlot slot R S
opens_slot events slot session config R S opens =
    record {
      follows = λ later f. subst (RowFollows later) (sym opens.others) (record { came = f.came; count = f.count; writing = f.writing; gone = f.gone });
      thread = ap (λ (R : RowState). R.thread) opens.others;
      due = ap (λ (R : RowState). R.due) opens.others;
      others = λ s off. ap (λ slots. slice_index_or slots s None) opens.slots ∙ get-set_other R.slots slot s _ None off;
    }

closes_slot : (slot : ℕ) (R S : RowState) → ClosesRow slot R S → SetsSlot slot R S
closes_slot slot R S closes =
    record {
      follows = λ later f. subst (RowFollows later) (sym closes.others) (record { came = f.came; count = f.count; writing = f.writing; gone = f.gone });
      thread = ap (λ (R : RowState). R.thread) closes.others;
      due = ap (λ (R : RowState). R.due) closes.others;
      others = λ s off. ap (λ slots. slice_index_or slots s None) closes.slots ∙ get-set_other R.slots slot s _ None off;
    }

-- What the step leaves: where sessions are open but for this one on this thread, and what is due.
record LeavesOthers (events : List EventDef) (past : Past) (s : Step) (session thread : ℕ) : Type 0 where
  open_else : (n t : ℕ) → (session == n) ≡ false → is_open n t (s ∷ past) ≡ is_open n t past
  open_apart : (n t : ℕ) → (thread == t) ≡ false → is_open n t (s ∷ past) ≡ is_open n t past
  due_same : (n t : ℕ) → is_due events n t (s ∷ past) ≡ is_due events n t past
  opened_else : (n : ℕ) → (session == n) ≡ false → opened n (s ∷ past) ≡ opened n past
  hand_else : (n : ℕ) → (session == n) ≡ false → (budget_of n (s ∷ past)).in_hand ≡ (budget_of n past).in_hand

-- What is kept of the session where it is opened and closed.
record Keeps (later : Past) (was now : Present) : Type 0 where
  ever : (thread : ℕ) → is_some (get nat_cmp now.opened thread) ≡ was_opened was.number thread later
  count : btree_map_len now.opened ≡ length (opened was.number later)
  in_hand : (rest_of now.session).in_hand ≡ (budget_of was.number later).in_hand

on_else : (events : List EventDef) (past : Past) (s : Step) (session thread slot other at : ℕ) (R S : RowState) → LeavesOthers events past s session thread → SetsSlot slot R S → (session == other) ≡ false → (at ≡ slot → ⊥)
    → OnFollows events past other at R → OnFollows events (s ∷ past) other at S
on_else events past s session thread slot other at R S leaves sets apart off h =
    record {
      on = ap is_some (sets.others at off) ∙ h.on ∙ sym (leaves.open_else other R.thread apart) ∙ ap (λ t. is_open other t (s ∷ past)) (sym sets.thread);
      owed = ap (λ n. bit_at n at == 1) sets.due ∙ h.owed ∙ sym (leaves.due_same other R.thread) ∙ ap (λ t. is_due events other t (s ∷ past)) (sym sets.thread);
    }

on_apart : (events : List EventDef) (past : Past) (s : Step) (session thread other at : ℕ) (R : RowState) → LeavesOthers events past s session thread → (thread == R.thread) ≡ false → OnFollows events past other at R → OnFollows events (s ∷ past) other at R
on_apart events past s session thread other at R leaves apart h =
    record { on = h.on ∙ sym (leaves.open_apart other R.thread apart); owed = h.owed ∙ sym (leaves.due_same other R.thread) }

on_here : (events : List EventDef) (past : Past) (s : Step) (session thread slot other : ℕ) (R S : RowState) → LeavesOthers events past s session thread → SetsSlot slot R S → is_some (slot_of S slot) ≡ is_open other R.thread (s ∷ past)
    → OnFollows events past other slot R → OnFollows events (s ∷ past) other slot S
on_here events past s session thread slot other R S leaves sets here h =
    record {
      on = here ∙ ap (λ t. is_open other t (s ∷ past)) (sym sets.thread);
      owed = ap (λ n. bit_at n slot == 1) sets.due ∙ h.owed ∙ sym (leaves.due_same other R.thread) ∙ ap (λ t. is_due events other t (s ∷ past)) (sym sets.thread);
    }

after_slot : (events : List EventDef) (past : Past) (s : Step) (session thread row : ℕ) (Changes : Present → Present → ToldRows → ToldRows → Type 0) (Sets : RowState → RowState → Type 0) (old new : Tables) → IsLawful events (s ∷ past) → TablesFollow events past old
    → OwnRow past old thread row → (one : ChangesOne session Changes old new) → ChangesRow row Sets (told_of old.rows) (told_of new.rows)
    → accepted (s ∷ past) ≡ accepted past → entered (s ∷ past) ≡ entered past → present (s ∷ past) ≡ present past → begins (s ∷ past) ≡ begins past
    → ((t : ℕ) → was_there t (s ∷ past) ≡ was_there t past)
    → ((t : ℕ) → IsGone t past → IsGone t (s ∷ past))
    → ((R : RowState) → RowFollows past R → RowFollows (s ∷ past) R)
    → LeavesOthers events past s session thread
    → ((R S : RowState) → Sets R S → SetsSlot one.was.slot R S)
    → is_some (slot_of ((told_of new.rows).row row) one.was.slot) ≡ is_open session thread (s ∷ past)
    → ((session == one.was.number) ≡ true → one.was.number ≡ session → PresentFollows events past (told_of old.rows) one.was → Keeps (s ∷ past) one.was one.now)
    → TablesFollow events (s ∷ past) new
after_slot events past s session thread row Changes Sets old new lawful h own one changes same_accepted same_entered same_present same_begins came gone kept leaves sets here keeps =
    let before = told_of old.rows in
    let after = told_of new.rows in
    let slot = one.was.slot in
    let later = s ∷ past in
    let found = session_at events past old session one.place one.was h one.stands in
    let here_on : is_some (slot_of (after.row row) slot) ≡ is_open one.was.number (before.row row).thread later =
    here ∙ ap (λ t. is_open session t later) (sym own.thread_is) ∙ ap (λ n. is_open n (before.row row).thread later) (sym found.number) in
    follows_on events past s old new lawful h one.events one.threads one.slots (one_seated session Changes old new one) same_accepted same_entered same_present (same_begins ∙ h.begins_are ∙ sym one.begins) came gone
    (each_row row Sets before after (λ r R S. S.thread ≡ R.thread) changes (λ c. (sets (before.row row) (after.row row) c).thread) (λ r other. refl))
    (λ r is_row. each_row row Sets before after (λ r R S. RowFollows past R → RowFollows later S) changes
    (λ c f. (sets (before.row row) (after.row row) c).follows later (kept (before.row row) f)) (λ r other. kept (before.row r)) r (h.rows r is_row))
    (sessions_are session Changes old new (PresentFollows events later after) one
    (All-set number_of (λ (p : Present). p.slot) (PresentFollows events past before) (PresentFollows events later after) old.present.items one.place one.was one.now one.stands.there
    (numbers_distinct events past old h) (seats_distinct events past old h)
    (λ p apart f.
    let off = other_number session one.was p found.number apart.numbers in
    record {
      seat = f.seat;
      rows = λ r is_row. each_row row Sets before after (λ r R S. IsRow THREADS r → OnFollows events past p.number p.slot R → OnFollows events later p.number p.slot S) changes
          (λ c at. on_else events past s session thread slot p.number p.slot (before.row row) (after.row row) leaves (sets (before.row row) (after.row row) c) off (λ same. false≢true (sym apart.slots ∙ eq-eqb p.slot slot same)))
          (λ r other at. on_apart events past s session thread p.number p.slot (before.row r) leaves (own.others r at other)) r is_row (f.rows r is_row);
      ever = λ t. f.ever t ∙ sym (ap (list_any (λ x. x == t)) (leaves.opened_else p.number off));
      count = f.count ∙ sym (ap length (leaves.opened_else p.number off));
      in_hand = f.in_hand ∙ sym (leaves.hand_else p.number off);
    })
    (λ f.
    let kept_is = keeps (eq-eqb session one.was.number (sym found.number)) found.number f in
    one_follows events later after one.was one.now one.number one.slot one.seat f.seat (record {
      rows = λ r is_row. each_row row Sets before after (λ r R S. IsRow THREADS r → OnFollows events past one.was.number slot R → OnFollows events later one.was.number slot S) changes
          (λ c at. on_here events past s session thread slot one.was.number (before.row row) (after.row row) leaves (sets (before.row row) (after.row row) c) here_on)
          (λ r other at. on_apart events past s session thread one.was.number slot (before.row r) leaves (own.others r at other)) r is_row (f.rows r is_row);
      ever = kept_is.ever;
      count = kept_is.count;
      in_hand = kept_is.in_hand;
    }))
    h.sessions))
    (λ r at. each_row row Sets before after (λ r R S. IsRow THREADS r → is_some (slot_of S at) ≡ true → has_slot at old.present.items ≡ true) changes
    (λ c is_row is. elim (cases_eq at slot) [
      | inl same ↦ any_passes_from_place (λ (p : Present). p.slot == at) old.present.items one.place one.was one.stands.there (eq-eqb slot at (sym same))
      | inr off ↦ h.on_known row at is_row (ap is_some (sym ((sets (before.row row) (after.row row) c).others at off)) ∙ is)
    ])
    (λ r other is_row is. h.on_known r at is_row is) r)
    (λ r at. each_row row Sets before after (λ r R S. IsRow THREADS r → bit_at S.due at ≡ 1 → has_slot at old.present.items ≡ true) changes
    (λ c is_row is. h.due_known row at is_row (ap (λ n. bit_at n at) (sym (sets (before.row row) (after.row row) c).due) ∙ is))
    (λ r other is_row is. h.due_known r at is_row is) r)

-- ---- a session is opened

or_else : (a b : Bool) → a ≡ false → (a || b) ≡ b
or_else false b off = refl
or_else true b off = cc

opened_leaves : (events : List EventDef) (past : Past) (session thread : ℕ) → LeavesOthers events past (step.Open session thread) session thread
opened_leaves events past session thread =
    record {
      open_else = λ n t off. or_else ((session == n) && (thread == t)) (is_open n t past) (and_left (session == n) (thread == t) off);
      open_apart = λ n t off. or_else ((session == n) && (thread == t)) (is_open n t past) (and_right (session == n) (thread == t) off);
      due_same = λ n t. refl;
      opened_else = λ n off. ap (λ b. if b then insert_ascending thread (opened n past) else opened n past) off;
      hand_else = λ n off. refl;
    }

-- A thread that is there is not gone.
gone_apart : (thread t : ℕ) (past : Past) → is_there thread past ≡ true → has_left t past ≡ true → (thread == t) ≡ false
gone_apart thread t past there left =
    let P : ℕ → Type 0 = λ n. has_left n past ≡ true in
    ne_eqb thread t (λ same. false≢true (sym (not_left (was_there thread past) (has_left thread past) there) ∙ subst P (sym same) left))
  where
    not_left : (a b : Bool) → (a && not b) ≡ true → b ≡ false
    not_left true false is = refl
    not_left true true is = cc
    not_left false b is = cc

eqb_same : (a b : ℕ) → (a == b) ≡ (b == a)
eqb_same a b =
    elim (cases_eq a b) [
      | inl same ↦ eq-eqb a b same ∙ sym (eq-eqb b a (sym same))
      | inr other ↦ ne_eqb a b other ∙ sym (ne_eqb b a (λ same. other (sym same)))
    ]

pub after_open : (events : List EventDef) (past : Past) (session thread : ℕ) (old new : Tables) → IsLawful events (step.Open session thread ∷ past) → TablesFollow events past old → MakesOpen session thread old new → TablesFollow events (step.Open session thread ∷ past) new
after_open events past session thread old new lawful h m =
    let before = told_of old.rows in
    let after = told_of new.rows in
    let one = m.one in
    let row = m.row in
    let slot = one.was.slot in
    let told = one.changes.told in
    let Sets : RowState → RowState → Type 0 = OpensRow old.events.items slot (rest_of one.was.session).seat.id (rest_of one.was.session).config in
    let there = not-false (is_there thread past) (none_there (objections events past (step.Open session thread)) lawful.1).1.0 in
    let buffer = opened_slot (rest_of one.was.session).seat.id (before.row row).thread (before.row row).index (rest_of one.was.session).config.chunks in
    let set = set_here row slot (Some buffer) before.slot after.slot told.slots in
    let both : ((session == session) && (thread == thread)) ≡ true = and_from (session == session) (thread == thread) (eq-eqb session session refl) (eq-eqb thread thread refl) in
    after_slot events past (step.Open session thread) session thread row (OpensOn old.events.items thread row) Sets old new lawful h (own_row events past old thread row h m.own) one told.rows
    refl refl refl refl (λ t. refl)
    (λ t gone. record { gone = gone.gone; closed = λ n. or_from ((session == n) && (thread == t)) (is_open n t past) (and_right (session == n) (thread == t) (gone_apart thread t past there gone.gone)) (gone.closed n) })
    (λ R f. record { came = f.came; count = f.count; writing = f.writing; gone = f.gone })
    (opened_leaves events past session thread)
    (opens_slot old.events.items slot (rest_of one.was.session).seat.id (rest_of one.was.session).config)
    (cell_on new.rows row slot ∙ ap is_some set ∙ sym (or_left ((session == session) && (thread == thread)) (is_open session thread past) both))
    (λ on number f.
    let inserted : opened one.was.number (step.Open session thread ∷ past) ≡ insert_ascending thread (opened one.was.number past) = ap (λ b. if b then insert_ascending thread (opened one.was.number past) else opened one.was.number past) on in
    record {
      ever = λ t. one.changes.ever t ∙ ap (λ b. b || is_some (get nat_cmp one.was.opened t)) (eqb_same t thread) ∙ ap (λ b. (thread == t) || b) (f.ever t) ∙ sym (any_inserted (λ x. x == t) thread (opened one.was.number past)) ∙ sym (ap (list_any (λ x. x == t)) inserted);
      count = one.changes.count ∙ ap (λ n. n + 1) f.count ∙ sym (length_inserted thread (opened one.was.number past)) ∙ sym (ap length inserted);
      in_hand = ap (λ (r : Rest). r.in_hand) one.changes.attached.rest ∙ f.in_hand;
    })

-- ---- a session is closed

closed_leaves : (events : List EventDef) (past : Past) (session thread : ℕ) → LeavesOthers events past (step.Close session thread) session thread
closed_leaves events past session thread =
    record {
      open_else = λ n t off. ap (λ b. not b && is_open n t past) (and_left (session == n) (thread == t) off);
      open_apart = λ n t off. ap (λ b. not b && is_open n t past) (and_right (session == n) (thread == t) off);
      due_same = λ n t. refl;
      opened_else = λ n off. refl;
      hand_else = λ n off. ap (λ b. (if b then with_steal (budget_of n past) thread else budget_of n past).in_hand) off;
    }

pub after_close : (events : List EventDef) (past : Past) (session thread : ℕ) (old new : Tables) → IsLawful events (step.Close session thread ∷ past) → TablesFollow events past old → (makes : MakesClose session thread old new)
    → PendingFollows past session thread (told_of old.rows) makes.row makes.one.was.slot → TablesFollow events (step.Close session thread ∷ past) new
after_close events past session thread old new lawful h m pending =
    let row = m.row in
    let one = m.one in
    let slot = one.was.slot in
    let told = one.changes.told in
    let set = set_here row slot None (told_of old.rows).slot (told_of new.rows).slot told.slots in
    let both : ((session == session) && (thread == thread)) ≡ true = and_from (session == session) (thread == thread) (eq-eqb session session refl) (eq-eqb thread thread refl) in
    after_slot events past (step.Close session thread) session thread row (ClosesOn old.events.items row) (ClosesRow slot) old new lawful h (own_row events past old thread row h m.own) one told.rows
    refl refl refl refl (λ t. refl)
    (λ t gone. record { gone = gone.gone; closed = λ n. and_right (not ((session == n) && (thread == t))) (is_open n t past) (gone.closed n) })
    (λ R f. record { came = f.came; count = f.count; writing = f.writing; gone = f.gone })
    (closed_leaves events past session thread)
    (closes_slot slot)
    (cell_on new.rows row slot ∙ ap is_some set ∙ sym (ap (λ b. not b && is_open session thread past) both))
    (λ on number f.
    let budget = budget_of one.was.number past in
    let is : told.buffer.pending.chunks ≡ (budget.pending thread).chunks = rw (pending told.buffer told.was) (ap (λ n. ((budget_of n past).pending thread).chunks) (sym number)) in
    record {
      ever = λ t. rw one.changes.opened (f.ever t);
      count = rw one.changes.opened f.count;
      in_hand = ap (λ (r : Rest). r.in_hand) one.changes.rest ∙ (in_hand_after budget thread one.changes.chunks told.buffer.pending.chunks (sym f.in_hand ∙ one.changes.empty) told.all.chunks_are is ∙ sym (ap (λ b. (if b then with_steal budget thread else budget).in_hand) on));
    })
