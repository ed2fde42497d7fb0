-- What the End of a write makes, and a thread that leaves.
use Rattle.std.proofs.Common.{◌≡◌, ℕ, true, false, List, ◌∷◌, length, None, refl, ap, sym, ◌∙◌, subst}
use Rattle.std.specs.Prelude.{◌&&◌, ◌||◌, not, is_some, slice_index_or, ◌==◌}
use Rattle.std.specs.Int.{bit_at}
use Rattle.std.specs.List.{list_any}
use Rattle.std.proofs.lemmas.Bool.{or_left, or_right}
use Rattle.ep_defs.specs.declared.limits.TheConstants.{THREADS}
use Rattle.ep_defs.specs.declared.event.EventDef.{EventDef}
use Rattle.ep_model.specs.declared.step.Step.{Step}
use Rattle.ep_model.specs.declared.step.Step.TheVariants as step
use Rattle.ep_model.specs.Fold.{budget_of}
use Rattle.ep_model.specs.History.{Past, accepted, entered, present, was_there, has_left, opened, in_write, is_open, is_due}
use Rattle.ep_model.specs.Lawful.{IsLawful, begins}
use Rattle.ep_row.specs.Row.{RowState, slot_of}
use Rattle.ep_stream.specs.Rows.{IsRow}
use Rattle.ep_rows.specs.Rows.{told_of}
use Rattle.ep_rows.specs.Writes.{ChangesAlone, EndsRow, LeavesRow}
use Rattle.ep_tables.specs.declared.tables.Tables.{Tables}
use Rattle.ep_tables.specs.Tables.{TablesFollow, PresentFollows, RowFollows, OnFollows, IsGone}
use Rattle.ep_tables.specs.Made.{ChangesOwn, MakesEnd, MakesLeave}
use Rattle.ep_tables.proofs.Items.{All-each}
use Rattle.ep_core_laws.proofs.Follow.{each_row, own_row, same_seats, sessions_stay, follows_on}

-- ---- a step that leaves all sessions on rows as they are

-- The row's slots stay, and what is due on it.
record StaysOn (R S : RowState) : Type 0 where
  thread : S.thread ≡ R.thread
  due : S.due ≡ R.due
  slots : S.slots ≡ R.slots

on_stays : (events : List EventDef) (past : Past) (session slot : ℕ) (R S : RowState) → StaysOn R S → OnFollows events past session slot R → OnFollows events past session slot S
on_stays events past session slot R S stays h =
    record {
      on = ap (λ slots. is_some (slice_index_or slots slot None)) stays.slots ∙ h.on ∙ ap (λ t. is_open session t past) (sym stays.thread);
      owed = ap (λ due. bit_at due slot == 1) stays.due ∙ h.owed ∙ ap (λ t. is_due events session t past) (sym stays.thread);
    }

-- What the past says of sessions on threads stays after the step.
record SaysSame (events : List EventDef) (past : Past) (s : Step) : Type 0 where
  sessions : accepted (s ∷ past) ≡ accepted past
  threads : entered (s ∷ past) ≡ entered past
  present_are : present (s ∷ past) ≡ present past
  begun : begins (s ∷ past) ≡ begins past
  came : (t : ℕ) → was_there t (s ∷ past) ≡ was_there t past
  on : (n t : ℕ) → is_open n t (s ∷ past) ≡ is_open n t past
  due : (n t : ℕ) → is_due events n t (s ∷ past) ≡ is_due events n t past
  ever : (n : ℕ) → opened n (s ∷ past) ≡ opened n past
  hand : (n : ℕ) → (budget_of n (s ∷ past)).in_hand ≡ (budget_of n past).in_hand

on_later : (events : List EventDef) (past : Past) (s : Step) (session slot : ℕ) (R : RowState) → SaysSame events past s → OnFollows events past session slot R → OnFollows events (s ∷ past) session slot R
on_later events past s session slot R same h =
    record { on = h.on ∙ sym (same.on session R.thread); owed = h.owed ∙ sym (same.due session R.thread) }

after_own : (events : List EventDef) (past : Past) (s : Step) (thread : ℕ) (Changes : RowState → RowState → Type 0) (old new : Tables) → IsLawful events (s ∷ past) → TablesFollow events past old
    → ChangesOwn thread (λ row. ChangesAlone row Changes) old new → new.begins ≡ old.begins → SaysSame events past s
    → ((t : ℕ) → IsGone t past → IsGone t (s ∷ past))
    → ((R S : RowState) → Changes R S → StaysOn R S)
    → ((R S : RowState) → (thread == R.thread) ≡ true → Changes R S → RowFollows past R → RowFollows (s ∷ past) S)
    → ((R : RowState) → (thread == R.thread) ≡ false → RowFollows past R → RowFollows (s ∷ past) R)
    → TablesFollow events (s ∷ past) new
after_own events past s thread Changes old new lawful h m count same gone stays here else_where =
    let row = m.row in
    let own = own_row events past old thread row h m.own in
    let before = told_of old.rows in
    let after = told_of new.rows in
    let later = s ∷ past in
    let changes = m.rows.rows in
    let kept : Changes (before.row row) (after.row row) → StaysOn (before.row row) (after.row row) = stays (before.row row) (after.row row) in
    follows_on events past s old new lawful h m.events m.threads m.sessions.slots (same_seats old new m.sessions) same.sessions same.threads same.present_are (same.begun ∙ h.begins_are ∙ sym count) same.came gone
    (each_row row Changes before after (λ r R S. S.thread ≡ R.thread) changes (λ c. (kept c).thread) (λ r other. refl))
    (λ r is_row. each_row row Changes before after (λ r R S. IsRow THREADS r → RowFollows past R → RowFollows later S) changes
    (λ c at. here (before.row row) (after.row row) own.here c) (λ r other at. else_where (before.row r) (own.others r at other)) r is_row (h.rows r is_row))
    (sessions_stay old new (PresentFollows events later after) m.sessions
    (All-each (PresentFollows events past before) (PresentFollows events later after) old.present.items (λ p f. record {
      seat = f.seat;
      rows = λ r is_row. each_row row Changes before after (λ r R S. OnFollows events past p.number p.slot R → OnFollows events later p.number p.slot S) changes
          (λ c on. on_stays events later p.number p.slot (before.row row) (after.row row) (kept c) (on_later events past s p.number p.slot (before.row row) same on))
          (λ r other. on_later events past s p.number p.slot (before.row r) same) r (f.rows r is_row);
      ever = λ t. f.ever t ∙ sym (ap (list_any (λ x. x == t)) (same.ever p.number));
      count = f.count ∙ sym (ap length (same.ever p.number));
      in_hand = f.in_hand ∙ sym (same.hand p.number);
    }) h.sessions))
    (λ r slot is_row is. h.on_known r slot is_row (sym (each_row row Changes before after (λ r R S. is_some (slot_of S slot) ≡ is_some (slot_of R slot)) changes (λ c. ap (λ slots. is_some (slice_index_or slots slot None)) (kept c).slots) (λ r other. refl) r) ∙ is))
    (λ r slot is_row is. h.due_known r slot is_row (sym (each_row row Changes before after (λ r R S. bit_at S.due slot ≡ bit_at R.due slot) changes (λ c. ap (λ due. bit_at due slot) (kept c).due) (λ r other. refl) r) ∙ is))

-- ---- a write ends

pub after_end : (events : List EventDef) (past : Past) (thread : ℕ) (old new : Tables) → IsLawful events (step.End thread ∷ past) → TablesFollow events past old → MakesEnd thread old new → TablesFollow events (step.End thread ∷ past) new
after_end events past thread old new lawful h m =
    after_own events past (step.End thread) thread EndsRow old new lawful h m.own m.begins
    (record { sessions = refl; threads = refl; present_are = refl; begun = refl; came = λ t. refl; on = λ n t. refl; due = λ n t. refl; ever = λ n. refl; hand = λ n. refl })
    (λ t gone. record { gone = gone.gone; closed = gone.closed })
    (λ R S ends. record { thread = ap (λ (R : RowState). R.thread) ends.row; due = ap (λ (R : RowState). R.due) ends.row; slots = ap (λ (R : RowState). R.slots) ends.row })
    (λ R S own ends f. subst (RowFollows (step.End thread ∷ past)) (sym ends.row)
    (record { came = f.came; count = f.count; writing = sym (ap (λ b. not b && in_write R.thread past) own); gone = f.gone }))
    (λ R other f. record { came = f.came; count = f.count; writing = f.writing ∙ sym (ap (λ b. not b && in_write R.thread past) other); gone = f.gone })

-- ---- a thread leaves

pub after_leave : (events : List EventDef) (past : Past) (thread : ℕ) (old new : Tables) → IsLawful events (step.Leave thread ∷ past) → TablesFollow events past old → MakesLeave thread old new → TablesFollow events (step.Leave thread ∷ past) new
after_leave events past thread old new lawful h m =
    after_own events past (step.Leave thread) thread LeavesRow old new lawful h m.own m.begins
    (record { sessions = refl; threads = refl; present_are = refl; begun = refl; came = λ t. refl; on = λ n t. refl; due = λ n t. refl; ever = λ n. refl; hand = λ n. refl })
    (λ t gone. record { gone = or_right (thread == t) (has_left t past) gone.gone; closed = gone.closed })
    (λ R S leaves. record { thread = ap (λ (R : RowState). R.thread) leaves.row; due = ap (λ (R : RowState). R.due) leaves.row; slots = ap (λ (R : RowState). R.slots) leaves.row })
    (λ R S own leaves f. subst (RowFollows (step.Leave thread ∷ past)) (sym leaves.row)
    (record { came = f.came; count = f.count; writing = f.writing; gone = sym (or_left (thread == R.thread) (has_left R.thread past) own) }))
    (λ R other f. record { came = f.came; count = f.count; writing = f.writing; gone = f.gone ∙ sym (ap (λ b. b || has_left R.thread past) other) })
