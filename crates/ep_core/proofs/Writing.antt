-- A whole write: its steps one after another, and what is known between them.
use Rattle.std.proofs.Common.{◌≡◌, ◌≤◌, ◌<◌, ◌-◌, ◌+◌, ℕ, zero, suc, true, false, List, [], ◌∷◌, ◌++◌, length, map, reverse, take, get_or, Option, Some, None, refl, ap, sym, ◌∙◌, subst, arith, append_assoc, length-append, if◌then◌else◌, set}
use Rattle.std.specs.Prelude.{◌==◌, slice_get}
use Rattle.std.specs.BTreeMap.{BTreeMap, get}
use Rattle.std.specs.Ordering.{nat_cmp}
use Rattle.std.proofs.lemmas.Bool.{false≢true}
use Rattle.std.proofs.lemmas.List.{reverse-append, length-reverse, length-map, length-set, get_or-set_same, take_all}
use Rattle.std.proofs.lemmas.Option.{same_Some, slice_get-get_or}
use Rattle.ep_defs.specs.declared.limits.TheConstants.{THREADS}
use Rattle.ep_defs.specs.declared.event.EventDef.{EventDef}
use Rattle.ep_defs.specs.declared.session.TraceInfo.{TraceInfo}
use Rattle.ep_defs.specs.declared.session.Write.{Write}
use Rattle.ep_model.specs.declared.step.Step.{Step}
use Rattle.ep_model.specs.declared.step.Step.TheVariants as step
use Rattle.ep_model.specs.History.{Past, is_finished}
use Rattle.ep_model.specs.Lawful.{IsLawful}
use Rattle.ep_stream.specs.Rows.{IsRow}
use Rattle.ep_stream.specs.Steps.{ToldRows}
use Rattle.ep_rows.specs.Rows.{told_of}
use Rattle.ep_tables.specs.declared.tables.Tables.{Tables}
use Rattle.ep_tables.specs.Tables.{own_row, row_of}
use Rattle.ep_core_laws.specs.Works.{CanGoOn, Works, WorksBefore}
use Rattle.ep_core.specs.declared.ended.Ended.{Ended}
use Rattle.ep_core.specs.state.Works.{EndedFollow}
use Rattle.ep_core.specs.state.Whole.{CanWriteIn}
use Rattle.ep_core.specs.Writes.{whole_write, with_write}

-- ---- its steps

-- After a thread's write was shown to these sessions.
abbrev pub shown_to : ℕ → List ℕ → Past → Past
shown_to thread [] past = past
shown_to thread (session ∷ others) past = shown_to thread others (step.Show thread session ∷ past)

-- Its first step was made.
one_made : (first : Step) (more : List Step) (past : Past) → reverse (first ∷ more) ++ past ≡ reverse more ++ first ∷ past
one_made first more past = ap (λ xs. xs ++ past) (reverse-append (first ∷ []) more) ∙ append_assoc (reverse more) (first ∷ []) past

shown_is : (thread : ℕ) (sessions : List ℕ) (past : Past)
    → reverse (map (λ session. step.Show thread session) sessions ++ step.End thread ∷ []) ++ past ≡ step.End thread ∷ shown_to thread sessions past
shown_is thread [] past = refl
shown_is thread (session ∷ others) past =
    one_made (step.Show thread session) (map (λ s. step.Show thread s) others ++ step.End thread ∷ []) past
    ∙ shown_is thread others (step.Show thread session ∷ past)

-- The last step of a whole write is its end.
pub whole_is : (thread stamp : ℕ) (write : Write) (sessions : List ℕ) (past : Past)
    → with_write thread stamp write sessions past ≡ step.End thread ∷ shown_to thread sessions (step.Begin thread stamp write ∷ past)
whole_is thread stamp write sessions past =
    one_made (step.Begin thread stamp write) (map (λ s. step.Show thread s) sessions ++ step.End thread ∷ []) past
    ∙ shown_is thread sessions (step.Begin thread stamp write ∷ past)

-- One show more.
next_shown : (thread : ℕ) (sessions : List ℕ) (count : ℕ) (past : Past) → count < length sessions
    → shown_to thread (take (suc count) sessions) past ≡ step.Show thread (get_or sessions count 0) ∷ shown_to thread (take count sessions) past
next_shown thread [] count past within = absurd (omega arith)
next_shown thread (session ∷ others) zero past within = refl
next_shown thread (session ∷ others) (suc count) past within = next_shown thread others count (step.Show thread session ∷ past) (omega arith)

pub one_shown : (thread : ℕ) (sessions : List ℕ) (count next : ℕ) (past : Past) → count < length sessions → next ≡ suc count
    → shown_to thread (take next sessions) past ≡ step.Show thread (get_or sessions count 0) ∷ shown_to thread (take count sessions) past
one_shown thread sessions count next past within is =
    ap (λ n. shown_to thread (take n sessions) past) is ∙ next_shown thread sessions count past within

-- How many steps it has.
pub whole_count : (thread stamp : ℕ) (write : Write) (sessions : List ℕ) (past : Past)
    → length (with_write thread stamp write sessions past) ≡ length past + length sessions + 2
whole_count thread stamp write sessions past =
    let shows : List Step = map (λ s. step.Show thread s) sessions in
    omega (arith, length-append (reverse (whole_write thread stamp write sessions)) past, length-reverse (whole_write thread stamp write sessions), length-append shows (step.End thread ∷ []), length-map sessions (λ (s : ℕ). step.Show thread s))

-- ---- what can be made

lawful_start : (events : List EventDef) (thread : ℕ) (sessions : List ℕ) (past : Past) → IsLawful events (shown_to thread sessions past) → IsLawful events past
lawful_start events thread [] past lawful = lawful
lawful_start events thread (session ∷ others) past lawful = (lawful_start events thread others (step.Show thread session ∷ past) lawful).0

lawful_part : (events : List EventDef) (thread : ℕ) (sessions : List ℕ) (count : ℕ) (past : Past) → IsLawful events (shown_to thread sessions past)
    → IsLawful events (shown_to thread (take count sessions) past)
lawful_part events thread [] zero past lawful = lawful
lawful_part events thread [] (suc count) past lawful = lawful
lawful_part events thread (session ∷ others) zero past lawful = lawful_start events thread (session ∷ others) past lawful
lawful_part events thread (session ∷ others) (suc count) past lawful = lawful_part events thread others count (step.Show thread session ∷ past) lawful

-- The whole write can be made, so its parts can.
pub can_begin : (events : List EventDef) (thread stamp : ℕ) (write : Write) (sessions : List ℕ) (past : Past)
    → IsLawful events (with_write thread stamp write sessions past) → IsLawful events (step.Begin thread stamp write ∷ past)
can_begin events thread stamp write sessions past lawful =
    lawful_start events thread sessions (step.Begin thread stamp write ∷ past) (subst (IsLawful events) (whole_is thread stamp write sessions past) lawful).0

pub can_show : (events : List EventDef) (thread stamp : ℕ) (write : Write) (sessions : List ℕ) (count : ℕ) (past : Past) → count < length sessions
    → IsLawful events (with_write thread stamp write sessions past)
    → IsLawful events (step.Show thread (get_or sessions count 0) ∷ shown_to thread (take count sessions) (step.Begin thread stamp write ∷ past))
can_show events thread stamp write sessions count past within lawful =
    subst (IsLawful events) (next_shown thread sessions count (step.Begin thread stamp write ∷ past) within)
    (lawful_part events thread sessions (suc count) (step.Begin thread stamp write ∷ past) (subst (IsLawful events) (whole_is thread stamp write sessions past) lawful).0)

pub can_end : (events : List EventDef) (thread stamp : ℕ) (write : Write) (sessions : List ℕ) (past : Past)
    → IsLawful events (with_write thread stamp write sessions past)
    → IsLawful events (step.End thread ∷ shown_to thread sessions (step.Begin thread stamp write ∷ past))
can_end events thread stamp write sessions past lawful = subst (IsLawful events) (whole_is thread stamp write sessions past) lawful

-- ---- the row

given_is : (told : ToldRows) (thread : ℕ) (given : Option ℕ) (row : ℕ) → own_row told thread given ≡ Some row → given ≡ Some row
given_is told thread None row is = cc
given_is told thread (Some r) row is =
    elim ((told.row r).thread == thread) as (λ v. (if v then Some r else None) ≡ Some row → Some r ≡ Some row) [
      | true ↦ λ e. e
      | false ↦ λ e. absurd (cc)
    ] is

-- A thread keeps its row while the same rows are given.
pub same_row : (old new : Tables) (thread a b : ℕ) → new.threads ≡ old.threads → row_of old thread ≡ Some a → row_of new thread ≡ Some b → b ≡ a
same_row old new thread a b same was is =
    same_Some b a
    (sym (given_is (told_of new.rows) thread (get nat_cmp new.threads thread) b is)
    ∙ ap (λ (threads : BTreeMap ℕ ℕ). get nat_cmp threads thread) same
    ∙ given_is (told_of old.rows) thread (get nat_cmp old.threads thread) a was)

-- ---- what is kept

-- What was put into a list is there.
pub put_there : {A : Type 0} (xs : List A) (i : ℕ) (x : A) → i < length xs → slice_get (set xs i x) i ≡ Some x
put_there xs i x within =
    slice_get-get_or (set xs i x) i x (let same = length-set xs i x in omega (arith, same, within)) ∙ ap Some (get_or-set_same xs i x x within)

-- What stands elsewhere stays.
left_there : {A : Type 0} (xs : List A) (i k : ℕ) (x : A) → (k ≡ i → ⊥) → slice_get (set xs i x) k ≡ slice_get xs k
left_there [] i k x off = refl
left_there (y ∷ ys) zero zero x off = absurd (off refl)
left_there (y ∷ ys) zero (suc k) x off = refl
left_there (y ∷ ys) (suc i) zero x off = refl
left_there (y ∷ ys) (suc i) (suc k) x off = left_there ys i k x (λ same. off (ap suc same))

-- ---- the tables between its steps

-- The write began on the row, and was shown to so many of the sessions.
pub record IsShown (thread stamp : ℕ) (write : Write) (sessions : List ℕ) (row count : ℕ) (old now : Tables) : Type 0 where
  pub threads : now.threads ≡ old.threads
  pub follows : (events : List EventDef) (info : TraceInfo) (past : Past) (begun : List (Option Write)) → Works events info past old begun
      → IsLawful events (with_write thread stamp write sessions past)
      → Works events info (shown_to thread (take count sessions) (step.Begin thread stamp write ∷ past)) now (set begun (row - 1) (Some write))

-- What comes next can be made.
pub begin_next : {thread stamp : ℕ} {write : Write} {sessions : List ℕ} {tables : Tables} → (can : CanWriteIn thread stamp write sessions tables)
    → CanGoOn (step.Begin thread stamp write) tables can.begun
begin_next {thread = thread} {stamp = stamp} {write = write} {sessions = sessions} can =
    record {
      events = can.events;
      info = can.info;
      past = can.past;
      before = record { lawful = can_begin can.events thread stamp write sessions can.past can.lawful; works = can.works };
    }

pub show_next : {thread stamp : ℕ} {write : Write} {sessions : List ℕ} {row count : ℕ} {old now : Tables} → (can : CanWriteIn thread stamp write sessions old)
    → IsShown thread stamp write sessions row count old now → count < length sessions
    → CanGoOn (step.Show thread (get_or sessions count 0)) now (set can.begun (row - 1) (Some write))
show_next {thread = thread} {stamp = stamp} {write = write} {sessions = sessions} {count = count} can shown within =
    record {
      events = can.events;
      info = can.info;
      past = shown_to thread (take count sessions) (step.Begin thread stamp write ∷ can.past);
      before = record {
        lawful = can_show can.events thread stamp write sessions count can.past within can.lawful;
        works = shown.follows can.events can.info can.past can.begun can.works can.lawful;
      };
    }

-- It was shown to all of them.
pub all_shown : {thread stamp : ℕ} {write : Write} {sessions : List ℕ} {row count : ℕ} {old now : Tables} → IsShown thread stamp write sessions row count old now → length sessions ≤ count
    → (events : List EventDef) (info : TraceInfo) (past : Past) (begun : List (Option Write)) → Works events info past old begun → IsLawful events (with_write thread stamp write sessions past)
    → WorksBefore events info (step.End thread) (shown_to thread sessions (step.Begin thread stamp write ∷ past)) now (set begun (row - 1) (Some write))
all_shown {thread = thread} {stamp = stamp} {write = write} {sessions = sessions} {row = row} {count = count} {now = now} shown all events info past begun works lawful =
    let At : List ℕ → Type 0 = λ xs. Works events info (shown_to thread xs (step.Begin thread stamp write ∷ past)) now (set begun (row - 1) (Some write)) in
    record {
      lawful = can_end events thread stamp write sessions past lawful;
      works = subst At (take_all count sessions all) (shown.follows events info past begun works lawful);
    }

-- ---- a write that ended

-- Nothing is kept of a write that its thread is in no more.
pub forgotten : (events : List EventDef) (info : TraceInfo) (past : Past) (tables : Tables) (begun : List (Option Write)) (row : ℕ) (kept : Option Write)
    → IsRow THREADS row → ((told_of tables.rows).row row).in_write ≡ false → Works events info past tables (set begun (row - 1) kept) → Works events info past tables begun
forgotten events info past tables begun row kept at quiet h =
    record {
      lawful = h.lawful;
      follow = h.follow;
      tied = h.tied;
      stand = h.stand;
      rest = h.rest;
      begun_are = record {
        kept = λ r is_row writing.
            let was = h.begun_are.kept r is_row writing in
            let above = at.0 in
            let first = is_row.0 in
            let Quiet : ℕ → Type 0 = λ n. ((told_of tables.rows).row n).in_write ≡ false in
            (was.0, sym (left_there begun (row - 1) (r - 1) kept (λ same. let it : row ≡ r = omega (arith, same, above, first) in false≢true (sym (subst Quiet it quiet) ∙ writing))) ∙ was.1, was.2);
      };
      begun_count = sym (length-set begun (row - 1) kept) ∙ h.begun_count;
      ids = h.ids;
    }

-- ---- finished sessions

-- What is left of finished sessions stays after a step that ends none.
abbrev pub Leaves : List EventDef → TraceInfo → BTreeMap ℕ Ended → Type 0
Leaves events info ended =
    (made : Step) (past : Past) → ((session : ℕ) → is_finished session past ≡ false → is_finished session (made ∷ past) ≡ false)
    → IsLawful events (made ∷ past) → EndedFollow events info past ended → EndedFollow events info (made ∷ past) ended

shown_ended : (events : List EventDef) (info : TraceInfo) (thread : ℕ) (ended : BTreeMap ℕ Ended) → Leaves events info ended
    → (sessions : List ℕ) (past : Past) → IsLawful events (shown_to thread sessions past) → EndedFollow events info past ended → EndedFollow events info (shown_to thread sessions past) ended
shown_ended events info thread ended leaves [] past lawful h = h
shown_ended events info thread ended leaves (session ∷ others) past lawful h =
    shown_ended events info thread ended leaves others (step.Show thread session ∷ past) lawful
    (leaves (step.Show thread session) past (λ s goes_on. goes_on) (lawful_start events thread others (step.Show thread session ∷ past) lawful) h)

-- So it stays after a whole write.
pub whole_ended : (events : List EventDef) (info : TraceInfo) (ended : BTreeMap ℕ Ended) → Leaves events info ended
    → (thread stamp : ℕ) (write : Write) (sessions : List ℕ) (past : Past) → IsLawful events (with_write thread stamp write sessions past)
    → EndedFollow events info past ended → EndedFollow events info (with_write thread stamp write sessions past) ended
whole_ended events info ended leaves thread stamp write sessions past lawful h =
    let begun : Past = step.Begin thread stamp write ∷ past in
    let ends = can_end events thread stamp write sessions past lawful in
    let Follow : Past → Type 0 = λ p. EndedFollow events info p ended in
    subst Follow (sym (whole_is thread stamp write sessions past))
    (leaves (step.End thread) (shown_to thread sessions begun) (λ s goes_on. goes_on) ends
    (shown_ended events info thread ended leaves sessions begun ends.0
    (leaves (step.Begin thread stamp write) past (λ s goes_on. goes_on) (can_begin events thread stamp write sessions past lawful) h)))
