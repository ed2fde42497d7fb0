-- All sessions stand where each of them does.
use Rattle.std.proofs.Common.{◌≡◌, ℕ, true, false, List, [], ◌∷◌, Some, refl, ap, sym, ◌∙◌, subst}
use Rattle.std.specs.Prelude.{◌==◌, remove}
use Rattle.std.specs.List.{AllByRecursion}
use Rattle.std.proofs.lemmas.Bool.{eqb-false, ne_eqb}
use Rattle.ep_defs.specs.declared.limits.TheConstants.{THREADS}
use Rattle.ep_defs.specs.Definitions.{definition_at}
use Rattle.ep_defs.specs.declared.event.EventDef.{EventDef}
use Rattle.ep_defs.specs.declared.session.TraceInfo.{TraceInfo}
use Rattle.pt_io.specs.Memory.{SinkState}
use Rattle.ep_model.specs.declared.step.Step.{Step}
use Rattle.ep_model.specs.Entries.{entries}
use Rattle.ep_model.specs.Fold.{budget_of}
use Rattle.ep_model.specs.History.{Past}
use Rattle.ep_slot.specs.Slot.{SlotState}
use Rattle.ep_stream.specs.Rows.{IsRow, IsSame}
use Rattle.ep_stream.specs.Session.{rest_of, writer_of}
use Rattle.ep_stream.specs.Steps.{ToldRows}
use Rattle.ep_stream.specs.Telling.{IsTelling}
use Rattle.ep_rows.specs.Rows.{told_of}
use Rattle.ep_tables.specs.declared.tables.Present.{Present}
use Rattle.ep_tables.specs.declared.tables.Tables.{Tables}
use Rattle.ep_tables.specs.Tables.{number_of, row_of}
use Rattle.ep_tables.proofs.Found.{All-at}
use Rattle.ep_core_laws.specs.Kept.{SlotFollows, PoolFollows}
use Rattle.ep_stream_laws.specs.Kept.{RestFollows}
use Rattle.ep_tables.specs.Made.{KeepsSessions, StandsAt, ChangesOne}
use Rattle.ep_tables.specs.Tied.{IsTied}
use Rattle.ep_tables.proofs.Items.{All-each, All-set, All-one, All-remove, Apart}
use Rattle.ep_core_laws.proofs.Follow.{own_row, session_at, numbers_distinct, seats_distinct, sessions_stay, sessions_are}
use Rattle.ep_core_laws.specs.Given.{PendingFollows}
use Rattle.ep_core_laws.proofs.Sets.{row_thread}
use Rattle.ep_core_laws.specs.Stands.{SessionStands, SessionsStand, is_for, KeepsSlot, StandBefore}
use Rattle.ep_core_laws.proofs.Through.{Through}

-- ---- what is known of each session before the step

abbrev pub Before : List EventDef → TraceInfo → Past → Tables → Present → Type 0
Before events info past old p = SessionStands events info past (told_of old.rows) p × IsTied old.rows p

all_both : (P Q : Present → Type 0) (ps : List Present) → AllByRecursion P ps → AllByRecursion Q ps → AllByRecursion (λ p. P p × Q p) ps
all_both P Q [] first second = tt
all_both P Q (p ∷ ps) first second = ((first.0, second.0), all_both P Q ps first.1 second.1)

pub all_before : (events : List EventDef) (info : TraceInfo) (s : Step) (past : Past) (old : Tables) → StandBefore events info s past old → AllByRecursion (Before events info past old) old.present.items
all_before events info s past old h = all_both (SessionStands events info past (told_of old.rows)) (IsTied old.rows) old.present.items h.stand h.tied.sessions

-- ---- the session that a step is for

-- What is said of a session is said by this number and slot.
pub record StandsAs (events : List EventDef) (info : TraceInfo) (past : Past) (told : ToldRows) (number slot : ℕ) (p : Present) : Type 0 where
  pub slots : (r : ℕ) → IsRow THREADS r → (b : SlotState) → told.slot r slot ≡ Some b → SlotFollows events past number b
  pub pool : PoolFollows past number (told.pool slot)
  pub rest : RestFollows past (rest_of p.session)
  pub telling : IsTelling (λ (s : SinkState). true) (λ (s : SinkState). s.taken) [] (definition_at events) info (entries events number past) (writer_of p.session)

named_so : (events : List EventDef) (info : TraceInfo) (past : Past) (told : ToldRows) (p : Present) → StandsAs events info past told p.number p.slot p → SessionStands events info past told p
named_so events info past told p h = record { slots = h.slots; pool = h.pool; rest = h.rest; telling = h.telling }

pub stands_now : (events : List EventDef) (info : TraceInfo) (past : Past) (told : ToldRows) (number slot : ℕ) (p : Present) → p.number ≡ number → p.slot ≡ slot
    → StandsAs events info past told number slot p → SessionStands events info past told p
stands_now events info past told number slot p same_number same_slot h =
    let N : ℕ → Type 0 = λ n. StandsAs events info past told n p.slot p in
    let S : ℕ → Type 0 = λ s. StandsAs events info past told number s p in
    named_so events info past told p (subst N (sym same_number) (subst S (sym same_slot) h))

stands_as : (events : List EventDef) (info : TraceInfo) (past : Past) (told : ToldRows) (number : ℕ) (p : Present) → p.number ≡ number → SessionStands events info past told p → StandsAs events info past told number p.slot p
stands_as events info past told number p same h =
    let N : ℕ → Type 0 = λ n. StandsAs events info past told n p.slot p in
    subst N same (record { slots = h.slots; pool = h.pool; rest = h.rest; telling = h.telling })

-- The session that stands at a place.
pub record Placed (events : List EventDef) (info : TraceInfo) (past : Past) (old : Tables) (session : ℕ) (was : Present) : Type 0 where
  pub number : was.number ≡ session
  pub id : (rest_of was.session).seat.id ≡ session
  pub tied : IsTied old.rows was
  pub stands : StandsAs events info past (told_of old.rows) session was.slot was

pub placed : (events : List EventDef) (info : TraceInfo) (s : Step) (past : Past) (old : Tables) (session place : ℕ) (was : Present) → StandBefore events info s past old → StandsAt session old place was → Placed events info past old session was
placed events info s past old session place was h stands =
    let found = session_at events past old session place was h.follow stands in
    let tied = All-at (IsTied old.rows) old.present.items place was h.tied.sessions stands.there in
    let was_stands = All-at (SessionStands events info past (told_of old.rows)) old.present.items place was h.stand stands.there in
    record {
      number = found.number;
      id = tied.id ∙ found.number;
      tied = tied;
      stands = stands_as events info past (told_of old.rows) session was found.number was_stands;
    }

-- ---- all of them

-- What a session has pending on a thread's row is what its budget counts of the thread.
pub pending_counted : (events : List EventDef) (info : TraceInfo) (s : Step) (past : Past) (session thread row place : ℕ) (present : Present) (tables : Tables) → StandBefore events info s past tables
    → IsRow THREADS row → row_of tables thread ≡ Some row → StandsAt session tables place present → PendingFollows past session thread (told_of tables.rows) row present.slot
pending_counted events info s past session thread row place present tables h is_row own stands buffer at =
    let here = placed events info s past tables session place present h stands in
    let served = own_row events past tables thread row h.follow own in
    let same : buffer.thread ≡ thread = row_thread tables.rows row present.slot buffer at ∙ served.thread_is in
    (here.stands.slots row is_row buffer at).pending_is ∙ ap (budget_of session past).pending same

-- The step is for no session, and all that is told of sessions stays.
pub all_stand : Through → (events : List EventDef) (info : TraceInfo) (s : Step) (past : Past) (old new : Tables) → StandBefore events info s past old → ((n : ℕ) → is_for n s ≡ false)
    → KeepsSessions old new → IsSame (told_of old.rows).slot (told_of new.rows).slot → ((slot : ℕ) → (told_of new.rows).pool slot ≡ (told_of old.rows).pool slot)
    → SessionsStand events info (s ∷ past) new
all_stand through events info s past old new h off keeps slots pools =
    let Now = SessionStands events info (s ∷ past) (told_of new.rows) in
    sessions_stay old new Now keeps
    (All-each (Before events info past old) Now old.present.items
    (λ p b. through s (told_of old.rows) (told_of new.rows) p (off p.number) b.1.id (record { slots = λ r. slots r p.slot; pool = pools p.slot }) events info past h.lawful b.0)
    (all_before events info s past old h))

-- A session apart from the one that the step is for stands.
pub other_stands : Through → (events : List EventDef) (info : TraceInfo) (s : Step) (past : Past) (old new : Tables) (session : ℕ) (was : Present) → StandBefore events info s past old
    → was.number ≡ session → ((n : ℕ) → (session == n) ≡ false → is_for n s ≡ false)
    → ((slot : ℕ) → (slot ≡ was.slot → ⊥) → KeepsSlot slot (told_of old.rows) (told_of new.rows))
    → (p : Present) → Apart number_of (λ (q : Present). q.slot) was p → Before events info past old p → SessionStands events info (s ∷ past) (told_of new.rows) p
other_stands through events info s past old new session was h number off keeps p apart b =
    let other : (session == p.number) ≡ false = ne_eqb session p.number (λ same. eqb-false p.number was.number apart.numbers (sym same ∙ sym number)) in
    through s (told_of old.rows) (told_of new.rows) p (off p.number other) b.1.id (keeps p.slot (eqb-false p.slot was.slot apart.slots)) events info past h.lawful b.0

-- One session changes and stands.
pub one_stands : Through → (events : List EventDef) (info : TraceInfo) (s : Step) (past : Past) (old new : Tables) (session : ℕ) (Changes : Present → Present → ToldRows → ToldRows → Type 0)
    → StandBefore events info s past old → (one : ChangesOne session Changes old new) → ((n : ℕ) → (session == n) ≡ false → is_for n s ≡ false)
    → ((slot : ℕ) → (slot ≡ one.was.slot → ⊥) → KeepsSlot slot (told_of old.rows) (told_of new.rows))
    → (Placed events info past old session one.was → StandsAs events info (s ∷ past) (told_of new.rows) session one.was.slot one.now)
    → SessionsStand events info (s ∷ past) new
one_stands through events info s past old new session Changes h one off keeps turns =
    let Now = SessionStands events info (s ∷ past) (told_of new.rows) in
    let here = placed events info s past old session one.place one.was h one.stands in
    sessions_are session Changes old new Now one
    (All-set number_of (λ (q : Present). q.slot) (Before events info past old) Now old.present.items one.place one.was one.now one.stands.there
    (numbers_distinct events past old h.follow) (seats_distinct events past old h.follow)
    (other_stands through events info s past old new session one.was h here.number off keeps)
    (λ b. stands_now events info (s ∷ past) (told_of new.rows) session one.was.slot one.now (one.number ∙ here.number) one.slot (turns here))
    (all_before events info s past old h))

-- The step is for one session, which stands, and all sessions stay.
pub one_stays : Through → (events : List EventDef) (info : TraceInfo) (s : Step) (past : Past) (old new : Tables) (session place : ℕ) (was : Present)
    → StandBefore events info s past old → StandsAt session old place was → KeepsSessions old new → ((n : ℕ) → (session == n) ≡ false → is_for n s ≡ false)
    → ((slot : ℕ) → (slot ≡ was.slot → ⊥) → KeepsSlot slot (told_of old.rows) (told_of new.rows))
    → (Placed events info past old session was → StandsAs events info (s ∷ past) (told_of new.rows) session was.slot was)
    → SessionsStand events info (s ∷ past) new
one_stays through events info s past old new session place was h stands stay off keeps turns =
    let Now = SessionStands events info (s ∷ past) (told_of new.rows) in
    let here = placed events info s past old session place was h stands in
    sessions_stay old new Now stay
    (All-one number_of (λ (q : Present). q.slot) (Before events info past old) Now old.present.items place was stands.there
    (numbers_distinct events past old h.follow) (seats_distinct events past old h.follow)
    (other_stands through events info s past old new session was h here.number off keeps)
    (λ b. stands_now events info (s ∷ past) (told_of new.rows) session was.slot was here.number refl (turns here))
    (all_before events info s past old h))

-- One session is taken out.
pub one_goes : Through → (events : List EventDef) (info : TraceInfo) (s : Step) (past : Past) (old new : Tables) (session place : ℕ) (was : Present)
    → StandBefore events info s past old → StandsAt session old place was → new.present.items ≡ remove old.present.items place → ((n : ℕ) → (session == n) ≡ false → is_for n s ≡ false)
    → ((slot : ℕ) → (slot ≡ was.slot → ⊥) → KeepsSlot slot (told_of old.rows) (told_of new.rows))
    → SessionsStand events info (s ∷ past) new
one_goes through events info s past old new session place was h stands left off keeps =
    let Now = SessionStands events info (s ∷ past) (told_of new.rows) in
    let here = placed events info s past old session place was h stands in
    subst (AllByRecursion Now) (sym left)
    (All-remove number_of (λ (q : Present). q.slot) (Before events info past old) Now old.present.items place was stands.there
    (numbers_distinct events past old h.follow) (seats_distinct events past old h.follow)
    (other_stands through events info s past old new session was h here.number off keeps)
    (all_before events info s past old h))
