-- Which steps can be made (this project's profile, where no other source is named).
use Rattle.std.specs.Prelude.{◌≡◌, ℕ, ◌+◌, Bool, ◌&&◌, not, List, [], ◌∷◌, length, Option, Some, None, is_none, nat_lt, nat_le, ◌==◌, if◌then◌else◌}
use Rattle.std.specs.List.{list_any}
use Rattle.ep_defs.specs.declared.limits.TheConstants.{SCHEDULE_WRITES, SESSION_THREADS, SESSIONS, THREADS}
use Rattle.ep_defs.specs.Definitions.{definition_at}
use Rattle.ep_defs.specs.declared.event.EventDef.{EventDef}
use Rattle.ep_defs.specs.Session.{is_valid_config, fits}
use Rattle.ep_model.specs.declared.step.Step.{Step}
use Rattle.ep_model.specs.declared.step.Step.TheVariants as step
use Rattle.ep_model.specs.declared.step.Kind.{Kind}
use Rattle.ep_model.specs.declared.step.Kind.TheVariants.{SessionNumber, BadConfig, Full, NoSession, NoThread, ThreadsFull, AlreadyOpen, ThreadLimit, InWrite, NotInWrite, NoEvent, TooLarge, TooMany, NotDue, ShowsDue, NotOpen, HandFull, StillOpen}
use Rattle.ep_model.specs.declared.step.Unlawful.{Unlawful}
use Rattle.ep_model.specs.Chunks.{is_hand_full}
use Rattle.ep_model.specs.History.{Past, accepted, is_present, present, entered, was_there, is_there, rows, opened, is_open, in_write, is_due}

-- Sessions have rising numbers above 0.
abbrev pub is_next_session : ℕ → Past → Bool
is_next_session session past = nat_lt 0 session && not (list_any (λ s. nat_le session s) (accepted past))

-- Threads that come have rising numbers above 256.
abbrev pub is_next_thread : ℕ → Past → Bool
is_next_thread thread past = nat_lt THREADS thread && not (list_any (λ t. nat_le thread t) (entered past))

-- The session was opened on the thread, whether it was closed since or not.
abbrev pub was_opened : ℕ → ℕ → Past → Bool
was_opened session thread past = list_any (λ t. t == thread) (opened session past)

-- How many writes were begun.
abbrev pub begins : Past → ℕ
begins [] = 0
begins (step.Begin t stamp write ∷ past) = begins past + 1
begins (_ ∷ past) = begins past

-- Some session is still due in the thread's write.
abbrev pub has_due : List EventDef → ℕ → Past → Bool
has_due definitions thread past = list_any (λ s. is_due definitions s thread past) (present past)

-- It is open on some thread.
abbrev pub is_open_somewhere : ℕ → Past → Bool
is_open_somewhere session past = list_any (λ t. is_open session t past) (opened session past)

-- A reason against a step, and whether it is there.
pub record Objection : Type 0 where
  pub there : Bool
  pub kind : Kind

-- The reason stands against the step where the test says so.
abbrev pub against : Bool → Kind → Objection
against there kind = record { there = there; kind = kind }

-- The first objection that is there decides.
abbrev pub first_kind : List Objection → Option Kind
first_kind [] = None
first_kind (objection ∷ others) = if objection.there then Some objection.kind else first_kind others

-- What can stand against a step after a past, in the order in which it is judged.
abbrev pub objections : List EventDef → Past → Step → List Objection
objections definitions past (step.Accept s config) =
    against (not (is_next_session s past)) SessionNumber
    ∷ against (not (is_valid_config config)) BadConfig
    ∷ against (nat_le SESSIONS (length (present past))) Full
    ∷ []
objections definitions past (step.Enter t) =
    against (not (is_next_thread t past)) NoThread
    ∷ against (nat_le THREADS (length (rows past))) ThreadsFull
    ∷ []
objections definitions past (step.Leave t) =
    against (not (is_there t past)) NoThread
    ∷ against (in_write t past) InWrite
    ∷ []
objections definitions past (step.Open s t) =
    against (not (is_present s past)) NoSession
    ∷ against (not (is_there t past)) NoThread
    ∷ against (was_opened s t past) AlreadyOpen
    ∷ against (nat_le SESSION_THREADS (length (opened s past))) ThreadLimit
    ∷ against (in_write t past) InWrite
    ∷ []
objections definitions past (step.Begin t stamp write) =
    against (not (is_there t past)) NoThread
    ∷ against (in_write t past) InWrite
    ∷ against (is_none (definition_at definitions write.event)) NoEvent
    ∷ against (not (fits write)) TooLarge
    ∷ against (nat_le SCHEDULE_WRITES (begins past)) TooMany
    ∷ []
objections definitions past (step.Show t s) =
    against (not (is_there t past)) NoThread
    ∷ against (not (is_present s past)) NoSession
    ∷ against (not (in_write t past)) NotInWrite
    ∷ against (not (is_due definitions s t past)) NotDue
    ∷ []
objections definitions past (step.End t) =
    against (not (is_there t past)) NoThread
    ∷ against (not (in_write t past)) NotInWrite
    ∷ against (has_due definitions t past) ShowsDue
    ∷ []
objections definitions past (step.Steal s t) =
    against (not (is_present s past)) NoSession
    ∷ against (not (was_there t past)) NoThread
    ∷ against (not (is_open s t past)) NotOpen
    ∷ against (is_hand_full s past) HandFull
    ∷ []
objections definitions past (step.Give s) = against (not (is_present s past)) NoSession ∷ []
objections definitions past (step.Point s stamp) = against (not (is_present s past)) NoSession ∷ []
objections definitions past (step.Close s t) =
    against (not (is_present s past)) NoSession
    ∷ against (not (was_there t past)) NoThread
    ∷ against (not (is_open s t past)) NotOpen
    ∷ against (in_write t past) InWrite
    ∷ against (is_hand_full s past) HandFull
    ∷ []
objections definitions past (step.Finish s stamp) =
    against (not (is_present s past)) NoSession
    ∷ against (is_open_somewhere s past) StillOpen
    ∷ against (is_hand_full s past) HandFull
    ∷ []

-- Why the step can't be made after the past, if it can't.
abbrev pub objection_to : List EventDef → Past → Step → Option Kind
objection_to definitions past step = first_kind (objections definitions past step)

-- Each step of the past could be made when it was.
abbrev pub IsLawful : List EventDef → Past → Type 0
IsLawful definitions [] = Unit {0}
IsLawful definitions (step ∷ past) = IsLawful definitions past × (objection_to definitions past step ≡ None)

-- The step with this number if it has a kind, else a later one.
abbrev pub unlawful : ℕ → Option Kind → Option Unlawful → Option Unlawful
unlawful number None later = later
unlawful number (Some kind) later = Some (record { step = number; kind = kind })

-- The first of the steps that can't be made after the past and the steps before it, the first of them having this
-- number.
abbrev pub first_unlawful : List EventDef → ℕ → Past → List Step → Option Unlawful
first_unlawful definitions number past [] = None
first_unlawful definitions number past (step ∷ steps) =
    unlawful number (objection_to definitions past step) (first_unlawful definitions (number + 1) (step ∷ past) steps)
