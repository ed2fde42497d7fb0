-- What whoever has a session knows of it, and that the registry knows the same.
use Rattle.std.specs.Prelude.{◌≡◌, ℕ, ◌-◌, ◌<◌, ◌≤◌, Bool, true, false, if◌then◌else◌, IsTrue, Option, Some, None, List, slice_get}
use Rattle.ep_tie.specs.Tied.{Tied}
use Rattle.ep_table.specs.declared.limits.TheConstants.{SLOTS}
use Rattle.ep_table.specs.declared.table.Accepted.{Accepted}
use Rattle.ep_table.specs.declared.table.Accepted.TheVariants as accepted
use Rattle.ep_table.specs.declared.table.StopAnswer.{StopAnswer}
use Rattle.ep_table.specs.declared.table.StopAnswer.TheVariants as answer
use Rattle.ep_journal.specs.declared.decision.Decision.{Decision}
use Rattle.ep_journal.specs.declared.decision.Decision.TheVariants as decision
use Rattle.ep_registry.specs.declared.hold.Hold.{Hold}
use Rattle.ep_journal.specs.declared.session.Opened.TheVariants as opened
use Rattle.ep_journal.specs.declared.session.Entry.{Entry}
use Rattle.ep_journal.specs.declared.session.Fate.{Fate}
use Rattle.ep_journal.specs.declared.session.Stage.{Stage}
use Rattle.ep_journal.specs.declared.session.Stage.TheVariants as stage
use Rattle.ep_journal.specs.declared.limits.TheConstants.{CONNECTIONS}
use Rattle.ep_journal.specs.Items.{item}
use Rattle.ep_journal.specs.Recorded.{Recorded, goes_on, next_conn}

-- Whoever has a session has the half that shows it, and the session goes on. The ties of sessions are taken from the last
-- place on.
pub record IsHolder (hold : Hold) (half : Tied (Option Hold)) : Type 0 where
  pub first : 0 < hold.id
  pub last : hold.id ≤ CONNECTIONS
  pub slot : hold.slot < SLOTS
  pub on : IsTrue (goes_on hold.stage)
  pub place : half.place ≡ CONNECTIONS - hold.id
  pub value : half.value ≡ Some (Some hold)

-- What whoever has a session knows of it.
abbrev pub hold_of : ℕ → Entry → Hold
hold_of id e = record { id = id; conn = e.conn; slot = e.slot; stage = e.stage; opened = e.opened }

-- The same where there is such a session.
abbrev pub held_as : ℕ → Option Entry → Option Hold
held_as id None = None
held_as id (Some e) = Some (hold_of id e)

-- What is known of the session of this id, if there is one.
abbrev pub hold_at : List Entry → ℕ → Option Hold
hold_at sessions id = held_as id (item sessions id)

-- The registry's halves show what its sessions are.
abbrev pub AreHeld : List (Option (Option Hold)) → List Entry → Type 0
AreHeld holds sessions = (id : ℕ) → 0 < id → id ≤ CONNECTIONS → slice_get holds (CONNECTIONS - id) ≡ Some (Some (hold_at sessions id))

-- A session that begins, or none where all slots are held.
abbrev pub begun_as : Recorded → Accepted → Option Hold
begun_as r (accepted.Seat slot id) =
    Some (record { id = id; conn = next_conn r; slot = slot; stage = stage.Serving; opened = opened.No })
begun_as r accepted.Full = None

-- The stage of a session at which a role has looked.
abbrev pub stage_found : Stage → Option Fate → Stage
stage_found s None = s
stage_found s (Some fate) = stage.Ending fate

-- A session that waits stands in the place of its slot.
abbrev pub AreInSlots : List (Option Hold) → Type 0
AreInSlots places = (place : ℕ) (hold : Hold) → slice_get places place ≡ Some (Some hold) → hold.slot ≡ place

-- No session waits.
abbrev pub NoneWaits : List (Option Hold) → Type 0
NoneWaits places = (place : ℕ) (hold : Hold) → slice_get places place ≡ Some (Some hold) → ⊥

-- The session that begins, without what comes with it.
abbrev pub holder_in : {F : Type 0} → Option (Hold × F) → Option Hold
holder_in None = None
holder_in (Some begun) = Some begun.0

-- What is decided where a session begins, or where all slots are held.
abbrev pub accept_decides : Option Hold → Decision
accept_decides None = decision.Full
accept_decides (Some hold) = decision.Accepted hold.id

-- What is decided on a stop.
abbrev pub stop_decides : StopAnswer → Decision
stop_decides (answer.Ticket ticket) = decision.Ticket ticket.id
stop_decides (answer.NotLive id) = decision.Refused id

-- ---- what is left of the sessions

-- The session has ended, and its start did not fail.
abbrev pub has_ended : Stage → Bool
has_ended stage.Serving = false
has_ended (stage.Ending fate) = false
has_ended (stage.Over fate) = true
has_ended stage.Failed = false

-- What was known of a session that has ended, by its id.
abbrev pub over_as : ℕ → Option Entry → Option Hold
over_as id None = None
over_as id (Some e) = if has_ended e.stage then Some (hold_of id e) else None

-- Something is left of each session that has ended, under its id, and of no other.
abbrev pub AreOver : List (Option Hold) → List Entry → Type 0
AreOver over sessions = (id : ℕ) → 0 < id → id ≤ CONNECTIONS → item over id ≡ Some (over_as id (item sessions id))
