-- What a journal keeps: each decision is borne out by the sessions, and each session by the decisions and the table.
use Rattle.std.specs.Prelude.{◌≡◌, ℕ, ◌+◌, ◌<◌, ◌≤◌, ◌%◌, Bool, true, false, ◌&&◌, ◌||◌, not, Option, Some, None, is_some, List, length, count_by, slice_get, nat_lt, nat_le, ◌==◌, if◌then◌else◌}
use Rattle.ep_table.specs.declared.limits.TheConstants.{SLOTS}
use Rattle.ep_table.specs.declared.table.Seat.{Seat}
use Rattle.ep_table.specs.Sessions.{held_count}
use Rattle.ep_journal.specs.declared.decision.Decision.{Decision}
use Rattle.ep_journal.specs.declared.decision.Decision.TheVariants as decision
use Rattle.ep_journal.specs.declared.session.Fate.{Fate}
use Rattle.ep_journal.specs.declared.session.Fate.TheVariants as fate
use Rattle.ep_journal.specs.declared.session.Stage.{Stage}
use Rattle.ep_journal.specs.declared.session.Stage.TheVariants as stage
use Rattle.ep_journal.specs.declared.session.Opened.{Opened}
use Rattle.ep_journal.specs.declared.session.Opened.TheVariants as opened
use Rattle.ep_journal.specs.declared.session.Entry.{Entry}
use Rattle.ep_journal.specs.declared.limits.TheConstants.{CONNECTIONS}
use Rattle.ep_journal.specs.Items.{item, passes, passes_or_none}
use Rattle.ep_journal.specs.Recorded.{Recorded, goes_on, is_serving, is_failed, can_stop}

-- The session goes on.
abbrev pub is_on : Entry → Bool
is_on e = goes_on e.stage

-- A start that fails makes no session.
abbrev pub is_session : Entry → Bool
is_session e = not (is_failed e.stage)

-- Its stream is being written.
abbrev pub is_serving_entry : Entry → Bool
is_serving_entry e = is_serving e.stage

-- The session goes on, in a slot that this role serves: the slots are dealt out by their remainders.
abbrev pub is_of : ℕ → ℕ → Entry → Bool
is_of roles role e = (e.slot % roles == role) && is_on e

-- Opened before any write.
abbrev pub was_early : Opened → Bool
was_early opened.No = false
was_early opened.Early = true
was_early opened.Late = false

-- Opened once writes could have been made.
abbrev pub was_late : Opened → Bool
was_late opened.No = false
was_late opened.Early = false
was_late opened.Late = true

-- A session that was opened on all rows before any write.
abbrev pub is_early : Entry → Bool
is_early e = was_early e.opened && is_session e

-- A session that was opened on all rows later.
abbrev pub is_late : Entry → Bool
is_late e = was_late e.opened && is_session e

-- ---- decisions

-- The session was asked for by this connection, or by an earlier one.
abbrev pub is_asked_by : ℕ → Entry → Bool
is_asked_by conn e = (e.conn == conn) && is_session e

-- It is a session of an earlier connection.
abbrev pub is_earlier : ℕ → Entry → Bool
is_earlier conn e = nat_lt e.conn conn && is_session e

-- The session was stopped by this connection.
abbrev pub is_number : ℕ → Option ℕ → Bool
is_number n None = false
is_number n (Some m) = m == n

-- This connection has stopped it.
abbrev pub is_stopped_by : ℕ → Entry → Bool
is_stopped_by conn e = is_number conn e.ticket

-- It could be stopped no more when fewer connections than this one had been decided.
abbrev pub is_below : ℕ → Option ℕ → Bool
is_below n None = false
is_below n (Some m) = nat_lt m n

-- At the decision on this connection the session was not there yet, or could be stopped no more.
abbrev pub was_not_live : ℕ → Entry → Bool
was_not_live conn e = nat_lt conn e.conn || is_below conn e.gone

-- The sessions bear the decision on this connection out: an accepted session was asked for by it, a full table had all
-- of its slots held by sessions of earlier connections, a ticket's session was stopped by it, and a refused stop names
-- no session that was live then.
abbrev pub is_borne : List Entry → ℕ → Decision → Bool
is_borne sessions conn decision.Nothing = true
is_borne sessions conn (decision.Accepted id) = passes (is_asked_by conn) (item sessions id)
is_borne sessions conn decision.Full = nat_le SLOTS (count_by (is_earlier conn) sessions)
is_borne sessions conn (decision.Ticket id) = passes (is_stopped_by conn) (item sessions id)
is_borne sessions conn (decision.Refused id) = passes_or_none (was_not_live conn) (item sessions id)

-- ---- sessions

-- The decision accepts a session with this id.
abbrev pub accepts : ℕ → Decision → Bool
accepts id decision.Nothing = false
accepts id (decision.Accepted other) = other == id
accepts id decision.Full = false
accepts id (decision.Ticket other) = false
accepts id (decision.Refused other) = false

-- The decision that was made last accepted the session of this id.
abbrev pub is_last : List Decision → ℕ → Bool
is_last decisions id = passes (accepts id) (item decisions (length decisions))

-- The decision stops the session with this id.
abbrev pub stops : ℕ → Decision → Bool
stops id decision.Nothing = false
stops id (decision.Accepted other) = false
stops id decision.Full = false
stops id (decision.Ticket other) = other == id
stops id (decision.Refused other) = false

-- A session is ended by its ticket, or by the program's end, once all writers have ended and where it has no ticket, or
-- by a fault.
abbrev pub is_fit : Bool → Option ℕ → Fate → Bool
is_fit ended ticket (fate.Requested conn) = is_number conn ticket
is_fit ended ticket fate.ProgramEnd = ended && not (is_some ticket)
is_fit ended ticket fate.LinkFault = true
is_fit ended ticket fate.TooLong = true
is_fit ended ticket fate.OutOfMemory = true

-- The stage fits what is known: whether all writers have ended, and who stopped the session.
abbrev pub is_fitting : Bool → Option ℕ → Stage → Bool
is_fitting ended ticket stage.Serving = true
is_fitting ended ticket (stage.Ending fate) = is_fit ended ticket fate
is_fitting ended ticket (stage.Over fate) = is_fit ended ticket fate
is_fitting ended ticket stage.Failed = not (is_some ticket)

-- The session goes on in this slot.
abbrev pub is_in : ℕ → Entry → Bool
is_in slot e = (e.slot == slot) && is_on e

-- What the slot of a session that goes on holds.
abbrev pub seat_of : ℕ → Entry → Option Seat
seat_of id e = if is_on e then Some (record { id = id; live = can_stop e }) else None

-- The session of this id is borne out by the decisions and the slots.
pub record IsSession (seats : List (Option Seat)) (decisions : List Decision) (ended : Bool) (id : ℕ) (e : Entry) : Type 0 where
  -- Its connection was decided, and accepted it, unless its start failed.
  pub first : 0 < e.conn
  pub last : e.conn ≤ length decisions
  pub asked : is_session e ≡ true → passes (accepts id) (item decisions e.conn) ≡ true
  -- A later connection has its ticket.
  pub later : (conn : ℕ) → e.ticket ≡ Some conn → e.conn < conn
  pub stopped : (conn : ℕ) → e.ticket ≡ Some conn → passes (stops id) (item decisions conn) ≡ true
  -- It ends as it may.
  pub fate : is_fitting ended e.ticket e.stage ≡ true
  -- It is known since when it could be stopped no more.
  pub gone : is_some e.gone ≡ not (can_stop e)
  pub past : (count : ℕ) → e.gone ≡ Some count → count ≤ length decisions
  -- It has its slot while it goes on.
  pub seat : is_on e ≡ true → slice_get seats e.slot ≡ Some (seat_of id e)

-- What every journal keeps.
pub record IsKept (r : Recorded) : Type 0 where
  pub places : length r.table.seats ≡ SLOTS
  pub next_id : r.table.next ≡ length r.sessions + 1
  pub few : length r.sessions ≤ length r.decisions
  pub room : length r.decisions ≤ CONNECTIONS
  pub borne : (place : ℕ) (d : Decision) → slice_get r.decisions place ≡ Some d → is_borne r.sessions (place + 1) d ≡ true
  -- The ids are in the order in which the connections asked.
  pub rising : (id later : ℕ) (e f : Entry) → item r.sessions id ≡ Some e → item r.sessions later ≡ Some f → id < later → e.conn < f.conn
  pub known : (id : ℕ) (e : Entry) → item r.sessions id ≡ Some e → IsSession r.table.seats r.decisions r.ended id e
  pub seated : (slot : ℕ) (seat : Seat) → slice_get r.table.seats slot ≡ Some (Some seat) → passes (is_in slot) (item r.sessions seat.id) ≡ true
  pub held : held_count r.table ≡ count_by is_on r.sessions
