-- What a journal holds as a value: the table, what was decided on each connection and what became of each session, and
-- what each step makes of them (this project's profile; the slots and ids are those of ep_table).
use Rattle.std.specs.Prelude.{ℕ, ◌+◌, Bool, true, false, ◌&&◌, not, Option, Some, None, is_some, List, [], ◌∷◌, ◌++◌, length, ◌==◌, if◌then◌else◌}
use Rattle.ep_table.specs.Sessions.{Sessions, no_sessions, accepted_by, after_accept, stop_answer, after_stop, after_free}
use Rattle.ep_table.specs.declared.table.Accepted.{Accepted}
use Rattle.ep_table.specs.declared.table.Accepted.TheVariants as accepted
use Rattle.ep_table.specs.declared.table.StopAnswer.{StopAnswer}
use Rattle.ep_table.specs.declared.table.StopAnswer.TheVariants as answer
use Rattle.ep_journal.specs.declared.decision.Decision.{Decision}
use Rattle.ep_journal.specs.declared.decision.Decision.TheVariants as decision
use Rattle.ep_journal.specs.declared.session.Fate.{Fate}
use Rattle.ep_journal.specs.declared.session.Fate.TheVariants as fate
use Rattle.ep_journal.specs.declared.session.Stage.{Stage}
use Rattle.ep_journal.specs.declared.session.Stage.TheVariants as stage
use Rattle.ep_journal.specs.declared.session.Opened.{Opened}
use Rattle.ep_journal.specs.declared.session.Opened.TheVariants as opened
use Rattle.ep_journal.specs.declared.session.Entry.{Entry}
use Rattle.ep_journal.specs.Items.{item, with_item}

-- The table, the decisions by connection, the sessions by id, and whether all writers have ended.
pub record Recorded : Type 0 where
  pub table : Sessions
  pub decisions : List Decision
  pub sessions : List Entry
  pub ended : Bool

-- The journal before the first connection.
abbrev pub nothing_recorded : Recorded
nothing_recorded = record { table = no_sessions; decisions = []; sessions = []; ended = false }

-- ---- stages

-- The session has its slot.
abbrev pub goes_on : Stage → Bool
goes_on stage.Serving = true
goes_on (stage.Ending fate) = true
goes_on (stage.Over fate) = false
goes_on stage.Failed = false

-- Its stream is being written.
abbrev pub is_serving : Stage → Bool
is_serving stage.Serving = true
is_serving (stage.Ending fate) = false
is_serving (stage.Over fate) = false
is_serving stage.Failed = false

-- Its start failed.
abbrev pub is_failed : Stage → Bool
is_failed stage.Serving = false
is_failed (stage.Ending fate) = false
is_failed (stage.Over fate) = false
is_failed stage.Failed = true

-- A session can be stopped while it serves and nobody has stopped it.
abbrev pub can_stop : Entry → Bool
can_stop e = is_serving e.stage && not (is_some e.ticket)

-- The fate that a role has found is this one.
abbrev pub is_same : Fate → Fate → Bool
is_same (fate.Requested conn) (fate.Requested other) = conn == other
is_same (fate.Requested conn) fate.ProgramEnd = false
is_same (fate.Requested conn) fate.LinkFault = false
is_same (fate.Requested conn) fate.TooLong = false
is_same (fate.Requested conn) fate.OutOfMemory = false
is_same fate.ProgramEnd (fate.Requested other) = false
is_same fate.ProgramEnd fate.ProgramEnd = true
is_same fate.ProgramEnd fate.LinkFault = false
is_same fate.ProgramEnd fate.TooLong = false
is_same fate.ProgramEnd fate.OutOfMemory = false
is_same fate.LinkFault other = true
is_same fate.TooLong other = true
is_same fate.OutOfMemory other = true

-- It is ending so, and not over.
abbrev pub is_ending_as : Fate → Stage → Bool
is_ending_as fate stage.Serving = false
is_ending_as fate (stage.Ending found) = is_same fate found
is_ending_as fate (stage.Over found) = false
is_ending_as fate stage.Failed = false

-- A session ends as it was found to end, or by a fault at any time.
abbrev pub may_end : Fate → Stage → Bool
may_end (fate.Requested conn) s = is_ending_as (fate.Requested conn) s
may_end fate.ProgramEnd s = is_ending_as fate.ProgramEnd s
may_end fate.LinkFault s = goes_on s
may_end fate.TooLong s = goes_on s
may_end fate.OutOfMemory s = goes_on s

-- ---- what becomes of a session

-- It was asked for by this connection and has this slot.
abbrev pub begun : ℕ → ℕ → Entry
begun conn slot = record { conn = conn; slot = slot; ticket = None; stage = stage.Serving; opened = opened.No; gone = None }

-- How many decisions there were when it could be stopped no more.
abbrev pub gone_at : ℕ → Option ℕ → Option ℕ
gone_at count None = Some count
gone_at count (Some before) = Some before

-- The session once this connection has stopped it, after this many decisions.
abbrev pub stopped : ℕ → ℕ → Entry → Entry
stopped conn count e = record e { ticket = Some conn; gone = gone_at count e.gone }

-- The session at this stage, to which it came after this many decisions.
abbrev pub staged : Stage → ℕ → Entry → Entry
staged to count e = record e { stage = to; gone = gone_at count e.gone }

-- When a session was opened on all rows: before any write, or later.
abbrev pub opened_at : Bool → Opened
opened_at true = opened.Early
opened_at false = opened.Late

-- The session once it was opened on all rows.
abbrev pub with_rows : Bool → Entry → Entry
with_rows early e = record e { opened = opened_at early }

-- One session changes.
abbrev pub changed_at : (Entry → Entry) → List Entry → ℕ → Option Entry → List Entry
changed_at change sessions id None = sessions
changed_at change sessions id (Some e) = with_item sessions id (change e)

-- The sessions with one of them changed, where there is one of that id.
abbrev pub changed : List Entry → ℕ → (Entry → Entry) → List Entry
changed sessions id change = changed_at change sessions id (item sessions id)

-- ---- steps

-- The number of the next connection: connections are numbered from 1 in the order in which they are decided.
abbrev pub next_conn : Recorded → ℕ
next_conn r = length r.decisions + 1

-- One connection more was decided.
abbrev pub decided : Recorded → Decision → Recorded
decided r d = record r { decisions = r.decisions ++ d ∷ [] }

-- A session was asked for.
abbrev pub accepted_as : Recorded → Accepted → Recorded
accepted_as r (accepted.Seat slot id) =
    record {
      table = after_accept r.table;
      decisions = r.decisions ++ decision.Accepted id ∷ [];
      sessions = r.sessions ++ begun (next_conn r) slot ∷ [];
      ended = r.ended;
    }
accepted_as r accepted.Full = decided r decision.Full

-- The journal once a connection was accepted as a session, or refused.
abbrev pub after_accepting : Recorded → Recorded
after_accepting r = accepted_as r (accepted_by r.table)

-- A stop was asked for, by the connection after those that were decided.
abbrev pub stopped_as : Recorded → StopAnswer → Recorded
stopped_as r (answer.Ticket ticket) =
    record {
      table = after_stop r.table ticket.id;
      decisions = r.decisions ++ decision.Ticket ticket.id ∷ [];
      sessions = changed r.sessions ticket.id (stopped ticket.conn (length r.decisions));
      ended = r.ended;
    }
stopped_as r (answer.NotLive id) = decided r (decision.Refused id)

-- What a stop of this id is answered.
abbrev pub answer_to : Recorded → ℕ → StopAnswer
answer_to r id = stop_answer r.table id (next_conn r)

-- The journal once a stop of this id was answered.
abbrev pub after_stopping : Recorded → ℕ → Recorded
after_stopping r id = stopped_as r (answer_to r id)

-- The slot of a session.
abbrev pub slot_of : Option Entry → ℕ
slot_of None = 0
slot_of (Some e) = e.slot

-- The session goes to another stage, at which its slot is free.
abbrev pub freed : Recorded → ℕ → Stage → Recorded
freed r id to =
    record r {
      table = after_free r.table (slot_of (item r.sessions id));
      sessions = changed r.sessions id (staged to (length r.decisions));
    }

-- The start of the session that was accepted last failed: it is none, and nothing was decided on its connection.
abbrev pub after_failing : Recorded → ℕ → Recorded
after_failing r id =
    record (freed r id stage.Failed) { decisions = with_item r.decisions (length r.decisions) decision.Nothing }

-- The journal once the session is over, so, and its slot is free.
abbrev pub after_end : Recorded → ℕ → Fate → Recorded
after_end r id fate = freed r id (stage.Over fate)

-- The session was opened on all rows, before any write or later.
abbrev pub after_opening : Recorded → ℕ → Bool → Recorded
after_opening r id early = record r { sessions = changed r.sessions id (with_rows early) }

-- ---- a role looks at its session

-- It was stopped, or the program has ended, or it goes on.
abbrev pub fate_by : Bool → Option ℕ → Option Fate
fate_by ended (Some conn) = Some (fate.Requested conn)
fate_by ended None = if ended then Some fate.ProgramEnd else None

-- Who stopped the session, if anybody did.
abbrev pub ticket_of : Option Entry → Option ℕ
ticket_of None = None
ticket_of (Some e) = e.ticket

-- How the session is found to end, if it is.
abbrev pub found : Recorded → ℕ → Option Fate
found r id = fate_by r.ended (ticket_of (item r.sessions id))

-- The session ends so from now on.
abbrev pub ending : Recorded → ℕ → Fate → List Entry
ending r id fate = changed r.sessions id (staged (stage.Ending fate) (length r.decisions))

-- What is found is kept. A session that ends with the program can be stopped no more.
abbrev pub looked_at : Recorded → ℕ → Option ℕ → Recorded
looked_at r id (Some conn) = record r { sessions = ending r id (fate.Requested conn) }
looked_at r id None =
    if r.ended
    then record r { table = after_stop r.table id; sessions = ending r id fate.ProgramEnd }
    else r

-- The journal once a role has looked whether the session is to end.
abbrev pub after_looking : Recorded → ℕ → Recorded
after_looking r id = looked_at r id (ticket_of (item r.sessions id))
