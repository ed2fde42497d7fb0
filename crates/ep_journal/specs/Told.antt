-- What the lists of a journal say in the end, when every slot is free.
use Rattle.std.specs.Prelude.{◌≡◌, ℕ, ◌<◌, ◌≤◌, Bool, true, false, ◌&&◌, Some, None, List, count_by}
use Rattle.ep_table.specs.declared.limits.TheConstants.{SLOTS}
use Rattle.ep_journal.specs.declared.decision.Decision.{Decision}
use Rattle.ep_journal.specs.declared.decision.Decision.TheVariants as decision
use Rattle.ep_journal.specs.declared.session.Fate.{Fate}
use Rattle.ep_journal.specs.declared.session.Fate.TheVariants as fate
use Rattle.ep_journal.specs.declared.session.Stage.{Stage}
use Rattle.ep_journal.specs.declared.session.Stage.TheVariants as stage
use Rattle.ep_journal.specs.declared.session.Entry.{Entry}
use Rattle.ep_journal.specs.Items.{item, passes, passes_or_none}
use Rattle.ep_journal.specs.Recorded.{goes_on}
use Rattle.ep_journal.specs.Kept.{is_session, is_asked_by, is_earlier, is_stopped_by, was_not_live, is_number}

-- The session was ended by this connection, or by a fault of its own.
abbrev pub ends_after : ℕ → Fate → Bool
ends_after conn (fate.Requested other) = is_number conn (Some other)
ends_after conn fate.ProgramEnd = false
ends_after conn fate.LinkFault = true
ends_after conn fate.TooLong = true
ends_after conn fate.OutOfMemory = true

-- The session is over, ended by this connection or by a fault of its own.
abbrev pub is_over_after : ℕ → Stage → Bool
is_over_after conn stage.Serving = false
is_over_after conn (stage.Ending x) = false
is_over_after conn (stage.Over x) = ends_after conn x
is_over_after conn stage.Failed = false

-- The connections are the numbers of the decisions, and the ids those of the sessions, so each is told once.
pub record AreTold (decisions : List Decision) (sessions : List Entry) (ended : Bool) : Type 0 where
  -- An accepted session was asked for by its connection, and the other way round.
  pub accepted : (conn id : ℕ) → item decisions conn ≡ Some (decision.Accepted id) → passes (is_asked_by conn) (item sessions id) ≡ true
  pub asked : (id : ℕ) (e : Entry) → item sessions id ≡ Some e → is_session e ≡ true → item decisions e.conn ≡ Some (decision.Accepted id)
  -- The ids are in the order in which the connections asked.
  pub rising : (id later : ℕ) (e f : Entry) → item sessions id ≡ Some e → item sessions later ≡ Some f → id < later → e.conn < f.conn
  -- All slots were held only where this many sessions of earlier connections began.
  pub full : (conn : ℕ) → item decisions conn ≡ Some decision.Full → SLOTS ≤ count_by (is_earlier conn) sessions
  -- No ticket was passed over: its session was ended by it, or by a fault of its own.
  pub granted : (conn id : ℕ) → item decisions conn ≡ Some (decision.Ticket id) →
      passes (λ e. is_stopped_by conn e && is_over_after conn e.stage) (item sessions id) ≡ true
  -- A stop was refused only where its session came later, or could be stopped no more at that decision.
  pub refused : (conn id : ℕ) → item decisions conn ≡ Some (decision.Refused id) → passes_or_none (was_not_live conn) (item sessions id) ≡ true
  -- Who is said to have ended a session has its ticket.
  pub requested : (id conn : ℕ) (e : Entry) → item sessions id ≡ Some e → e.stage ≡ stage.Over (fate.Requested conn) →
      item decisions conn ≡ Some (decision.Ticket id)
  -- The program's end ends sessions without a ticket, once all writers have ended.
  pub program : (id : ℕ) (e : Entry) → item sessions id ≡ Some e → e.stage ≡ stage.Over fate.ProgramEnd → (e.ticket ≡ None) × (ended ≡ true)
  -- Each session has ended.
  pub over : (id : ℕ) (e : Entry) → item sessions id ≡ Some e → goes_on e.stage ≡ false
