-- What a run's server keeps between two connections. All of it is this project's own.
use Rattle.std.specs.Prelude.{◌≡◌, ℕ, ◌+◌, ◌≤◌, ◌⊎◌, Bool, true, false, not, List, [], length, Option, Some, None, IsTrue}
use Rattle.ep_journal.specs.declared.decision.Decision.{Decision}
use Rattle.ep_journal.specs.declared.limits.TheConstants.{CONNECTIONS}
use Rattle.ep_journal.specs.declared.session.Opened.TheVariants as opened
use Rattle.ep_journal.specs.declared.session.Stage.TheVariants as stage
use Rattle.ep_journal.specs.Recorded.{opened_at}
use Rattle.ep_registry.specs.declared.hold.Hold.{Hold}
use Rattle.ep_registry.specs.Registered.{ServerHalf, counted_if}
use Rattle.pt_io.specs.declared.dock.Dock.{Ghosts as Dock}
use Rattle.pt_io.specs.Faults.{HasRisen}
use Rattle.pt_io.specs.Sides.{ReadSide, WriteSide}
use Rattle.ep_defs.specs.declared.session.Facts.{Facts}
use Rattle.pt_server.specs.declared.desk.ConnEnd.{ConnEnd}
use Rattle.pt_server.specs.Told.{AreTold}
use Rattle.pt_host.specs.declared.exit.Exit.{Exit}
use Rattle.pt_host.specs.declared.exit.Exit.TheVariants as exit

-- What was given for the session that was accepted last is its own.
pub record IsBegun (decisions : List Decision) (id slot : ℕ) (hold : Hold) (free : ℕ) : Type 0 where
  pub id_is : hold.id ≡ id
  pub slot_is : hold.slot ≡ slot
  pub serves : hold.stage ≡ stage.Serving
  pub unopened : hold.opened ≡ opened.No
  pub conn_is : hold.conn ≡ length decisions
  pub free_is : free ≡ slot

-- The halves differ in what was decided alone.
pub record SameBut (old new : ServerHalf) : Type 0 where
  pub early : new.early ≡ old.early
  pub late : new.late ≡ old.late
  pub left : new.left ≡ old.left

-- The halves of all threads, none of which has begun a write, are there before the writers begin, and none later.
abbrev pub lent_if : Bool → Option ℕ
lent_if true = Some 0
lent_if false = None

-- The server goes on, and has opened no session later than before any write where it is early.
pub record GoesOn (early : Bool) (old new : ServerHalf) : Type 0 where
  pub left : new.left ≡ old.left
  pub more : old.early ≤ new.early
  pub late : early ≡ true → new.late ≡ old.late

-- ---- turns

-- How the server's turns came to their end, if they did.
abbrev pub IsExit : {D L : Type 0} → Dock D L → Option Exit → D → D → ServerHalf → Type 0
IsExit dock None old new now = dock.dock_faults new ≡ dock.dock_faults old
IsExit dock (Some exit.Enough) old new now = dock.dock_faults new ≡ dock.dock_faults old
IsExit dock (Some exit.Closed) old new now = (dock.dock_faults new ≡ dock.dock_faults old) × IsTrue (dock.is_closed new)
IsExit dock (Some exit.Failed) old new now = HasRisen (dock.dock_faults old) (dock.dock_faults new)
IsExit dock (Some exit.Full) old new now = (dock.dock_faults new ≡ dock.dock_faults old) × (length now.decisions ≡ CONNECTIONS)

-- Between two moments each connection that came in was decided, and the server's turns came to their end so, if they did.
pub record HasTurned {D L : Type 0} (dock : Dock D L) (early : Bool) (exit : Option Exit) (old new : D) (was now : ServerHalf) : Type 0 where
  pub greets : dock.greeting new ≡ dock.greeting old
  pub count : dock.arrivals new + length was.decisions ≡ dock.arrivals old + length now.decisions
  pub goes : GoesOn early was now
  pub exits : IsExit dock exit old new now

-- Nobody comes in any more.
abbrev pub is_last : Exit → Bool
is_last exit.Enough = false
is_last exit.Closed = true
is_last exit.Failed = true
is_last exit.Full = true

-- A server that has decided on no connection.
abbrev pub no_server : ServerHalf
no_server = record { decisions = []; early = 0; late = 0; left = false }

-- The server's later turns follow on the first ones, unless nobody comes in any more.
abbrev pub GoesOnFrom : {D L : Type 0} → Dock D L → Exit → Exit → D → D → ServerHalf → ServerHalf → Type 0
GoesOnFrom dock exit.Enough last old new was now = HasTurned dock false (Some last) old new was now
GoesOnFrom dock exit.Closed last old new was now = (last ≡ exit.Closed) × (new ≡ old) × (now ≡ was)
GoesOnFrom dock exit.Failed last old new was now = (last ≡ exit.Failed) × (new ≡ old) × (now ≡ was)
GoesOnFrom dock exit.Full last old new was now = (last ≡ exit.Full) × (new ≡ old) × (now ≡ was)

-- What the server has come to: its last turns ended so, and either so many sessions were opened on all rows before any
-- write, or nobody came in any more when the writers began, and no session was opened later.
pub record HasServed {D L : Type 0} (dock : Dock D L) (gave : L → ReadSide) (took : L → WriteSide) (facts : Facts) (greeting : List ℕ) (wait : ℕ) (exit : Exit) (conns : List (ConnEnd L)) (old new : D) (half : ServerHalf) : Type 0 where
  pub count : dock.arrivals new ≡ dock.arrivals old + length half.decisions
  pub exits : IsExit dock (Some exit) old new half
  pub told : AreTold gave took facts greeting 1 half.decisions conns
  pub waited : (wait ≤ half.early) ⊎ ((is_last exit ≡ true) × (half.late ≡ 0))

-- ---- an opening

-- Who has a session that serves and was opened on no row.
abbrev pub CanOpen : Hold → Type 0
CanOpen hold = (hold.stage ≡ stage.Serving) × (hold.opened ≡ opened.No)

-- The session was opened on all rows, and is counted.
pub record HasOpened (early : Bool) (old new : ServerHalf) (was now : Hold) : Type 0 where
  pub opened : now ≡ record was { opened = opened_at early }
  pub counted : new ≡ record old { early = old.early + counted_if early; late = old.late + counted_if (not early) }
