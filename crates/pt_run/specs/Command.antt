-- What the command `run` comes to (this project's theorem).
use Rattle.std.specs.Prelude.{◌≡◌, ℕ, ◌+◌, ◌≤◌, Bool, true, false, List, length, map, Option, None, IfSome}
use Rattle.std.specs.List.{AllByRecursion}
use Rattle.ep_defs.specs.declared.limits.TheConstants.{SESSION_THREADS as MOST_MARKS}
use Rattle.ep_defs.specs.declared.session.Facts.{Facts}
use Rattle.pt_io.specs.declared.dock.Dock.{Ghosts as Dock}
use Rattle.pt_io.specs.declared.sink.Sink.{Ghosts as Sink}
use Rattle.pt_io.specs.Sides.{ReadSide, WriteSide}
use Rattle.pt_command.specs.declared.end.End.{End}
use Rattle.pt_command.specs.declared.end.End.TheVariants as ends
use Rattle.pt_command.specs.Says.{SaysLine}
use Rattle.pt_load.specs.declared.plan.Plan.{Plan}
use Rattle.pt_roles.specs.declared.live_end.LiveEnd.{LiveEnd}
use Rattle.pt_roles.specs.declared.live_end.LiveSession.{LiveSession}
use Rattle.pt_roles.specs.declared.options.LiveOptions.{LiveOptions}
use Rattle.pt_roles.specs.Ran.{IsRan}
use Rattle.pt_roles.specs.World.{world_of}
use Rattle.pt_run.specs.declared.words.Asked.{Asked}
use Rattle.pt_run.specs.Summary.{SessionTold, run_text}

-- How the run goes on that is asked for.
abbrev pub options_of : Asked → LiveOptions
options_of asked = record { wait = asked.wait; streamers = asked.streamers; lives = asked.lives }

-- What is told of a session that has ended.
abbrev pub told_of : {L : Type 0} → LiveSession L → SessionTold
told_of session = record { id = session.id; marks = session.marks; fate = session.fate }

-- Each connection became a session or ended without one.
abbrev pub connections_of : {L : Type 0} → LiveEnd L → ℕ
connections_of live = length live.sessions.items + length live.conns.items

-- The lines that tell what a run came to.
abbrev pub text_of : {L : Type 0} → Plan → LiveEnd L → List ℕ
text_of plan live = run_text plan (map told_of live.sessions.items) (connections_of live)

-- How a run ends whose lines are written.
abbrev pub end_of : Bool → End
end_of true = ends.LinkFault
end_of false = ends.Done

-- A run came to this, and its lines were written in one write, or in part, or there was no memory for them.
pub record RanTo {O D L : Type 0} (sink : Sink O) (dock : Dock D L) (takes : Sink L) (gave : L → ReadSide) (took : L → WriteSide) (asked : Asked) (facts : Facts)
    (old new : O) (dock_old dock_new : D) (end : End) (live : LiveEnd L) : Type 0 where
  pub ran : IsRan dock takes gave took (world_of asked.plan (options_of asked) facts (dock.greeting dock_old)) dock_old dock_new live
  pub told : SaysLine sink old new (text_of asked.plan live) (end_of live.dock_failed) end

-- The command ended so, with this left of the run.
pub record RunsTo {O D L : Type 0} (sink : Sink O) (dock : Dock D L) (takes : Sink L) (gave : L → ReadSide) (took : L → WriteSide) (asked : Asked) (facts : Facts)
    (old new : O) (dock_old dock_new : D) (live : Option (LiveEnd L)) (end : End) : Type 0 where
  pub ran : IfSome live (RanTo sink dock takes gave took asked facts old new dock_old dock_new end)
  -- without the memory to begin nobody was asked and nothing was written
  pub unrun : live ≡ None → (end ≡ ends.OutOfMemory) × (new ≡ old) × (dock_new ≡ dock_old)

-- ---- what is known of each run

-- The marks of each session are as few as the threads on which one can be opened.
abbrev pub AreFew : {L : Type 0} → LiveEnd L → Type 0
AreFew live = AllByRecursion (λ session. length session.marks ≤ MOST_MARKS) live.sessions.items
