-- What a run's session is at its end. All of it is this project's own.
use Rattle.std.specs.Prelude.{◌≡◌, ◌≢◌, ℕ, ◌≤◌, List, map}
use Rattle.std.specs.List.{range_with_len, AllByRecursion}
use Rattle.ep_defs.specs.declared.session.Write.{Write}
use Rattle.ep_defs.specs.declared.event.EventDef.{EventDef}
use Rattle.ep_defs.specs.declared.session.Marks.{Marks}
use Rattle.pt_io.specs.declared.sink.Sink.{Ghosts as Sink}
use Rattle.pt_io.specs.Faults.{HasRisen}
use Rattle.ep_stream.specs.declared.session.Fate.{Fate}
use Rattle.ep_stream.specs.declared.session.Fate.TheVariants as fate
use Rattle.ep_live_laws.specs.Calls.{IsOutcome}
use Rattle.pt_load.specs.declared.plan.Plan.{Plan}
use Rattle.pt_stream.specs.Setting.{watch_of}
use Rattle.pt_writers.specs.Whole.{IsWhole}
use Rattle.pt_live.specs.state.Run.{RunState, setting_of}

-- Why it ended: nobody asked for it, it says a fault of its sink only where the sink's count of faults has risen above this
-- one, and else the count is this one.
pub record EndsWell {S : Type 0} (faults : S → ℕ) (was : ℕ) (end : Fate) (sink : S) : Type 0 where
  pub link_fault : end ≡ fate.LinkFault → HasRisen was (faults sink)
  pub wrote : end ≢ fate.LinkFault → faults sink ≡ was
  pub not_asked : (conn : ℕ) → end ≢ fate.Requested conn

-- A session of a run, which was open on so many rows up to the time at which each of their threads had made so many writes,
-- and was to end so, has ended.
pub record HasEndedAt {S : Type 0} (side : Sink S) (run : RunState) (plan : Plan) (events : List EventDef) (writes : ℕ → List Write) (opened to : ℕ) (handed : Fate) (marks : List Marks) (end : Fate) (sink : S) : Type 0 where
  pub threads : map (λ mark. mark.thread) marks ≡ range_with_len 1 opened
  pub whole : AllByRecursion (IsWhole to) marks
  pub outcome : IsOutcome side (watch_of plan.threads events writes (setting_of run) run.config 1) (range_with_len 1 opened) handed marks end sink
  pub well : EndsWell side.write_faults run.faults end sink

-- It was open on some of the rows, and ended before a thread made a write.
abbrev pub HasEndedUnwritten : {S : Type 0} → Sink S → RunState → Plan → ℕ → List EventDef → (ℕ → List Write) → S → Type 0
HasEndedUnwritten side run plan rows events writes sink =
    (opened : ℕ) × (marks : List Marks) × (end : Fate) × (opened ≤ rows) × HasEndedAt side run plan events writes opened 0 fate.OutOfMemory marks end sink
