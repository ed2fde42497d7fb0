-- What the threads of a run of the sample program write (this project's theorem).
use Rattle.std.specs.Prelude.{◌≡◌, ℕ, ◌<◌, ◌≤◌, List, map}
use Rattle.std.specs.List.{range_with_len}
use Rattle.ep_defs.specs.declared.event.EventDef.{EventDef}
use Rattle.ep_defs.specs.declared.limits.TheConstants.{THREADS, WRITES}
use Rattle.ep_defs.specs.declared.session.Write.{Write}
use Rattle.pt_load.specs.Sample.{nth, sample}
use Rattle.pt_load.specs.declared.plan.Plan.{Plan}

-- The threads of a run.
abbrev pub threads_of : Plan → List ℕ
threads_of plan = range_with_len 1 plan.threads

-- All that a thread, from 1, writes in a run.
abbrev pub writes_of : Plan → ℕ → List Write
writes_of plan thread = map (nth plan thread) (range_with_len 0 plan.writes)

-- Each thread with the number of its writes.
abbrev pub rows_of : Plan → List (ℕ × ℕ)
rows_of plan = map (λ thread. (thread, plan.writes)) (threads_of plan)

-- A plan of no thread.
abbrev pub no_plan : Plan
no_plan = record { seed = 0; threads = 0; writes = 0 }

-- The program is the sample program, as the plan says, in its bounds.
pub record IsRunOf (plan : Plan) (rows : ℕ) (events : List EventDef) (writes : ℕ → List Write) : Type 0 where
  pub rows_are : rows ≡ plan.threads
  pub events_are : events ≡ sample
  pub writes_are : (thread : ℕ) → writes thread ≡ writes_of plan thread
  pub some : 0 < plan.threads
  pub few : plan.threads ≤ THREADS
  pub few_writes : plan.writes ≤ WRITES
