-- What a session has of the threads of a run that is open on each from its first write to its last (this project's theorem).
use Rattle.std.specs.Prelude.{◌≡◌, ℕ, List, Some, map}
use Rattle.std.specs.List.{sum_by, AllByRecursion}
use Rattle.ep_defs.specs.declared.session.Config.{Config}
use Rattle.ep_defs.specs.declared.session.Marks.{Marks}
use Rattle.ep_defs.specs.declared.session.Write.{Write}
use Rattle.ep_guarded.specs.Tied.{AreCounted}
use Rattle.ep_model.specs.History.{admitted_from}
use Rattle.ep_pool.specs.Shared.{SeatState}
use Rattle.pt_load.specs.Sample.{sample}
use Rattle.pt_load.specs.declared.plan.Plan.{Plan}
use Rattle.pt_writers.specs.Written.{threads_of, writes_of}

-- What a session gets of a thread's writes that is open on it from its first write on.
abbrev pub admitted_of : Plan → Config → ℕ → List Write
admitted_of plan config thread = admitted_from sample (Some config) 0 (writes_of plan thread)

-- The marks are those of a thread from its first write up to this one.
pub record IsWhole (writes : ℕ) (mark : Marks) : Type 0 where
  pub from : mark.from ≡ 0
  pub to_is : mark.to ≡ writes

-- The session was open on each thread of the run from its first write to its last, and what it took of the thread and what
-- was refused is all that it gets of it.
pub record AreWhole (plan : Plan) (config : Config) (marks : List Marks) : Type 0 where
  pub threads : map (λ mark. mark.thread) marks ≡ threads_of plan
  pub whole : AllByRecursion (IsWhole plan.writes) marks
  pub counted : AllByRecursion (AreCounted sample (writes_of plan) config) marks

-- How many events were refused of all threads.
abbrev pub refused_of : List Marks → ℕ
refused_of marks = sum_by (λ mark. mark.refused) marks

-- A seat that has all shares of a pool, to which each chunk has come back. The pool had the chunks of the session's budget, and
-- was found dry once for each event that was refused.
pub record IsSpent (config : Config) (marks : List Marks) (seat : SeatState) : Type 0 where
  pub alone : seat.share ≡ seat.seats
  pub back : seat.taken ≡ seat.given
  pub chunks : seat.total ≡ config.chunks
  pub dry : seat.dry ≡ refused_of marks
