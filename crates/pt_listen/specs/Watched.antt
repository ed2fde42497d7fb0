-- What a run comes to whose one session's events a callback hears (this project's theorem).
use Rattle.std.specs.Prelude.{◌≡◌, ℕ, ◌<◌, ◌⊎◌, Bool, false, List, [], ◌++◌, length}
use Rattle.std.specs.List.{AllByRecursion}
use Rattle.ep_defs.specs.declared.session.Config.{Config}
use Rattle.ep_defs.specs.declared.session.Marks.{Marks}
use Rattle.ep_listen.specs.Heard.{HeardEvent}
use Rattle.ep_listen.specs.Shares.{IsShareOf, heard_by}
use Rattle.pt_load.specs.declared.plan.Plan.{Plan}
use Rattle.pt_writers.specs.Whole.{AreWhole, IsSpent, admitted_of}
use Rattle.pt_writers.specs.Written.{rows_of}
use Rattle.pt_listen.specs.declared.watch.WatchEnd.{WatchEnd}

-- Of each thread what was heard is what the session gets of its writes, in order, less what is missing, which is what its marks count as
-- refused, unless the listener has failed.
pub record AreWatched (plan : Plan) (config : Config) (failed : Bool) (marks : List Marks) (heard : List HeardEvent) : Type 0 where
  pub shares : AllByRecursion (λ mark. IsShareOf (admitted_of plan config mark.thread) mark.refused failed (heard_by mark.thread heard)) marks
  pub taken : failed ≡ false → AllByRecursion (λ mark. length (heard_by mark.thread heard) ≡ mark.taken) marks
  -- and nothing of others
  pub alone : (thread : ℕ) → (thread ≡ 0) ⊎ (plan.threads < thread) → heard_by thread heard ≡ []

-- What a run has come to, whose callback stood for such lists before.
pub record WatchedFrom {K : Type 0} (has_heard : K → List HeardEvent → Type 0) (at_first : List HeardEvent → Type 0) (plan : Plan) (config : Config) (end : WatchEnd K) : Type 0 where
  -- each thread has made all its writes
  pub rows : end.rows.items ≡ rows_of plan
  pub whole : AreWhole plan config end.listened.marks
  -- the session's pool had the budget's chunks, all of them back, and was found dry once for each event that was refused
  pub spent : IsSpent config end.listened.marks end.seat
  -- the callback heard these events, one after another
  pub heard : List HeardEvent
  pub told : (before : List HeardEvent) → at_first before → has_heard end.listened.callback (before ++ heard)
  pub watched : AreWatched plan config end.listened.failed end.listened.marks heard

-- The same of a run whose callback was this one.
abbrev pub Watched : {K : Type 0} → (K → List HeardEvent → Type 0) → Plan → Config → K → WatchEnd K → Type 0
Watched has_heard plan config old end = WatchedFrom has_heard (has_heard old) plan config end
