-- What a session has of a thread on which it is open from its first write to its last.
use Rattle.std.proofs.Common.{◌≡◌, ◌∙◌, ℕ, ◌+◌, ◌≤◌, List, Some, length, ap, arith}
use Rattle.std.specs.Prelude.{take}
use Rattle.std.proofs.lemmas.List.{take_all}
use Rattle.std.proofs.lemmas.List.Sums.{count_by-le-length, length-filter}
use Rattle.ep_defs.specs.declared.session.Config.{Config}
use Rattle.ep_defs.specs.declared.session.Marks.{Marks}
use Rattle.ep_defs.specs.declared.session.Write.{Write}
use Rattle.ep_guarded.specs.Tied.{AreCounted}
use Rattle.ep_model.specs.History.{admits_write, admitted_from}
use Rattle.pt_load.specs.Sample.{sample}
use Rattle.pt_load.specs.declared.plan.Plan.{Plan}
use Rattle.pt_writers.specs.Whole.{IsWhole, admitted_of}
use Rattle.pt_writers.specs.Written.{writes_of}
use Rattle.pt_writers.proofs.Load.{count-writes}

-- The marks count all that the session gets.
pub all-counted : (plan : Plan) (config : Config) (mark : Marks) → IsWhole plan.writes mark → AreCounted sample (writes_of plan) config mark → mark.taken + mark.refused ≡ length (admitted_of plan config mark.thread)
all-counted plan config mark whole counted =
    let writes = writes_of plan mark.thread in
    let all : take mark.to writes ≡ writes = take_all mark.to writes (let long = count-writes plan mark.thread in omega (arith, long, whole.to_is)) in
    counted.counted
    ∙ ap (λ (f : ℕ). length (admitted_from sample (Some config) f (take mark.to writes))) whole.from
    ∙ ap (λ (ws : List Write). length (admitted_from sample (Some config) 0 ws)) all

-- It gets no more than the thread writes.
pub admitted-few : (plan : Plan) (config : Config) (thread : ℕ) → length (admitted_of plan config thread) ≤ plan.writes
admitted-few plan config thread =
    let writes = writes_of plan thread in
    let p = λ (write : Write). admits_write sample (Some config) write in
    let few = count_by-le-length p writes in
    let counted = length-filter p writes in
    let long = count-writes plan thread in
    omega (arith, few, counted, long)
