-- How many events a session can take of a run.
use Rattle.std.proofs.Common.{ℕ, ◌*◌, ◌<◌, ◌≤◌, List, [], ◌∷◌, subst, arith}
use Rattle.std.specs.Prelude.{map}
use Rattle.std.specs.List.{sum_by, AllByRecursion}
use Rattle.std.proofs.lemmas.List.FromFn.{length-range_with_len}
use Rattle.std.proofs.lemmas.List.Sums.{sum_by-cons, sum_by-le}
use Rattle.ep_defs.specs.declared.session.Config.{Config}
use Rattle.ep_defs.specs.declared.session.Marks.{Marks}
use Rattle.ep_guarded.specs.Tied.{AreCounted}
use Rattle.nt_write.specs.declared.limits.TheConstants.{FRAMED_EVENTS}
use Rattle.pt_load.specs.Sample.{sample}
use Rattle.pt_load.specs.declared.plan.Plan.{Plan}
use Rattle.pt_writers.specs.Whole.{AreWhole, IsWhole}
use Rattle.pt_writers.specs.Written.{threads_of, writes_of}
use Rattle.pt_writers.proofs.Whole.{admitted-few, all-counted}
use Rattle.pt_live.specs.Trace.{IsLong, admitted_count, taken_of}

-- Of all threads.
all-taken-few : (plan : Plan) (config : Config) (marks : List Marks) → AllByRecursion (IsWhole plan.writes) marks → AllByRecursion (AreCounted sample (writes_of plan) config) marks
    → taken_of marks ≤ sum_by (admitted_count plan config) (map (λ m. m.thread) marks)
all-taken-few plan config [] whole counted = omega arith
all-taken-few plan config (mark ∷ marks) whole counted =
    let here = all-counted plan config mark whole.0 counted.0 in
    let rest = all-taken-few plan config marks whole.1 counted.1 in
    let one = sum_by-cons (λ (m : Marks). m.taken) mark marks in
    let other = sum_by-cons (admitted_count plan config) mark.thread (map (λ (m : Marks). m.thread) marks) in
    omega (arith, here, rest, one, other)

-- Where more events are taken than have ids for their stacks, so many are written.
pub is-long : (plan : Plan) (config : Config) (marks : List Marks) → AreWhole plan config marks → FRAMED_EVENTS < taken_of marks → IsLong plan config marks
is-long plan config marks whole many =
    record {
      taken = many;
      admitted = subst (λ (threads : List ℕ). taken_of marks ≤ sum_by (admitted_count plan config) threads) whole.threads (all-taken-few plan config marks whole.whole whole.counted);
      written = subst (λ (n : ℕ). sum_by (admitted_count plan config) (threads_of plan) ≤ n * plan.writes) (length-range_with_len 1 plan.threads)
          (sum_by-le (admitted_count plan config) plan.writes (threads_of plan) (λ k d small. admitted-few plan config _));
    }
