use Rattle.std.proofs.Common.{◌≡◌, arith}
use Rattle.std.proofs.lemmas.Grind.{common_steps}
use Rattle.pt_live.proofs.trace.run_trace.Goals as goal

pub returns : goal.returns
returns g c =
    let last : c.run_named-lent.result.output.now ≡ c.output-1.given.0 = grind (arith, common_steps) in
    rw c.in_ok-grant.ensures.asked at (rw c.new-lent.ensures.now at (rw last at c.run_named-lent.ensures.traces))
