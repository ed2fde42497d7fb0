use Rattle.std.proofs.Common.{◌≡◌, ◌∙◌, ◌<◌, ℕ, ap, sym, subst, arith}
use Rattle.pt_load.specs.declared.plan.Plan.{Plan}
use Rattle.pt_writers.specs.state.Writers.{StandsAt}
use Rattle.pt_writers.proofs.writers.Writer.write_all.Goals as goal

pub write-requires-clause-index : goal.write-requires-clause-index
write-requires-clause-index g c = omega (arith, c.loop-index-test.true, ap (λ (p : Plan). p.writes) c.args.around.now.plan_is)

pub returns : goal.returns
returns g c =
    let all : c.loop-index.index ≡ c.args.around.now.plan.now.writes = omega (arith, c.loop-index-test.false, c.loop-index.auto) in
    subst (λ (n : ℕ). StandsAt g.P.SampleRun.plan c.args.number n c.loop-index.self) (all ∙ ap (λ (p : Plan). p.writes) c.args.around.now.plan_is) c.loop-index.invariant
