use Rattle.pt_writers.specs.state.Writers.{StandsAt}
use Rattle.pt_writers.proofs.writers.Writer.write_all.Given as goal

abbrev pub invariant-loop-index : goal.invariant-loop-index
invariant-loop-index g l = StandsAt g.P.SampleRun.plan l.number l.index l.self
