use Rattle.std.proofs.Common.{arith}
use Rattle.pt_load.proofs.Writes.{shapes_made}
use Rattle.pt_load.proofs.draft.Draft.new.Goals as goal

pub invariant_of-result : goal.invariant_of-result
invariant_of-result c = shapes_made c.args.plan.now c.args.thread c.loop-index.shapes.items (omega arith) c.loop-index.invariant.1
