use Rattle.std.proofs.Common.{arith}
use Rattle.ep_defs.proofs.Fitting.{event-fits}
use Rattle.ep_defs.proofs.ranges.event_fits.Goals as goal

pub returns : goal.returns
returns c valid = event-fits c.args.def.now valid (omega arith) (omega arith) (omega arith) (omega arith)
