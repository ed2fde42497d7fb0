use Rattle.std.proofs.Common.{arith}
use Rattle.ep_defs.proofs.Fitting.{info-fits}
use Rattle.ep_defs.proofs.ranges.info_fits.Goals as goal

pub returns : goal.returns
returns c =
    info-fits c.args.info.now (omega arith) c.units_fit.ensures (omega arith) (omega arith) (omega arith) (omega arith) (omega arith) (omega arith)
