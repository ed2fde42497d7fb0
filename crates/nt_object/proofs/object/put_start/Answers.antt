use Rattle.nt_object.proofs.Sizes.{start_size}
use Rattle.nt_object.proofs.object.put_start.Goals as goal

pub returns-then-is_err-clause-size : goal.returns-then-is_err-clause-size
returns-then-is_err-clause-size c = start_size c.args.info.now c.info_fits.ensures

pub returns-else-is_err-clause-size : goal.returns-else-is_err-clause-size
returns-else-is_err-clause-size c = start_size c.args.info.now c.info_fits.ensures
