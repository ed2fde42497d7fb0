use Rattle.std.proofs.Common.{refl}
use Rattle.pt_num.specs.Numbers.{fixed}
use Rattle.nt_write.proofs.vectors.the_start_takes_102_bytes.Goals as goal

pub returns-clause-bytes : goal.returns-clause-bytes
unfolding fixed
returns-clause-bytes c = refl
