use Rattle.std.proofs.Common.{refl}
use Rattle.pt_num.specs.Numbers.{fixed}
use Rattle.ipc_frame.proofs.frame.header.Goals as goal

pub returns : goal.returns
unfolding fixed
returns c = rw (c.write_u16.ensures, c.copy_from_slice.ensures.after) refl
