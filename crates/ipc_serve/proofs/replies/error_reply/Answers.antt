use Rattle.std.proofs.Common.{refl}
use Rattle.pt_num.specs.Numbers.{fixed}
use Rattle.ipc_serve.proofs.replies.error_reply.Goals as goal

pub returns : goal.returns
unfolding fixed
returns c = rw (c.write_u32.ensures, c.copy_from_slice.ensures.after, c.header.ensures) refl
