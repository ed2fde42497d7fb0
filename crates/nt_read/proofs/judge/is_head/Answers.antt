use Rattle.std.proofs.Common.{refl}
use Rattle.nt_read.proofs.Unit.{head-bytes}
use Rattle.nt_read.proofs.judge.is_head.Goals as goal

pub returns : goal.returns
returns c = rw (c.eq.ensures, c.as_slice.ensures, head-bytes) refl
