use Rattle.std.proofs.Common.{refl}
use Rattle.nt_read.proofs.judge.info_in.Goals as goal

pub returns : goal.returns
returns c =
    rw (c.date_in.ensures, c.long_at.ensures, c.long_at-2.ensures, c.number_at.ensures, c.number_at-2.ensures, c.number_at-3.ensures, c.number_at-4.ensures) refl
