use Rattle.std.proofs.Common.{refl}
use Rattle.pt_num.specs.Numbers.{short_groups}
use Rattle.nt_write.proofs.vectors.a_first_event_takes_seven_bytes.Goals as goal

pub returns : goal.returns
unfolding short_groups
returns c = record { bytes = refl }
