use Rattle.std.proofs.Common.{refl}
use Rattle.pt_num.specs.Numbers.{short_groups}
use Rattle.nt_write.proofs.vectors.a_new_activity_takes_16_bytes.Goals as goal

pub returns : goal.returns
unfolding short_groups
returns c = record { activity = refl; related = refl }
