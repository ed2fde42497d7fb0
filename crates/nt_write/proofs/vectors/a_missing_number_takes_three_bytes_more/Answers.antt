use Rattle.std.proofs.Common.{refl}
use Rattle.pt_num.specs.Numbers.{short_groups}
use Rattle.nt_write.proofs.vectors.a_missing_number_takes_three_bytes_more.Goals as goal

pub returns : goal.returns
unfolding short_groups
returns c = record { bytes = refl }
