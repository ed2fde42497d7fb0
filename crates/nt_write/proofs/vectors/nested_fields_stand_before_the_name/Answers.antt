use Rattle.std.proofs.Common.{refl}
use Rattle.pt_num.specs.Numbers.{fixed}
use Rattle.nt_write.proofs.vectors.nested_fields_stand_before_the_name.Goals as goal

pub returns : goal.returns
unfolding fixed
returns c = record { bytes = refl }
