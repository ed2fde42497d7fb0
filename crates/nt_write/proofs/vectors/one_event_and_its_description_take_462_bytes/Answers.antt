use Rattle.std.proofs.Common.{refl}
use Rattle.pt_num.specs.Numbers.{fixed, short_groups}
use Rattle.nt_write.proofs.vectors.one_event_and_its_description_take_462_bytes.Goals as goal

pub returns-clause-bytes : goal.returns-clause-bytes
unfolding fixed short_groups
returns-clause-bytes c = refl
