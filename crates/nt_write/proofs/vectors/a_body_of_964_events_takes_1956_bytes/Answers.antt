use Rattle.std.proofs.Common.{refl}
use Rattle.pt_num.specs.Numbers.{fixed, short_groups}
use Rattle.nt_write.proofs.vectors.a_body_of_964_events_takes_1956_bytes.Goals as goal

pub returns : goal.returns
unfolding fixed short_groups
returns c = record { count = refl }
