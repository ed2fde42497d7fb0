use Rattle.std.proofs.Common.{refl}
use Rattle.pt_num.specs.Numbers.{short_groups}
use Rattle.nt_write.proofs.vectors.varuints_have_their_low_bits_first.Goals as goal

pub returns-clause-one_byte : goal.returns-clause-one_byte
unfolding short_groups
returns-clause-one_byte c = refl

pub returns-clause-two_bytes : goal.returns-clause-two_bytes
unfolding short_groups
returns-clause-two_bytes c = refl

pub returns-clause-a_long_payload : goal.returns-clause-a_long_payload
unfolding short_groups
returns-clause-a_long_payload c = refl

pub returns-clause-below_zero : goal.returns-clause-below_zero
unfolding short_groups
returns-clause-below_zero c = refl

pub returns-clause-greatest : goal.returns-clause-greatest
unfolding short_groups
returns-clause-greatest c = refl
