use Rattle.std.proofs.Common.{refl, arith}
use Rattle.ep_listen.proofs.laws.nothing_is_heard_at_first.Goals as goal

pub returns : goal.returns
returns c admitted thread = record { rising = omega arith; in_place = tt; few = omega arith; all = λ sound. refl }
