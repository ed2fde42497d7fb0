use Rattle.std.proofs.Common.{refl}
use Rattle.ep_model.proofs.examples.kinds_come_in_their_order.Goals as goal

pub returns : goal.returns
returns c = record { kinds = refl }
