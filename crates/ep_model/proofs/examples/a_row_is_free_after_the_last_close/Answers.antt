use Rattle.std.proofs.Common.{refl}
use Rattle.ep_model.proofs.examples.a_row_is_free_after_the_last_close.Goals as goal

pub returns : goal.returns
returns c = record { freed = refl }
