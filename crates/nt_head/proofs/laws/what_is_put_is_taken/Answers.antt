use Rattle.nt_head.proofs.Fronts.{head_back}
use Rattle.nt_head.proofs.laws.what_is_put_is_taken.Goals as goal

pub returns : goal.returns
returns c = λ before now bytes rest form. head_back before now bytes rest form
