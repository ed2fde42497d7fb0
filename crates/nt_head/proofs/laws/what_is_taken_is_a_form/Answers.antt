use Rattle.nt_head.proofs.Fronts.{head_begins}
use Rattle.nt_head.proofs.laws.what_is_taken_is_a_form.Goals as goal

pub returns : goal.returns
returns c = λ before now bytes rest low e. head_begins before now bytes rest low e
