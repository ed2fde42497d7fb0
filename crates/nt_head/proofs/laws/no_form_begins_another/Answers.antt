use Rattle.nt_head.proofs.Fronts.{same_heads}
use Rattle.nt_head.proofs.laws.no_form_begins_another.Goals as goal

pub returns : goal.returns
returns c = λ before now other xs ys more rest first second e. same_heads before now other xs ys more rest first second e
