use Rattle.std.proofs.Common.{◌∙◌, sym}
use Rattle.ep_live.proofs.Standing.{all-here}
use Rattle.ep_live.proofs.stands.Stands.take_back.Goals as goal

pub invariant_of-self : goal.invariant_of-self
invariant_of-self g c = all-here _ c.args.index _ (sym c.args.halves.ok.0 ∙ c.requires.count) c.requires.halves
