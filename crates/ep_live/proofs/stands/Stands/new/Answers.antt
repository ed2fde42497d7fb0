use Rattle.std.proofs.Common.{◌∙◌, sym}
use Rattle.ep_live.proofs.Standing.{all-here}
use Rattle.ep_live.proofs.stands.Stands.new.Goals as goal

pub invariant_of-result : goal.invariant_of-result
invariant_of-result g c = all-here _ c.args.index _ (sym c.args.halves.ok.0 ∙ c.requires.count) c.requires.halves
