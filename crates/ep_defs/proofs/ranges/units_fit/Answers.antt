use Rattle.std.proofs.lemmas.List.Elements.{All-from_get_or}
use Rattle.std.proofs.Common.{◌^◌, ◌<◌}
use Rattle.ep_defs.proofs.ranges.units_fit.Goals as goal

pub returns : goal.returns
returns c = All-from_get_or (λ n. n < 2 ^ 16) c.args.units.now 0 (λ i below. (c.type_inv.units i).fits)
