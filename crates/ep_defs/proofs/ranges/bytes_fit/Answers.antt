use Rattle.std.proofs.lemmas.List.Elements.{All-from_get_or}
use Rattle.std.proofs.Common.{◌^◌, ◌<◌}
use Rattle.ep_defs.proofs.ranges.bytes_fit.Goals as goal

pub returns : goal.returns
returns c = All-from_get_or (λ n. n < 2 ^ 8) c.args.bytes.now 0 (λ i below. (c.type_inv.bytes i).fits)
