use Rattle.std.proofs.lemmas.List.Elements.{All-from_get_or}
use Rattle.std.proofs.Common.{◌^◌, ◌<◌}
use Rattle.ep_defs.proofs.ranges.frames_fit.Goals as goal

pub returns : goal.returns
returns c = All-from_get_or (λ n. n < 2 ^ 64) c.args.frames.now 0 (λ i below. (c.type_inv.frames i).fits)
