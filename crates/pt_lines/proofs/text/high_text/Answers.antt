use Rattle.pt_lines.proofs.Pairs.{pairs-at}
use Rattle.pt_lines.proofs.text.high_text.Goals as goal

pub returns : goal.returns
returns c = rw c.from.ensures (pairs-at c.args.byte c.ranges.byte.fits).0
