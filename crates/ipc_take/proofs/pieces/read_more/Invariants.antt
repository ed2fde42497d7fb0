use Rattle.std.proofs.Common.{◌≡◌}
use Rattle.ipc_take.proofs.Reading.{HasRead}
use Rattle.ipc_take.proofs.pieces.read_more.Given as goal

abbrev pub invariant-loop-lacking : goal.invariant-loop-lacking
invariant-loop-lacking g l = record {
  told : g.L.Source.tells_given l.link ≡ g.L.Source.tells_given l.fn.link;
  sound : g.L.Source.read_faults l.link ≡ g.L.Source.read_faults l.fn.link;
  side : g.L.Source.write_side l.link ≡ g.L.Source.write_side l.fn.link;
  read : HasRead g.L.Source.tells_given g.L.Source.given g.L.Source.left l.fn.link l.link l.fn.bytes.items l.bytes.items l.fn.count l.lacking;
}

abbrev pub decreases-loop-lacking : goal.decreases-loop-lacking
decreases-loop-lacking g l = l.lacking
