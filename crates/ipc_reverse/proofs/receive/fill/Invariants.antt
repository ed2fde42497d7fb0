use Rattle.std.proofs.Common.{◌≡◌, ◌-◌, ◌≤◌, ◌++◌, length, take, IsTrue}
use Rattle.ipc_reverse.proofs.Filling.{HasRead}
use Rattle.ipc_reverse.proofs.receive.fill.Given as goal

abbrev pub invariant-loop-there : goal.invariant-loop-there
invariant-loop-there g l = record {
  told : g.S.Source.tells_given l.link ≡ g.S.Source.tells_given l.fn.link;
  whole : IsTrue (g.S.Source.tells_given l.fn.link) → g.S.Source.given l.link ++ g.S.Source.left l.link ≡ g.S.Source.given l.fn.link ++ g.S.Source.left l.fn.link;
  sound : g.S.Source.read_faults l.link ≡ g.S.Source.read_faults l.fn.link;
  side : g.S.Source.write_side l.link ≡ g.S.Source.write_side l.fn.link;
  few : l.there ≤ 34;
  size : length l.bytes ≡ 34;
  gave : IsTrue (g.S.Source.tells_given l.fn.link) → HasRead g.S.Source l.fn.link l.link (take l.there l.bytes);
}

abbrev pub decreases-loop-there : goal.decreases-loop-there
decreases-loop-there g l = 34 - l.there
