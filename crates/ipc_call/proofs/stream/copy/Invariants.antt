use Rattle.std.proofs.Common.{◌≡◌, ◌++◌, IsTrue}
use Rattle.ipc_call.proofs.Reading.{HasCopied}
use Rattle.ipc_call.proofs.stream.copy.Given as goal

abbrev pub invariant-loop-read : goal.invariant-loop-read
invariant-loop-read g l = record {
  told : g.L.Source.tells_given l.link ≡ g.L.Source.tells_given l.fn.link;
  whole : IsTrue (g.L.Source.tells_given l.fn.link) → g.L.Source.given l.link ++ g.L.Source.left l.link ≡ g.L.Source.given l.fn.link ++ g.L.Source.left l.fn.link;
  sound : g.L.Source.read_faults l.link ≡ g.L.Source.read_faults l.fn.link;
  side : g.L.Source.write_side l.link ≡ g.L.Source.write_side l.fn.link;
  heard : g.O.Sink.tells_taken l.output ≡ g.O.Sink.tells_taken l.fn.output;
  written : g.O.Sink.write_faults l.output ≡ g.O.Sink.write_faults l.fn.output;
  copied : HasCopied g.L.Source.tells_given g.L.Source.given g.L.Source.left l.fn.link l.link g.O.Sink.tells_taken g.O.Sink.taken l.fn.output l.output;
}

abbrev pub decreases-loop-read : goal.decreases-loop-read
decreases-loop-read g l = g.L.Source.may_give l.link
