-- What was read so far and what is left are the whole input, no read failed, and this is read.
use Rattle.std.proofs.Common.{◌≡◌, ℕ, ◌+◌, ◌<◌, ◌^◌, ◌++◌, List, IsTrue, length}
use Rattle.pt_command.specs.declared.limits.TheConstants.{PIECE_BYTES}
use Rattle.pt_command.proofs.read.read_all.Given as goal

abbrev pub invariant-loop-count : goal.invariant-loop-count
invariant-loop-count g l =
    let source = g.I.Source in
    record {
      told : source.tells_given l.input ≡ source.tells_given l.fn.input;
      faults : source.read_faults l.input ≡ source.read_faults l.fn.input;
      bytes : List ℕ;
      read : g.T.Reads.has_read bytes l.reader;
      given : IsTrue (source.tells_given l.fn.input) → source.given l.input ≡ source.given l.fn.input ++ bytes;
      left : IsTrue (source.tells_given l.fn.input) → source.left l.fn.input ≡ bytes ++ source.left l.input;
      counted : source.may_give l.input + length bytes ≡ source.may_give l.fn.input;
      few : source.may_give l.input < 2 ^ 63 → g.T.Reads.used l.reader + source.may_give l.input < 2 ^ 63;
      room : length l.buffer ≡ PIECE_BYTES;
    }

abbrev pub decreases-loop-count : goal.decreases-loop-count
decreases-loop-count g l = g.I.Source.may_give l.input
