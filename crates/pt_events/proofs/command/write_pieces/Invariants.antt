-- What was read so far was listed, and its lines were written.
use Rattle.std.proofs.Common.{◌≡◌, ℕ, ◌+◌, ◌<◌, ◌^◌, eqb, List, [], length}
use Rattle.pt_command.specs.declared.limits.TheConstants.{PIECE_BYTES}
use Rattle.pt_command.specs.Says.{TookText}
use Rattle.pt_lines.specs.Around.{opened}
use Rattle.pt_events.specs.Command.{Gave}
use Rattle.pt_events.specs.state.Read.{HasRead, used}
use Rattle.pt_events.proofs.command.write_pieces.Given as goal

abbrev pub invariant-loop-count : goal.invariant-loop-count
invariant-loop-count g l =
    let source = g.I.Source in
    let sink = g.O.Sink in
    record {
      bytes : List ℕ;
      lines : List ℕ;
      read : HasRead l.fn.form bytes lines l.reading;
      first : l.is_first ≡ eqb (length lines) 0;
      none : l.lines.items ≡ [];
      told : source.tells_given l.input ≡ source.tells_given l.fn.input;
      faults : source.read_faults l.input ≡ source.read_faults l.fn.input;
      gave : Gave source l.fn.input l.input bytes;
      tells : sink.tells_taken l.output ≡ sink.tells_taken l.fn.output;
      took : TookText sink l.fn.output l.output (opened l.fn.form lines);
      few : source.may_give l.input < 2 ^ 63 → used l.reading + source.may_give l.input < 2 ^ 63;
      room : length l.buffer ≡ PIECE_BYTES;
    }

abbrev pub decreases-loop-count : goal.decreases-loop-count
decreases-loop-count g l = g.I.Source.may_give l.input
