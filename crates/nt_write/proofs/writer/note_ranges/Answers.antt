use Rattle.std.proofs.Common.{arith}
use Rattle.nt_write.proofs.Defining.{can-define}
use Rattle.nt_write.proofs.writer.note_ranges.Goals as goal

pub returns : goal.returns
returns c =
    record {
      thread = omega arith;
      number = omega arith;
      stamp = omega arith;
      activity = record { long = omega arith; bytes = c.bytes_fit.ensures };
      related = record { long = omega arith; bytes = c.bytes_fit-2.ensures };
      stack = record { short = c.requires.frames; whole = c.requires.whole; bytes = c.bytes_fit-3.ensures };
      short = c.requires.payload;
      payload = c.bytes_fit-4.ensures;
      def = can-define c.args.def.now c.requires.valid (c.event_fits.ensures c.requires.valid);
    }
