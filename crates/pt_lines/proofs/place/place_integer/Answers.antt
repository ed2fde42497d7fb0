-- A number has at most 20 digits.
use Rattle.std.proofs.Common.{arith}
use Rattle.std.proofs.lemmas.Fmt.{length-decimal-le}
use Rattle.pt_lines.proofs.place.place_integer.Goals as goal

pub write_digits-requires : goal.write_digits-requires
write_digits-requires c = (omega (arith, c.requires.room, length-decimal-le 20 c.args.number (omega arith) (omega arith) c.ranges.number.fits), c.requires.within)

pub returns-then-number-le-MOST_EXACT-clause-few : goal.returns-then-number-le-MOST_EXACT-clause-few
returns-then-number-le-MOST_EXACT-clause-few c = omega (arith, c.write_digits.ensures.start, length-decimal-le 20 c.args.number (omega arith) (omega arith) c.ranges.number.fits)

pub write_digits-start-requires : goal.write_digits-start-requires
write_digits-start-requires c = (
  omega (arith, c.requires.room, c.place_word-behind.ensures.start, length-decimal-le 20 c.args.number (omega arith) (omega arith) c.ranges.number.fits),
  omega (arith, c.requires.within, c.place_word-behind.ensures.start, c.place_word-behind.ensures.len),
)

pub place_word-requires-clause-room : goal.place_word-requires-clause-room
place_word-requires-clause-room c = omega (arith, c.requires.room, c.place_word-behind.ensures.start, c.write_digits-start.ensures.start, length-decimal-le 20 c.args.number (omega arith) (omega arith) c.ranges.number.fits)

pub returns-clause-few : goal.returns-clause-few
returns-clause-few c = omega (arith, c.place_word-behind.ensures.start, c.write_digits-start.ensures.start, c.place_word.ensures.start, length-decimal-le 20 c.args.number (omega arith) (omega arith) c.ranges.number.fits)
