-- A number is placed behind blanks that stand there.
use Rattle.std.proofs.Common.{◌∙◌, arith}
use Rattle.std.proofs.lemmas.Fmt.{length-decimal-le}
use Rattle.pt_lines.proofs.Digits.{placed-text, earlier-blank}
use Rattle.pt_lines.proofs.place.place_number.Goals as goal

pub write_digits-start-requires : goal.write_digits-start-requires
write_digits-start-requires c = (omega (arith, c.requires.room, length-decimal-le 20 c.args.number (omega arith) (omega arith) c.ranges.number.fits), c.requires.within)

pub overflow_sub-result : goal.overflow_sub-result
overflow_sub-result c = omega (arith, c.requires.room, c.write_digits-start.ensures.start, length-decimal-le 20 c.args.number (omega arith) (omega arith) c.ranges.number.fits)

pub returns-clause-few : goal.returns-clause-few
returns-clause-few c = omega (arith, c.requires.room, c.write_digits-start.ensures.start, length-decimal-le 20 c.args.number (omega arith) (omega arith) c.ranges.number.fits)

pub returns-clause-written : goal.returns-clause-written
returns-clause-written c =
    let put = c.write_digits-start in
    (placed-text put.new.buf _ c.args.number put.result _
    (put.ensures.before ∙ earlier-blank c.args.text.now put.result c.args.end (omega (arith, put.ensures.start)) c.requires.blank) put.ensures.written
    (omega (arith, put.ensures.start))
    (omega (arith, c.requires.room, put.ensures.start, length-decimal-le 20 c.args.number (omega arith) (omega arith) c.ranges.number.fits))).0

pub returns-clause-blank : goal.returns-clause-blank
returns-clause-blank c =
    let put = c.write_digits-start in
    (placed-text put.new.buf _ c.args.number put.result _
    (put.ensures.before ∙ earlier-blank c.args.text.now put.result c.args.end (omega (arith, put.ensures.start)) c.requires.blank) put.ensures.written
    (omega (arith, put.ensures.start))
    (omega (arith, c.requires.room, put.ensures.start, length-decimal-le 20 c.args.number (omega arith) (omega arith) c.ranges.number.fits))).1
