use Rattle.std.proofs.Common.{arith}
use Rattle.std.proofs.lemmas.Fmt.{length-decimal-le}
use Rattle.pt_print.specs.Printed.{number_part}
use Rattle.pt_print.proofs.Numbers.{appended, number-text}
use Rattle.pt_print.proofs.put_number.Goals as goal

pub write_digits-start-requires : goal.write_digits-start-requires
write_digits-start-requires c = (omega (arith, length-decimal-le 20 c.args.number (omega arith) (omega arith) c.ranges.number.fits), omega arith)

pub overflow_sub-start : goal.overflow_sub-start
overflow_sub-start c = omega (arith, length-decimal-le 20 c.args.number (omega arith) (omega arith) c.ranges.number.fits)

pub returns-clause-ok : goal.returns-clause-ok
returns-clause-ok c =
    let put = c.write_digits-start in
    appended c.extend_from_slice.result c.args.out.now.items _ _ (number_part c.args.number) c.extend_from_slice.ensures.items
    (number-text put.new.buf c.args.number put.result c.saturating_sub-blanks.result _ put.ensures.start put.ensures.written put.ensures.before (omega arith)
    (omega (arith, length-decimal-le 20 c.args.number (omega arith) (omega arith) c.ranges.number.fits)) (omega arith))
