use Rattle.std.proofs.Common.{decimal, rules, arith}
use Rattle.std.proofs.lemmas.Fmt.{decimal_digit, length-decimal-le}
use Rattle.pt_lines.proofs.Digits.{digits-text}
use Rattle.pt_print.proofs.Numbers.{appended}
use Rattle.pt_lines.proofs.value.put_digits.Goals as goal

pub returns-then-number-lt10 : goal.returns-then-number-lt10
returns-then-number-lt10 c = rw (decimal_digit c.args.number (omega arith)) (search rules)

pub write_digits-start-requires : goal.write_digits-start-requires
write_digits-start-requires c = (omega (arith, length-decimal-le 20 c.args.number (omega arith) (omega arith) c.ranges.number.fits), omega arith)

pub returns : goal.returns
returns c =
    let put = c.write_digits-start in
    appended c.extend_from_slice.result c.args.out.now.items _ _ (decimal c.args.number) c.extend_from_slice.ensures.items
    (digits-text put.new.buf c.args.number put.result _ put.ensures.start put.ensures.written (omega arith))
