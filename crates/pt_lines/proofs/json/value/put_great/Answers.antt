use Rattle.std.proofs.Common.{decimal, arith}
use Rattle.std.proofs.lemmas.Fmt.{length-decimal-le}
use Rattle.pt_lines.specs.Json.{in_quotes}
use Rattle.pt_lines.proofs.Digits.{quoted-text}
use Rattle.pt_print.proofs.Numbers.{appended}
use Rattle.pt_lines.proofs.json.value.put_great.Goals as goal

pub write_digits-start-requires : goal.write_digits-start-requires
write_digits-start-requires c = (omega (arith, length-decimal-le 20 c.args.number (omega arith) (omega arith) c.ranges.number.fits), omega arith)

pub overflow_sub-start : goal.overflow_sub-start
overflow_sub-start c = omega (arith, length-decimal-le 20 c.args.number (omega arith) (omega arith) c.ranges.number.fits)

pub returns : goal.returns
returns c =
    let put = c.write_digits-start in
    appended c.extend_from_slice.result c.args.out.now.items _ _ (in_quotes (decimal c.args.number)) c.extend_from_slice.ensures.items
    (quoted-text put.new.buf c.args.number put.result _ put.ensures.start
    (omega (arith, put.ensures.start, length-decimal-le 20 c.args.number (omega arith) (omega arith) c.ranges.number.fits)) put.ensures.written put.ensures.before
    (omega arith))
