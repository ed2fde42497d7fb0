use Rattle.std.proofs.Common.{◌≡◌, ◌-◌, ◌<◌, ◌^◌, length, take, refl, sym, ◌∙◌, arith, rules}
use Rattle.std.proofs.lemmas.Fmt.{length-decimal-le}
use Rattle.ep_defs.specs.Event.{deepest_after}
use Rattle.pt_lines.proofs.Placing.{fielded-more, fielded-none, with-last}
use Rattle.pt_lines.proofs.plain.place_fields.Goals as goal

pub loop-left-init : goal.loop-left-init
loop-left-init c = (fielded-none c.args.fields.now c.args.payload.now c.args.end c.args.text.now, omega arith, omega arith, refl)

pub write_digits-digits-requires : goal.write_digits-digits-requires
write_digits-digits-requires c =
    let fits : c.in_ok-held.held.number < 2 ^ 64 = first_of (omega arith, omega (arith, rw c.in_ok-held.was at c.held_before.type_inv), search rules) in (
      omega (arith, c.if-start-lt-HELD_BYTES.false, length-decimal-le 20 c.in_ok-held.held.number (omega arith) (omega (arith, fits)) fits),
      omega (arith, c.loop-left.invariant.2, c.loop-left.invariant.3, c.requires),
    )

pub place_word-start-requires-clause-room : goal.place_word-start-requires-clause-room
place_word-start-requires-clause-room c =
    let fits : c.in_ok-held.held.number < 2 ^ 64 = first_of (omega arith, omega (arith, rw c.in_ok-held.was at c.held_before.type_inv), search rules) in
    omega (arith, c.if-start-lt-HELD_BYTES.false, c.if-start-label.false, c.write_digits-digits.ensures.start, length-decimal-le 20 c.in_ok-held.held.number (omega arith) (omega (arith, fits)) fits)

pub loop-left-preserved : goal.loop-left-preserved
loop-left-preserved c =
    let invariant = c.loop-left.invariant in
    let left = c.loop-left.left.now in
    let field = c.field-item.result in
    let digits = c.write_digits-digits in
    let start = c.place_word-start in
    let whole = with-last left (length left - 1) field field (omega (arith, c.in-len1-up.len_at_least)) c.field-item.is in
    let shallow : deepest_after field ≡ 0 = sym c.open_after.ensures ∙ omega (arith, c.if-open_after-gt0.false) in (
      fielded-more c.args.fields.now c.args.payload.now left (take (length left - 1) left) field c.loop-left.before c.in_ok-held.held start.result digits.result c.loop-left.start c.args.end c.label-label.result.now c.args.text.now c.loop-left.text digits.new.buf start.new.text
          invariant.0 whole c.in_ok-held.ensures.within c.in_ok-held.ensures.held shallow c.label-label.ensures
          (omega (arith, digits.ensures.start)) digits.ensures.written digits.ensures.before
          (omega (arith, start.ensures.start)) start.ensures.written start.ensures.before,
      omega (arith, invariant.1),
      omega (arith, invariant.2, digits.ensures.start, start.ensures.start),
      omega (arith, invariant.3, start.ensures.len, digits.auto.buf),
    )
