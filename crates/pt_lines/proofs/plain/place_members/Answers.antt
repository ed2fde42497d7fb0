use Rattle.std.proofs.Common.{◌≡◌, ◌-◌, ◌<◌, ◌^◌, length, take, refl, sym, ◌∙◌, arith, rules}
use Rattle.std.proofs.lemmas.Bool.{eqb-true}
use Rattle.std.proofs.lemmas.Fmt.{length-decimal-le}
use Rattle.std.proofs.lemmas.List.{nil_from_length}
use Rattle.pt_lines.proofs.Placing.{membered-all, membered-more, membered-none, members-none, members-some, some-fields, with-last}
use Rattle.pt_lines.proofs.plain.place_members.Goals as goal

pub loop-left-init : goal.loop-left-init
loop-left-init c = (membered-none c.args.fields.now c.args.payload.now c.args.end c.args.text.now, omega arith, omega arith, refl)

pub write_digits-digits-requires : goal.write_digits-digits-requires
write_digits-digits-requires c =
    let fits : c.in_ok-held.held.number < 2 ^ 64 = first_of (omega arith, omega (arith, rw c.in_ok-held.was at c.held_before.type_inv), search rules) in (
      omega (arith, c.if-start-lt-HELD_BYTES.false, length-decimal-le 20 c.in_ok-held.held.number (omega arith) (omega (arith, fits)) fits),
      omega (arith, c.loop-left.invariant.2, c.loop-left.invariant.3, c.requires),
    )

pub place_word-start-requires-clause-room : goal.place_word-start-requires-clause-room
place_word-start-requires-clause-room c =
    let fits : c.in_ok-held.held.number < 2 ^ 64 = first_of (omega arith, omega (arith, rw c.in_ok-held.was at c.held_before.type_inv), search rules) in
    omega (arith, c.if-start-lt-HELD_BYTES.false, c.if-start-member.false, c.write_digits-digits.ensures.start, length-decimal-le 20 c.in_ok-held.held.number (omega arith) (omega (arith, fits)) fits)

pub loop-left-preserved : goal.loop-left-preserved
loop-left-preserved c =
    let invariant = c.loop-left.invariant in
    let left = c.loop-left.left.now in
    let field = c.field-item.result in
    let digits = c.write_digits-digits in
    let start = c.place_word-start in
    let whole = with-last left (length left - 1) field field (omega (arith, c.in-len1-up.len_at_least)) c.field-item.is in (
      membered-more c.args.fields.now c.args.payload.now left (take (length left - 1) left) field c.loop-left.before c.in_ok-held.held start.result digits.result c.loop-left.start c.args.end c.member-member.result.now c.args.text.now c.loop-left.text digits.new.buf start.new.text
          invariant.0 whole c.in_ok-held.ensures.within c.in_ok-held.ensures.held c.member-member.ensures
          (omega (arith, digits.ensures.start)) digits.ensures.written digits.ensures.before
          (omega (arith, start.ensures.start)) start.ensures.written start.ensures.before,
      omega (arith, invariant.1),
      omega (arith, invariant.2, digits.ensures.start, start.ensures.start),
      omega (arith, invariant.3, start.ensures.len, digits.auto.buf),
    )

pub returns-then-is_empty-clause-placed : goal.returns-then-is_empty-clause-placed
returns-then-is_empty-clause-placed c =
    let none = nil_from_length c.loop-left.left.now (omega arith) in
    let zero : c.loop-left.before ≡ 0 = omega (arith, c.if-before-gt0.false) in
    let all = membered-all c.args.fields.now c.args.payload.now c.loop-left.left.now c.loop-left.before c.loop-left.start c.args.end c.args.text.now c.loop-left.text c.loop-left.invariant.0 none zero in
    members-none c.args.fields.now c.args.payload.now all.0 all.1 c.loop-left.start c.args.end c.args.text.now c.loop-left.text
    (eqb-true (length c.args.fields.now) 0 (sym c.is_empty.ensures ∙ c.if-is_empty.true)) all.2 all.3 all.4

pub returns-else-is_empty-clause-placed : goal.returns-else-is_empty-clause-placed
returns-else-is_empty-clause-placed c =
    let none = nil_from_length c.loop-left.left.now (omega arith) in
    let zero : c.loop-left.before ≡ 0 = omega (arith, c.if-before-gt0.false) in
    let all = membered-all c.args.fields.now c.args.payload.now c.loop-left.left.now c.loop-left.before c.loop-left.start c.args.end c.args.text.now c.loop-left.text c.loop-left.invariant.0 none zero in
    members-some c.args.fields.now c.args.payload.now all.0 all.1 c.loop-left.start c.args.end c.args.text.now c.loop-left.text
    (some-fields c.args.fields.now (sym c.is_empty.ensures ∙ c.if-is_empty.false)) c.requires c.loop-left.invariant.3 all.2 all.3 all.4
