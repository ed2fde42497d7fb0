use Rattle.std.proofs.Common.{◌≡◌, ◌∷◌, length, ap, arith}
use Rattle.ep_plan.specs.Words.{parts_at}
use Rattle.ep_plan.proofs.Separated.{parts-further, parts-cons}
use Rattle.ep_plan.proofs.words.split.two_parts.Goals as goal

pub returns-in-Some-clause-none : goal.returns-in-Some-clause-none
returns-in-Some-clause-none c = λ two.
    let first = parts-further c.args.separator c.args.text.now c.first_part.result.0.now c.first_part.result.1 c.in_ok-rest.field-0 c.first_part.ensures.parts c.in_ok-rest.was in
    let second = parts-further c.args.separator c.in_ok-rest.field-0.now c.first_part-2.result.0.now c.first_part-2.result.1 c.in-Some.field-0 c.first_part-2.ensures.parts c.in-Some.is in
    let third = parts-cons c.args.separator c.in-Some.field-0.now in
    let three : parts_at c.args.separator c.args.text.now ≡ c.first_part.result.0.now ∷ c.first_part-2.result.0.now ∷ third.0 ∷ third.1 = cc (first, second, third.2) in
    absurd (omega (arith, ap length three, two))
