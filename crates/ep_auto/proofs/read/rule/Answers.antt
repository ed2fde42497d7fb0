-- The fields stand in the part.
use Rattle.std.proofs.Common.{length, ap, arith}
use Rattle.ep_auto.proofs.Parts.{two-in-part}
use Rattle.ep_auto.proofs.read.rule.Goals as goal

pub overflow_add-column : goal.overflow_add-column
overflow_add-column c =
    let both = two-in-part c.args.part.now in
    omega (arith, both, ap length c.field-2.ensures, c.requires)

pub overflow_add-column-2 : goal.overflow_add-column-2
overflow_add-column-2 c =
    let both = two-in-part c.args.part.now in
    omega (arith, both, ap length c.field-2.ensures, c.requires)

pub overflow_add-column-3 : goal.overflow_add-column-3
overflow_add-column-3 c =
    let both = two-in-part c.args.part.now in
    omega (arith, both, ap length c.field-2.ensures, ap length c.field-4.ensures, c.requires)

pub overflow_add-column-4 : goal.overflow_add-column-4
overflow_add-column-4 c =
    let both = two-in-part c.args.part.now in
    omega (arith, both, ap length c.field-2.ensures, ap length c.field-4.ensures, c.requires)
