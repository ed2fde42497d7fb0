use Rattle.std.proofs.Common.{arith, ◌∙◌}
use Rattle.pt_num.proofs.Groups.{groups_room, groups_step, groups_end, groups_len}
use Rattle.pt_num.proofs.varuint.push_groups.Goals as goal

pub push_reserved-requires : goal.push_reserved-requires
push_reserved-requires c = omega (arith, groups_room _ _ _ _ _ _ c.loop-rest.invariant.0, c.loop-rest.invariant.1)

pub loop-rest-preserved : goal.loop-rest-preserved
loop-rest-preserved c =
    let step = groups_step _ _ _ _ _ _ c.loop-rest-test.true c.loop-rest.invariant.0 in
    (rw (c.push_reserved.ensures.items, c.push_reserved.ensures.len) step, c.push_reserved.ensures.capacity ∙ c.loop-rest.invariant.1)

pub push_reserved-requires-2 : goal.push_reserved-requires-2
push_reserved-requires-2 c = omega (arith, groups_room _ _ _ _ _ _ c.loop-rest.invariant.0, c.loop-rest.invariant.1)

pub returns-clause-items : goal.returns-clause-items
returns-clause-items c =
    c.push_reserved-2.ensures.items ∙ groups_end _ _ _ _ _ _ c.loop-rest-test.false c.loop-rest.invariant.0

pub returns-clause-len : goal.returns-clause-len
returns-clause-len c =
    c.push_reserved-2.ensures.len ∙ groups_len _ _ _ _ _ _ c.loop-rest-test.false c.loop-rest.invariant.0
