use Rattle.std.proofs.Common.{arith}
use Rattle.pt_host.proofs.prepared.Prepared.new.Goals as goal

pub new-requires-3-clause-free : goal.new-requires-3-clause-free
new-requires-3-clause-free g c =
    let free = c.in_ok-free.free in
    (omega (arith, free.ok.0, c.in_ok-free.ensures.count), λ place slot at. c.in_ok-free.ensures.slots place slot at)

pub invariant_of-halves-clause-fresh : goal.invariant_of-halves-clause-fresh
invariant_of-halves-clause-fresh g c =
    first_of (rw (c.parts_of-table.ensures.1, c.in_ok-new.ensures.server), cc (c.parts_of-table.ensures.1, c.in_ok-new.ensures.server), grind (arith, c.parts_of-table.ensures.1, c.in_ok-new.ensures.server))

pub invariant_of-halves-clause-roles_are : goal.invariant_of-halves-clause-roles_are
invariant_of-halves-clause-roles_are g c =
    first_of (rw (c.parts_of-table.ensures.2, c.in_ok-new.ensures.roles, c.requires.options), cc (c.parts_of-table.ensures.2, c.in_ok-new.ensures.roles, c.requires.options), grind (arith, c.parts_of-table.ensures.2, c.in_ok-new.ensures.roles, c.requires.options))
