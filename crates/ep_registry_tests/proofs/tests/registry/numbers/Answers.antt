use Rattle.std.proofs.Common.{◌≡◌, ◌∷◌, [], length-append, sym, arith}
use Rattle.ep_registry.proofs.Fills.{at-more}
use Rattle.ep_registry_tests.proofs.tests.registry.numbers.Goals as goal

pub loop-slot-preserved : goal.loop-slot-preserved
loop-slot-preserved c =
    let i = c.loop-slot.invariant in
    let longer = length-append c.loop-slot.free.items (c.loop-slot.slot ∷ []) in (
      rw c.in_ok-push.ensures.items (omega (arith, longer, i.0)),
      rw c.in_ok-push.ensures.items (at-more (λ slot f. f ≡ slot) c.loop-slot.free.items c.loop-slot.slot i.1 (sym i.0)),
    )
