use Rattle.std.proofs.Common.{arith}
use Rattle.std.proofs.lemmas.Option.{slice_get_read}
use Rattle.ep_live_tests.proofs.tests.begun.third_slot.Goals as goal

pub returns : goal.returns
returns g c =
    let slots = c.in_ok-slots.slots in
    let free = c.swap_remove in
    c.in_ok-slots.ensures.slots 3 free.result (slice_get_read slots.items _ 3 free.result slots.ok.0 (omega (arith, c.in_ok-slots.ensures.count)) free.ensures.value)
