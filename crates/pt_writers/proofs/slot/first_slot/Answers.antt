use Rattle.std.proofs.Common.{refl, arith}
use Rattle.std.proofs.lemmas.Option.{slice_get_read}
use Rattle.pt_writers.proofs.slot.first_slot.Goals as goal

pub returns : goal.returns
returns g c =
    let slots = c.in_ok-slots.slots in
    c.in_ok-slots.ensures.slots 0 c.swap_remove.result
    (slice_get_read slots.items _ 0 c.swap_remove.result refl (omega (arith, c.in_ok-slots.ensures.count, slots.ok.0)) c.swap_remove.ensures.value)
