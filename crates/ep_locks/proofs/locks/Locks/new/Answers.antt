use Rattle.std.proofs.Common.{◌≡◌, ◌*◌, length, sym, ap, ◌∙◌, subst, arith}
use Rattle.std.specs.Prelude.{replicate}
use Rattle.ep_locks.specs.Row.{AreLocks, spread}
use Rattle.atomic_table.specs.Table.{opening}
use Rattle.ep_locks.proofs.Lines.{length-spread}
use Rattle.ep_locks.proofs.Turns.{opens}
use Rattle.ep_locks.proofs.locks.Locks.new.Goals as goal

pub new-requires : goal.new-requires
new-requires g c =
    let slots = c.in_ok-slots.ensures in
    let lengths = ap length slots in
    let long : c.len.result ≡ length (spread c.args.values.items) = omega (arith, c.len.ensures, c.in_ok-slots.slots.ok.0) in
    let words = c.as_slice.ensures.value ∙ c.in_ok-words.ensures.items_if_clones_equal (λ y e. e) ∙ ap (λ n. replicate n 0) long in
    subst (λ l. AreLocks g.P.Guards.holds (opening c.as_slice.result.now l tt)) (sym slots) (opens g.P.Guards.holds c.args.values.items c.as_slice.result.now words c.requires)

pub invariant_of-result : goal.invariant_of-result
invariant_of-result g c =
    let lengths = ap length c.in_ok-slots.ensures in
    let lines = length-spread c.args.values.items in
    let slots : length c.in_ok-slots.slots.items ≡ c.len-count.result * 8 = omega (arith, c.len-count.ensures, c.args.values.ok.0) in
    let words : length c.as_slice.result.now ≡ c.len-count.result * 8 = omega (arith, c.as_slice.ensures.len, c.in_ok-words.ensures.len, c.len.ensures, c.in_ok-slots.slots.ok.0) in
    (c.in-Ok.ensures.ok.0 ∙ words, c.in-Ok.ensures.ok.1 ∙ slots, omega (arith, c.as_slice.type_inv.0))
