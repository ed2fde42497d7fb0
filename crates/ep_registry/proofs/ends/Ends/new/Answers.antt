use Rattle.std.proofs.Common.{◌+◌, ◌∷◌, [], Some, length-append, ap, sym, ◌∙◌, arith}
use Rattle.ep_registry.proofs.Numbered.{in-place-snoc, values-snoc, numbered-more}
use Rattle.ep_registry.proofs.ends.Ends.new.Goals as goal

pub loop-made-preserved : goal.loop-made-preserved
loop-made-preserved g c =
    let i = c.loop-made.invariant in
    let half = c.next-half.result.0 in
    let longer = length-append c.loop-made.halves.items (half ∷ []) in
    let place = c.next-half.ensures.place.0 ∙ i.0 in (
      c.next-half.ensures.made.0 ∙ ap (λ n. n + 1) i.0,
      c.next-half.ensures.made.1 ∙ i.1,
      rw c.in_ok-push.ensures.items (in-place-snoc c.loop-made.halves.items half i.2 (place ∙ sym i.3)),
      rw c.in_ok-push.ensures.items (omega (arith, longer, i.3)),
      rw c.in_ok-push.ensures.items (values-snoc c.loop-made.halves.items half c.loop-made._made (Some c.args.value.now) i.4 c.next-half.ensures.value.0),
      rw c.in_ok-push-2.ensures.items
          (numbered-more c.loop-made.others.items c.next-half.result.1 c.loop-made._made c.args.value.now i.5 (c.next-half.ensures.place.1 ∙ i.0) c.next-half.ensures.value.1),
    )
