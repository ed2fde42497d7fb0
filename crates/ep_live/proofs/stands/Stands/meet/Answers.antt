use Rattle.std.proofs.Common.{◌<◌, ◌∙◌, length, refl, sym, arith}
use Rattle.std.proofs.lemmas.Option.{slice_get_read}
use Rattle.ep_live.proofs.Standing.{place-here, some-here, index-here}
use Rattle.ep_live.proofs.stands.Stands.meet.Goals as goal

pub stands-requires : goal.stands-requires
stands-requires g c =
    let halves = c.self.inside.halves.items in
    let small : c.args.number < length halves = omega (arith, c.self.inside.halves.ok, c.if-number-len.true, c.len.ensures) in
    let at = slice_get_read halves _ c.args.number c.index_mut.result.now refl small c.index_mut.ensures.value in
    record { place = place-here _ _ halves c.args.number c.index_mut.result.now c.self.invariant at ∙ sym c.requires.number; here = some-here _ _ halves c.args.number c.index_mut.result.now c.self.invariant at }

pub returns-then-number-len-clause-stands : goal.returns-then-number-len-clause-stands
returns-then-number-len-clause-stands g c index here =
    let halves = c.self.inside.halves.items in
    let small : c.args.number < length halves = omega (arith, c.self.inside.halves.ok, c.if-number-len.true, c.len.ensures) in
    let at = slice_get_read halves _ c.args.number c.index_mut.result.now refl small c.index_mut.ensures.value in
    index-here _ c.self.inside.index halves c.args.number index c.index_mut.result.now _ c.self.invariant at (c.self.view_is ∙ here) c.stands.ensures.stands
