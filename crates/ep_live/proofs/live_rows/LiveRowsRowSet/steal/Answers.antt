use Rattle.std.proofs.Common.{◌∙◌, ◌-◌, ◌≤◌, length, refl, ap, sym, arith}
use Rattle.ep_live.proofs.Halves.{held-grant, counts, rows-changed}
use Rattle.ep_live.proofs.Batches.{is-batch}
use Rattle.ep_live.proofs.Own.{hand-half, place-own, out-own}
use Rattle.ep_live.proofs.live_rows.LiveRowsRowSet.steal.Goals as goal

pub steal-requires-clause-place : goal.steal-requires-clause-place
steal-requires-clause-place g c =
    let has = hand-half _ _ c.args.row c.args.slot _ _ c.self.view_is c.requires.row c.index_mut.ensures.value c.requires.expected in
    place-own _ c.args.row c.args.slot _ _ _ _ c.self.inside.openings has c.self.invariant

pub invariant_of-self : goal.invariant_of-self
invariant_of-self g c =
    let half = c.index_mut.result.now in
    let has = hand-half _ _ c.args.row c.args.slot half _ c.self.view_is c.requires.row c.index_mut.ensures.value c.requires.expected in
    let was = counts half c.args.hand.now has.hand_is in
    let now = counts c.steal.new.half c.steal.new.hand c.steal.ensures.takes.half_is in
    let after = ap (λ h. h.stolen) c.steal.ensures.takes.hand_is in
    let few : c.steal.new.hand.stolen ≤ 4000000000 = c.steal.ensures.takes.few in
    rows-changed _ _ _ _ _ c.self.inside.seat c.self.inside.seat c.self.inside.openings c.self.inside.openings (c.args.row - 1) _ half c.steal.new.half c.self.invariant has.at
    c.steal.ensures.place
    (λ grant is. (c.self.invariant.halves_are (c.args.row - 1) half has.at).granted grant (sym c.steal.ensures.takes.grant_is ∙ is))
    (omega (arith, now, few)) refl refl refl
    (omega (arith, was, now)) refl (omega (arith, was, now, after)) (omega (arith, was, now)) c.self.invariant.few

pub returns-clause-batch : goal.returns-clause-batch
returns-clause-batch g c =
    let has = hand-half _ _ c.args.row c.args.slot _ _ c.self.view_is c.requires.row c.index_mut.ensures.value c.requires.expected in
    let held = held-grant _ c.args.hand.now has.hand_is in
    is-batch _ held.0.config _ c.args.hand.now _ _ c.steal.ensures.takes.taken (c.steal.ensures.takes.numbered held.0 held.1)

pub returns-clause-out : goal.returns-clause-out
returns-clause-out g c s =
    let half = c.index_mut.result.now in
    let has = hand-half _ _ c.args.row c.args.slot half _ c.self.view_is c.requires.row c.index_mut.ensures.value c.requires.expected in
    let was = counts half c.args.hand.now has.hand_is in
    let now = counts c.steal.new.half c.steal.new.hand c.steal.ensures.takes.half_is in
    let after = ap (λ h. h.stolen) c.steal.ensures.takes.hand_is in
    out-own _ _ c.args.row c.args.slot half c.steal.new.half _ c.self.inside.seat s (length c.steal.result.chain) c.self.view_is has c.self.invariant.given refl
    (omega (arith, was, now, after))
