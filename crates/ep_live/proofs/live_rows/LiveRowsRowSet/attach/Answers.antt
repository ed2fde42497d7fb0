use Rattle.std.proofs.Common.{◌≡◌, ◌∙◌, ℕ, ◌+◌, ◌-◌, ap, sym, arith}
use Rattle.std.specs.Prelude.{◌==◌, if◌then◌else◌, slice_set}
use Rattle.std.specs.List.{sum_by}
use Rattle.ep_live.specs.RowSet.{LiveRowsState, out_in, stolen_in}
use Rattle.ep_live.proofs.Halves.{room, counts, counts-none, sum-set, rows-changed}
use Rattle.ep_live.proofs.Own.{own-half, place-own}
use Rattle.ep_live.proofs.Pushing.{same}
use Rattle.ep_live.proofs.live_rows.LiveRowsRowSet.attach.Goals as goal

pub open-requires-clause-can : goal.open-requires-clause-can
open-requires-clause-can g c =
    let half = c.index_mut.result.now in
    let own = c.requires.can_attach.0 ∙ sym (ap (λ (v : LiveRowsState). v.slot) c.self.view_is) in
    let has = own-half _ _ c.args.row c.args.slot half _ c.self.view_is c.requires.row c.index_mut.ensures.value own c.requires.off in
    let some = room c.self.inside.halves.items (c.args.row - 1) half has.at (counts-none half has.hand_is).0 in
    record {
      slot_is = c.requires.slot;
      place = place-own _ c.args.row c.args.slot _ _ _ _ c.self.inside.openings has c.self.invariant;
      off = has.hand_is;
      admitted = c.self.invariant.admitted;
      seat_is = c.self.invariant.seat_is;
      share = omega (arith, some, c.self.invariant.share, c.self.invariant.count);
    }

pub invariant_of-self : goal.invariant_of-self
invariant_of-self g c =
    let half = c.index_mut.result.now in
    let own = c.requires.can_attach.0 ∙ sym (ap (λ (v : LiveRowsState). v.slot) c.self.view_is) in
    let has = own-half _ _ c.args.row c.args.slot half _ c.self.view_is c.requires.row c.index_mut.ensures.value own c.requires.off in
    let was = counts-none half has.hand_is in
    let some = room c.self.inside.halves.items (c.args.row - 1) half has.at was.0 in
    let opened = c.in-Ok.ensures.opens in
    let now = counts c.open.new.half c.in-Ok.hand opened.half_is in
    let none = ap (λ h. h.stolen) opened.hand_is in
    let share = ap (λ s. s.share) opened.seat_is in
    let taken = ap (λ s. s.taken) opened.seat_is in
    rows-changed _ _ _ _ _ c.self.inside.seat c.open.new.seat c.self.inside.openings (c.self.inside.openings + 1) (c.args.row - 1) _ half c.open.new.half c.self.invariant has.at
    c.in-Ok.ensures.place
    (λ grant is. same grant c.self.inside.grant.now (sym is ∙ opened.grant_is))
    (omega (arith, now, none)) (ap (λ s. s.pool) opened.seat_is) (ap (λ s. s.total) opened.seat_is) (ap (λ s. s.seats) opened.seat_is)
    (omega (arith, was, now, share, some, c.self.invariant.share, c.self.invariant.count)) (ap (λ s. s.given) opened.seat_is) (omega (arith, was, now, taken)) (omega (arith, was, now, taken)) (omega (arith, c.self.invariant.few, c.if-self-eq-SESSION_THREADS.false))

pub returns-in-Ok-clause-out : goal.returns-in-Ok-clause-out
returns-in-Ok-clause-out g c s =
    let halves = c.self.inside.halves.items in
    let half = c.index_mut.result.now in
    let own = c.requires.can_attach.0 ∙ sym (ap (λ (v : LiveRowsState). v.slot) c.self.view_is) in
    let has = own-half _ _ c.args.row c.args.slot half _ c.self.view_is c.requires.row c.index_mut.ensures.value own c.requires.off in
    let was = counts-none half has.hand_is in
    let opened = c.in-Ok.ensures.opens in
    let now = counts c.open.new.half c.in-Ok.hand opened.half_is in
    let none = ap (λ h. h.stolen) opened.hand_is in
    let chunks = sum-set stolen_in halves (c.args.row - 1) half c.open.new.half has.at in
    let taken = ap (λ s. s.taken) opened.seat_is in
    let given = ap (λ s. s.given) opened.seat_is in
    let all : sum_by stolen_in (slice_set halves (c.args.row - 1) c.open.new.half) + c.open.new.seat.taken - c.open.new.seat.given ≡ sum_by stolen_in halves + c.self.inside.seat.taken - c.self.inside.seat.given = omega (arith, was, now, none, chunks, taken, given) in
    ap (λ (n : ℕ). if s == c.self.inside.slot then n else 0) all ∙ ap (λ (v : LiveRowsState). out_in v s) c.self.view_is
