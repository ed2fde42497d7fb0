use Rattle.std.proofs.Common.{◌≡◌, ◌∙◌, ◌+◌, ◌-◌, ◌≤◌, Option, None, length, ap, sym, subst, arith}
use Rattle.std.specs.Prelude.{option_map}
use Rattle.std.proofs.lemmas.Option.{none-some}
use Rattle.ep_defs.specs.declared.session.Config.{Config}
use Rattle.ep_guarded.specs.Tied.{hand_in, grant_in, AreCounted}
use Rattle.ep_guarded.specs.declared.grant.Grant.{Grant}
use Rattle.ep_live.specs.RowSet.{LiveRowsState, configured_in, config_in}
use Rattle.ep_live.proofs.Halves.{said-own, held-grant, counts, counts-none, few-given, rows-changed}
use Rattle.ep_live.proofs.Batches.{is-batch}
use Rattle.ep_live.proofs.Own.{hand-half, place-own, out-own}
use Rattle.ep_live.proofs.Pushing.{same}
use Rattle.ep_live.proofs.live_rows.LiveRowsRowSet.detach.Goals as goal

pub close_by-requires-clause-row : goal.close_by-requires-clause-row
close_by-requires-clause-row g c =
    let count : length c.self.inside.halves.items ≡ length c.args.self.now.halves = ap (λ (v : LiveRowsState). length v.halves) c.self.view_is in
    omega (arith, c.requires.row, count, c.self.invariant.count)

pub close_by-requires-clause-can : goal.close_by-requires-clause-can
close_by-requires-clause-can g c =
    let has = hand-half _ _ c.args.row c.args.slot _ _ c.self.view_is c.requires.row c.index_mut.ensures.value c.requires.expected in
    let most = few-given _ _ _ _ c.self.inside.halves.items c.self.inside.seat c.self.inside.openings _ c.self.invariant in
    record {
      slot_is = c.requires.slot;
      place = place-own _ c.args.row c.args.slot _ _ _ _ c.self.inside.openings has c.self.invariant;
      hand_is = has.hand_is;
      seat_is = λ grant is.
          let granted = sym ((c.self.invariant.halves_are (c.args.row - 1) _ has.at).granted grant is) in
          (c.self.invariant.seat_is.0 ∙ ap (λ (g : Grant). g.pool.pool) granted, c.self.invariant.seat_is.1 ∙ ap (λ (g : Grant). g.pool.total) granted);
      few = omega (arith, most);
      few_given = omega (arith, most, c.self.invariant.given);
    }

pub invariant_of-self : goal.invariant_of-self
invariant_of-self g c =
    let half = c.index_mut.result.now in
    let has = hand-half _ _ c.args.row c.args.slot half _ c.self.view_is c.requires.row c.index_mut.ensures.value c.requires.expected in
    let was = counts half c.args.hand has.hand_is in
    let none : hand_in c.close_by.new.half.value ≡ None = ap hand_in c.close_by.ensures.half in
    let now = counts-none c.close_by.new.half none in
    let seat = c.close_by.ensures.closes.seat_is in
    let share = ap (λ s. s.share) seat in
    let taken = ap (λ s. s.taken) seat in
    let few : c.args.hand.stolen + length c.close_by.result.0.chain ≤ 4000000000 = c.close_by.ensures.closes.few in
    rows-changed _ _ _ _ _ c.self.inside.seat c.close_by.new.seat c.self.inside.openings c.self.inside.openings (c.args.row - 1) _ half c.close_by.new.half c.self.invariant has.at
    c.close_by.ensures.place
    (λ grant is. absurd (none-some grant (sym (ap grant_in c.close_by.ensures.half) ∙ is)))
    (omega (arith, now)) (ap (λ s. s.pool) seat) (ap (λ s. s.total) seat) (ap (λ s. s.seats) seat)
    (omega (arith, was, now, share)) (ap (λ s. s.given) seat) (omega (arith, was, now, taken)) (omega (arith, was, now, taken, few)) c.self.invariant.few

pub returns-clause-batch : goal.returns-clause-batch
returns-clause-batch g c =
    let has = hand-half _ _ c.args.row c.args.slot _ _ c.self.view_is c.requires.row c.index_mut.ensures.value c.requires.expected in
    let held = held-grant _ c.args.hand has.hand_is in
    is-batch _ held.0.config _ c.args.hand _ _ c.close_by.ensures.closes.taken (c.close_by.ensures.closes.numbered held.0 held.1)

pub returns-clause-tested_marks : goal.returns-clause-tested_marks
returns-clause-tested_marks g c config is =
    let has = hand-half _ _ c.args.row c.args.slot _ _ c.self.view_is c.requires.row c.index_mut.ensures.value c.requires.expected in
    let held = held-grant _ c.args.hand has.hand_is in
    let configured = ap (λ (v : LiveRowsState). configured_in v c.args.row c.args.slot) c.self.view_is ∙ is in
    let config_is = ap (λ h. config_in h.value) (sym has.here) ∙ sym (said-own config_in c.self.inside.halves.items c.self.inside.slot c.args.row c.args.slot has.own) ∙ configured in (
      subst (λ (x : Config). AreCounted g.P.Program.events g.P.Program.writes x c.close_by.result.1) (same held.0.config config (sym (ap (λ (o : Option Grant). option_map (λ g. g.config) o) held.1) ∙ config_is))
          (c.close_by.ensures.closes.counted held.0 held.1),
      λ index here. c.close_by.ensures.to index (ap (λ (v : LiveRowsState). v.stands) c.self.view_is ∙ here),
      λ none index here. c.close_by.ensures.ends (ap (λ (v : LiveRowsState). v.stands) c.self.view_is ∙ none) index (ap (λ (v : LiveRowsState). v.ends) c.self.view_is ∙ here),
    )

pub returns-clause-out : goal.returns-clause-out
returns-clause-out g c s =
    let half = c.index_mut.result.now in
    let has = hand-half _ _ c.args.row c.args.slot half _ c.self.view_is c.requires.row c.index_mut.ensures.value c.requires.expected in
    let was = counts half c.args.hand has.hand_is in
    let none : hand_in c.close_by.new.half.value ≡ None = ap hand_in c.close_by.ensures.half in
    let now = counts-none c.close_by.new.half none in
    let taken = ap (λ s. s.taken) c.close_by.ensures.closes.seat_is in
    out-own _ _ c.args.row c.args.slot half c.close_by.new.half _ c.close_by.new.seat s (length c.close_by.result.0.chain) c.self.view_is has c.self.invariant.given (ap (λ s. s.given) c.close_by.ensures.closes.seat_is)
    (omega (arith, was, now, taken))
