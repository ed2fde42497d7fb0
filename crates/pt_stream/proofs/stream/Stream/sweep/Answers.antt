use Rattle.std.proofs.Common.{◌∙◌, List, None, sym, ap, subst}
use Rattle.ep_defs.specs.Definitions.{AreDistinct, definition_at}
use Rattle.ep_defs.specs.declared.event.EventDef.{EventDef}
use Rattle.ep_live.specs.RowSet.{LiveRowsState}
use Rattle.pt_stream.specs.Kept.{IsKept}
use Rattle.pt_stream.specs.Setting.{watch_of}
use Rattle.pt_stream.proofs.Keeping.{kept-swept}
use Rattle.pt_stream.proofs.stream.Stream.sweep.Goals as goal

pub sweep-answer-requires-clause-distinct : goal.sweep-answer-requires-clause-distinct
sweep-answer-requires-clause-distinct g c = subst (λ (es : List EventDef). AreDistinct (definition_at es)) (sym c.events.ensures) c.requires.events.distinct

pub invariant_of-stream : goal.invariant_of-stream
invariant_of-stream g c =
    let old = c.self.inside.session in
    let new = c.sweep-answer.new.self in
    let e = c.sweep-answer.ensures in
    let was = c.resume-rows.ensures in
    let now = c.park.ensures in
    let stands = c.same_tests_have_the_same_stands.ensures g.P.Program.rows c.resume-rows.result c.sweep-answer.new.rows e.set.hands in
    let before = subst (λ (set : LiveRowsState). IsKept {S = g.row.S.Denot} g.S.Sink g.P.Program.rows g.P.Program.events g.P.Program.writes g.P.Run.setting set old c.self.inside.openings c.self.inside.seat c.self.inside.places.items c.self.inside.early) (sym was) c.self.invariant.1 in
    let told = c.a_sweep_is_traced.ensures (watch_of g.P.Program.rows g.P.Program.events g.P.Program.writes g.P.Run.setting c.self.inside.session.config c.self.inside.seat.id) old new
    (record {
      given = c.events.result.now;
      stamp = c.args.stamp;
      count = _;
      told_old = None;
      told_new = None;
      result = c.sweep-answer.result;
      events = c.events.ensures;
      swept = e.swept;
      faulty = e.faulty;
    })
    in
    let after = kept-swept g.S.Sink g.P.Program.rows g.P.Program.events g.P.Program.writes g.P.Run.setting c.self.inside.openings _ c.resume-rows.result c.sweep-answer.new.rows old new c.self.inside.seat c.self.inside.places.items c.self.inside.early _ _ _ _ c.sweep-answer.result
    told e.swept e.faulty e.count e.rows e.refused e.set.count_is e.set.attaches e.slots before
    in (
      ap (λ (set : LiveRowsState). set.stands) now ∙ stands ∙ ap (λ (set : LiveRowsState). set.stands) was ∙ c.self.invariant.0,
      subst (λ (set : LiveRowsState). IsKept {S = g.row.S.Denot} g.S.Sink g.P.Program.rows g.P.Program.events g.P.Program.writes g.P.Run.setting set new c.self.inside.openings c.self.inside.seat c.self.inside.places.items c.self.inside.early) (sym now) after,
    )
