use Rattle.std.proofs.Common.{◌<◌, ◌%◌, ℕ, length, refl, sym, ap, ◌∙◌, arith, get_or-set_same}
use Rattle.std.proofs.lemmas.Option.{slice_get_read}
use Rattle.pt_load.specs.Sample.{event_at, write_of, nth}
use Rattle.pt_load.specs.Shape.{Drafted}
use Rattle.pt_load.proofs.Writes.{event_low, event_high, event_again, shape_turns, shapes_set}
use Rattle.pt_load.proofs.draft.Draft.nth.Goals as goal

pub renumber-requires-clause-event : goal.renumber-requires-clause-event
renumber-requires-clause-event c =
    let d = c.self.inside in
    let turn = c.args.index % 8 in
    let at = slice_get_read d.shapes.items 8 turn c.index_mut.result.now (sym c.self.invariant.eight) (omega arith) c.index_mut.ensures.value in
    let is = (c.self.invariant.each turn c.index_mut.result.now at).event_is in
    rw is (event_low d.plan d.thread turn, event_high d.plan d.thread turn)

pub renumber-requires-clause-shape : goal.renumber-requires-clause-shape
renumber-requires-clause-shape c =
    let d = c.self.inside in
    let turn = c.args.index % 8 in
    let at = slice_get_read d.shapes.items 8 turn c.index_mut.result.now (sym c.self.invariant.eight) (omega arith) c.index_mut.ensures.value in
    shape_turns (event_at d.plan d.thread turn) d.thread turn c.args.index c.index_mut.result.now refl (c.self.invariant.each turn c.index_mut.result.now at)

pub invariant_of-self : goal.invariant_of-self
invariant_of-self c =
    let d = c.self.inside in
    let turn = c.args.index % 8 in
    let at = slice_get_read d.shapes.items 8 turn c.index_mut.result.now (sym c.self.invariant.eight) (omega arith) c.index_mut.ensures.value in
    let event = (c.self.invariant.each turn c.index_mut.result.now at).event_is ∙ event_again d.plan d.thread c.args.index in
    shapes_set d.plan d.thread d.shapes.items turn c.args.index c.renumber.new.write refl
    (c.renumber.ensures ∙ ap (λ (e : ℕ). write_of e d.thread c.args.index) event) c.self.invariant

pub returns : goal.returns
returns c =
    let d = c.self.inside in
    let turn = c.args.index % 8 in
    let inside : turn < length d.shapes.items = let long = c.self.invariant.eight in omega arith in
    let at = slice_get_read d.shapes.items 8 turn c.index_mut.result.now (sym c.self.invariant.eight) (omega arith) c.index_mut.ensures.value in
    let event = (c.self.invariant.each turn c.index_mut.result.now at).event_is ∙ event_again d.plan d.thread c.args.index in (
      (refl, (λ _. tt), c.self.view_is),
      record {
        write = c.index.ensures ∙ get_or-set_same d.shapes.items turn c.renumber.new.write c.index.result.now inside
            ∙ c.renumber.ensures ∙ ap (λ (e : ℕ). write_of e d.thread c.args.index) event
            ∙ ap (λ (draft : Drafted). nth draft.plan draft.thread c.args.index) c.self.view_is;
        after = tt;
      },
    )
