-- How the command ended.
use Rattle.std.proofs.Common.{ap, ◌∙◌, inl, inr}
use Rattle.std.specs.Prelude.{Err}
use Rattle.pt_events.proofs.Ending.{done, undone, refused, broke, spent, spent-end, unread, unwritten}
use Rattle.pt_events.proofs.command.write_events.Goals as goal

pub write_pieces-requires-clause-fresh : goal.write_pieces-requires-clause-fresh
write_pieces-requires-clause-fresh g c = c.new-reading.ensures.read c.args.form

pub returns-in-Ok : goal.returns-in-Ok
returns-in-Ok g c =
    let source = g.I.Source in
    let sink = g.O.Sink in
    let form = c.args.form in
    let all = c.in-Ok.ensures.all in
    let bytes = all.0 in
    let lines = all.1 in
    let input = c.write_pieces.new.input in
    let output = c.write_pieces.new.output in
    let told = c.write_pieces.ensures.told in
    let is = c.in-Ok.is in
    let sound = c.write_pieces.ensures.read (λ wrong. cc) in
    elim (c.write_end.ensures bytes lines all.2) [
      | inl end ↦
          elim end.1 [
            | inl said ↦ done source sink form c.args.input.now input c.args.output.now output c.write_end.new.output bytes lines _ all.3 sound told all.4 end.0 said.0 said.1
            | inr said ↦ undone source sink form c.args.input.now input c.args.output.now output c.write_end.new.output bytes lines _ all.3 sound told all.4 end.0 said.0 said.1
          ]
      | inr (inl end) ↦
          elim end.2 [
            | inl said ↦ refused source sink form c.args.input.now input c.args.output.now output c.write_end.new.output bytes lines _ end.0 all.3 sound told all.4 end.1 said.0 said.1
            | inr said ↦ broke source sink form c.args.input.now input c.args.output.now output c.write_end.new.output bytes lines _ end.0 all.3 sound told all.4 end.1 said.0 said.1
          ]
      | inr (inr end) ↦ spent-end source sink form c.args.input.now input c.args.output.now output c.write_end.new.output bytes lines c.write_pieces.new.reading _ all.2 all.3 sound all.4 end.0 end.1
    ]

pub returns : goal.returns
returns g c =
    let source = g.I.Source in
    let sink = g.O.Sink in
    let form = c.args.form in
    let input = c.write_pieces.new.input in
    let output = c.write_pieces.new.output in
    let called = c.write_pieces.ensures in
    elim c.in-Err.ensures.end [
      | inl is ↦
          let e = c.in-Err.is ∙ ap Err is in
          let kept = called.unread e in
          unread source sink form c.args.input.now input c.args.output.now output output kept.0 _ kept.1 (called.fault e) kept.2 is
      | inr (inl is) ↦
          let e = c.in-Err.is ∙ ap Err is in
          let kept = called.part e in
          unwritten source sink form c.args.input.now input c.args.output.now output output kept.0 _ kept.1 (called.read (λ wrong. cc)) kept.2 is
      | inr (inr is) ↦
          let e = c.in-Err.is ∙ ap Err is in
          let kept = called.memory e in
          spent source sink form c.args.input.now input c.args.output.now output output kept.0 _ kept.1 (called.read (λ wrong. cc)) kept.2 is
    ]
