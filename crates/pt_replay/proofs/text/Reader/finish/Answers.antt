-- What was refused is so, and behind a line feed nothing is left to judge.
use Rattle.std.proofs.Common.{◌≡◌, ◌∙◌, sym, length, arith}
use Rattle.std.specs.Prelude.{vec_len}
use Rattle.std.proofs.lemmas.Bool.{eqb-true}
use Rattle.std.proofs.lemmas.List.{nil_from_length}
use Rattle.ep_model.proofs.Lists.{none_is}
use Rattle.pt_replay.proofs.ReadSoFar.{so_far-good, good-judged, refused-judged, last-none}
use Rattle.pt_replay.proofs.text.Reader.finish.Goals as goal
use Rattle.pt_replay.proofs.text.Reader.finish.Goals.{then-is_some-via-then-is_some, then-is_some-via-else-is_some+then-is_empty}

pub returns-then-is_some : goal.returns-then-is_some
returns-then-is_some c = λ bytes read.
    let reader = c.args.self.now in
    elim c.then-is_some.branch [
      | then-is_some-via-then-is_some w ↦ refused-judged bytes reader.schedule reader.part.items reader.refusal (sym c.is_some.ensures ∙ w.if-is_some.true) read
      | then-is_some-via-else-is_some+then-is_empty w ↦
          let none = none_is reader.refusal (sym c.is_some.ensures ∙ w.if-is_some.false) in
          let good = so_far-good bytes reader.schedule reader.part.items reader.refusal none read in
          let empty : vec_len reader.part ≡ 0 = eqb-true (vec_len reader.part) 0 (sym w.is_empty.ensures ∙ w.if-is_empty.true) in
          let none_left : length reader.part.items ≡ 0 = omega (arith, empty) in
          good-judged bytes reader.schedule reader.refusal none good.lines (last-none bytes reader.schedule reader.part.items good (nil_from_length reader.part.items none_left)) good.stands
    ]
