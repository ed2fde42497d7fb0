-- A line is judged where it stands in a piece, or behind the part of it that came before.
use Rattle.std.proofs.Common.{◌≡◌, [], ◌∷◌, ◌++◌, ◌∙◌, ap, not, length, sym, subst, arith}
use Rattle.std.specs.Prelude.{vec_len}
use Rattle.std.proofs.lemmas.Bool.{eqb-true}
use Rattle.std.proofs.lemmas.Result.{on_ok_weaker}
use Rattle.ep_model.proofs.Lists.{none_is}
use Rattle.std.proofs.lemmas.List.{nil_from_length}
use Rattle.pt_replay.specs.Reading.{AreGoodSoFar, IsLineJudged, IsSoFar}
use Rattle.pt_replay.proofs.ReadSoFar.{so_far-good, read-whole, refused-on}
use Rattle.pt_replay.proofs.text.Reader.take_line.Goals as goal

pub judge-requires-clause-good : goal.judge-requires-clause-good
judge-requires-clause-good c = none_is c.args.self.now.refusal (c.is_none.ensures ∙ ap not c.if-is_none.true)

pub returns-then-text-le-LINE_BYTES-clause-read : goal.returns-then-text-le-LINE_BYTES-clause-read
returns-then-text-le-LINE_BYTES-clause-read c = λ bytes read.
    let reader = c.args.self.now in
    let text = c.args.text.now in
    let none = none_is reader.refusal (c.is_none.ensures ∙ ap not c.if-is_none.true) in
    let empty : vec_len reader.part ≡ 0 = eqb-true (vec_len reader.part) 0 (sym c.is_empty.ensures ∙ c.if-is_empty.true) in
    let none_left : length reader.part.items ≡ 0 = omega (arith, empty) in
    let nothing : reader.part.items ≡ [] = nil_from_length reader.part.items none_left in
    let good = subst (λ part. AreGoodSoFar bytes reader.schedule part) nothing (so_far-good bytes reader.schedule reader.part.items reader.refusal none read) in
    let so_far : IsLineJudged good.lines text c.judge.new.schedule c.judge.new.refusal → IsSoFar ((bytes ++ text) ++ 10 ∷ []) c.judge.new.schedule reader.part.items c.judge.new.refusal = λ judged.
    subst (λ part. IsSoFar ((bytes ++ text) ++ 10 ∷ []) c.judge.new.schedule part c.judge.new.refusal) (sym nothing)
    (read-whole bytes reader.schedule good text c.requires.no_feed (omega (arith, c.if-text-le-LINE_BYTES.true)) c.judge.new.schedule c.judge.new.refusal judged) in
    on_ok_weaker c.judge.result so_far (c.judge.ensures.judged good.lines good.stands)

pub returns-then-is_some-clause-read : goal.returns-then-is_some-clause-read
returns-then-is_some-clause-read c = λ bytes read.
    let reader = c.take_part.new.self in
    refused-on (bytes ++ c.args.text.now) (10 ∷ []) reader.schedule reader.part.items reader.refusal (sym c.is_some.ensures ∙ c.if-is_some.true)
    (c.in_ok-take_part.ensures.read bytes read)

pub end_line-requires-clause-read : goal.end_line-requires-clause-read
end_line-requires-clause-read c =
    let before = c.requires.read in
    (before.0 ++ c.args.text.now, c.in_ok-take_part.ensures.read before.0 before.1)

pub returns-clause-read : goal.returns-clause-read
returns-clause-read c = λ bytes read. c.end_line.ensures.read (bytes ++ c.args.text.now) (c.in_ok-take_part.ensures.read bytes read)
