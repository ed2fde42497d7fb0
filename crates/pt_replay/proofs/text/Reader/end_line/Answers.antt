-- The line is a good one or is refused, behind the lines before it.
use Rattle.std.proofs.Common.{[], ◌∷◌, ◌++◌, sym, subst}
use Rattle.pt_replay.specs.Reading.{IsLineJudged, IsSoFar}
use Rattle.pt_replay.proofs.ReadSoFar.{so_far-good, read-judged, last-judged}
use Rattle.pt_replay.proofs.text.Reader.end_line.Goals as goal

pub returns-clause-read : goal.returns-clause-read
returns-clause-read c = λ bytes read.
    let reader = c.args.self.now in
    let good = so_far-good bytes reader.schedule reader.part.items reader.refusal c.requires.good read in
    let judged = subst (λ text. IsLineJudged good.lines text c.judge.new.schedule c.judge.new.refusal) c.deref.ensures.value (c.in_ok-judge.ensures.judged good.lines good.stands) in
    subst (λ part. IsSoFar (bytes ++ 10 ∷ []) c.judge.new.schedule part c.judge.new.refusal) (sym c.clear.ensures.items)
    (read-judged bytes reader.schedule reader.part.items good c.judge.new.schedule c.judge.new.refusal judged)

pub returns-clause-last : goal.returns-clause-last
returns-clause-last c = λ bytes read some.
    let reader = c.args.self.now in
    let good = so_far-good bytes reader.schedule reader.part.items reader.refusal c.requires.good read in
    let judged = subst (λ text. IsLineJudged good.lines text c.judge.new.schedule c.judge.new.refusal) c.deref.ensures.value (c.in_ok-judge.ensures.judged good.lines good.stands) in
    last-judged bytes reader.schedule reader.part.items good c.judge.new.schedule c.judge.new.refusal some judged
