use Rattle.std.proofs.Common.{◌≡◌, ◌∷◌, codes}
use Rattle.ep_plan.specs.Lines.{Spells}
use Rattle.ep_plan.specs.Cursor.{left}
use Rattle.ep_plan.proofs.step.read_begin.Goals as goal

pub returns-clause-read : goal.returns-clause-read
unfolding Spells
returns-clause-read c =
    let a = c.in_ok-thread.ensures.took in
    let b = c.in_ok-stamp.ensures.took in
    let first = a.1.words in
    let second = b.1.words in
    let words : codes "begin" ∷ left c.args.words.now ≡ codes "begin" ∷ a.0 ∷ b.0 ∷ left c.stamp.new.self = cc in
    (a.0, b.0, left c.stamp.new.self, words, a.2, b.2, c.in_ok-write.ensures.read)
