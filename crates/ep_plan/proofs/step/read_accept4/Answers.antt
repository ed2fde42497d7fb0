use Rattle.std.proofs.Common.{◌≡◌, ◌∷◌, codes, inr}
use Rattle.ep_plan.specs.Lines.{Spells}
use Rattle.ep_plan.specs.Cursor.{left}
use Rattle.ep_plan.proofs.step.read_accept4.Goals as goal

pub returns-clause-read : goal.returns-clause-read
unfolding Spells
returns-clause-read c =
    let a = c.in_ok-session.ensures.took in
    let b = c.in_ok-chunks.ensures.took in
    let stacks = c.in_ok-stackwalk.ensures.took in
    let ends = c.in_ok-rundown.ensures.took in
    let first = a.1.words in
    let second = b.1.words in
    let third = stacks.1.words in
    let fourth = ends.1.words in
    let words : codes "accept4" ∷ left c.args.words.now ≡ codes "accept4" ∷ a.0 ∷ b.0 ∷ stacks.0 ∷ ends.0 ∷ left c.flag-2.new.self = cc in
    (a.0, b.0, left c.flag-2.new.self, inr (inr (stacks.0, ends.0, words, stacks.2, ends.2)), a.2, b.2, c.in_ok-rules.ensures.read)
