use Rattle.std.proofs.Common.{◌≡◌, ◌∷◌, codes, inl, inr, refl}
use Rattle.ep_plan.specs.Lines.{Spells}
use Rattle.ep_plan.specs.Cursor.{left}
use Rattle.ep_plan.proofs.step.read_accept3.Goals as goal

pub returns-clause-read : goal.returns-clause-read
unfolding Spells
returns-clause-read c =
    let a = c.in_ok-session.ensures.took in
    let b = c.in_ok-chunks.ensures.took in
    let flag = c.in_ok-stackwalk.ensures.took in
    let first = a.1.words in
    let second = b.1.words in
    let third = flag.1.words in
    let words : codes "accept3" ∷ left c.args.words.now ≡ codes "accept3" ∷ a.0 ∷ b.0 ∷ flag.0 ∷ left c.flag.new.self = cc in
    (a.0, b.0, left c.flag.new.self, inr (inl (flag.0, words, flag.2, refl)), a.2, b.2, c.in_ok-rules.ensures.read)
