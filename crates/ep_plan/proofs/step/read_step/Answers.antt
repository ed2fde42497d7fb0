use Rattle.std.proofs.Common.{List, ℕ, ◌∷◌, IfOk, sym, subst, ◌∙◌}
use Rattle.ep_plan.specs.Lines.{Spells}
use Rattle.ep_plan.specs.Cursor.{left}
use Rattle.ep_plan.proofs.Forms.{verb-name, verb-form, no-verb, good-through, no-word}
use Rattle.ep_plan.proofs.step.read_step.Goals as goal

pub returns-in-Some-clause-read : goal.returns-in-Some-clause-read
returns-in-Some-clause-read c =
    let whole : List ℕ → Type 0 = λ name. IfOk c.read_words.result (λ step. Spells (name ∷ left c.args.words.now) step) in
    subst whole (sym (verb-name c.args.first.now c.in-Some.verb (sym c.named.ensures ∙ c.in-Some.is))) c.read_words.ensures.read

pub returns-in-Some-clause-good : goal.returns-in-Some-clause-good
returns-in-Some-clause-good c =
    good-through c.read_words.result _ _ (verb-form c.args.words.now c.args.first.now c.in-Some.verb (sym c.named.ensures ∙ c.in-Some.is) c.requires) c.read_words.ensures.good

pub returns-in-Some-clause-bad : goal.returns-in-Some-clause-bad
returns-in-Some-clause-bad c = λ at column why e.
    let bad = c.read_words.ensures.bad at column why e in
    (bad.0, verb-form c.args.words.now c.args.first.now c.in-Some.verb (sym c.named.ensures ∙ c.in-Some.is) c.requires ∙ bad.1)

pub returns-in-None-clause-bad : goal.returns-in-None-clause-bad
returns-in-None-clause-bad c =
    no-word c.args.words.now c.args.first.now c.bad.result c.bad.ensures (no-verb c.args.words.now.past c.args.first.now (left c.args.words.now) (sym c.named.ensures ∙ c.in-None.is))
