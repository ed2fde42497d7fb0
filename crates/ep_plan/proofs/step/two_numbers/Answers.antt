use Rattle.std.proofs.Common.{[], ◌∷◌, ap, ◌∙◌}
use Rattle.std.proofs.lemmas.Result.{err_from_is_err_and}
use Rattle.ep_plan.specs.Lines.{Number}
use Rattle.ep_plan.proofs.CursorWords.{through}
use Rattle.ep_plan.proofs.step.two_numbers.Goals as goal

pub returns-clause-read : goal.returns-clause-read
returns-clause-read c = λ name.
    let one = c.in_ok-first.ensures.took in
    let two = c.in_ok-second.ensures.took in
    (one.0, two.0, ap (λ words. name ∷ words) (one.1.words ∙ ap (λ words. one.0 ∷ words) (two.1.words ∙ ap (λ words. two.0 ∷ words) c.in_ok-end.ensures.end)), one.2, two.2)

pub returns-clause-good : goal.returns-clause-good
returns-clause-good c = c.in_ok-first.ensures.took.1.bad (Number ∷ []) 0 ∙ c.in_ok-second.ensures.took.1.bad [] 0 ∙ c.in_ok-end.ensures.good 0

pub returns-in_err-first-clause-bad : goal.returns-in_err-first-clause-bad
returns-in_err-first-clause-bad c = λ at column why e.
    let bad = c.in_err-first.ensures.bad at column why (through c.from_residual.result c.in_err-first.field-0.0 (err_from_is_err_and c.from_residual.result c.from_residual.ensures.1) at column why e) in
    (bad.line_is, bad.bad (Number ∷ []) 0)

pub returns-in_err-second-clause-bad : goal.returns-in_err-second-clause-bad
returns-in_err-second-clause-bad c = λ at column why e.
    let bad = c.in_err-second.ensures.bad at column why (through c.from_residual-in_err-second.result c.in_err-second.field-0.0 (err_from_is_err_and c.from_residual-in_err-second.result c.from_residual-in_err-second.ensures.1) at column why e) in
    (bad.line_is ∙ c.in_ok-first.ensures.took.1.line, c.in_ok-first.ensures.took.1.bad (Number ∷ []) 0 ∙ bad.bad [] 0)

pub returns-in_err-end-clause-bad : goal.returns-in_err-end-clause-bad
returns-in_err-end-clause-bad c = λ at column why e.
    let bad = c.in_err-end.ensures.bad at column why (through c.from_residual-in_err-end.result c.in_err-end.field-0.0 (err_from_is_err_and c.from_residual-in_err-end.result c.from_residual-in_err-end.ensures.1) at column why e) in
    (bad.0 ∙ c.in_ok-second.ensures.took.1.line ∙ c.in_ok-first.ensures.took.1.line, c.in_ok-first.ensures.took.1.bad (Number ∷ []) 0 ∙ c.in_ok-second.ensures.took.1.bad [] 0 ∙ bad.1)
