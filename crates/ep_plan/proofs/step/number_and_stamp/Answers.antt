use Rattle.std.proofs.Common.{[], ◌∷◌, ap, ◌∙◌}
use Rattle.std.proofs.lemmas.Result.{err_from_is_err_and}
use Rattle.ep_plan.specs.Lines.{Stamp}
use Rattle.ep_plan.proofs.CursorWords.{through}
use Rattle.ep_plan.proofs.step.number_and_stamp.Goals as goal

pub returns-clause-read : goal.returns-clause-read
returns-clause-read c = λ name.
    let one = c.in_ok-number.ensures.took in
    let two = c.in_ok-stamp.ensures.took in
    (one.0, two.0, ap (λ words. name ∷ words) (one.1.words ∙ ap (λ words. one.0 ∷ words) (two.1.words ∙ ap (λ words. two.0 ∷ words) c.in_ok-end.ensures.end)), one.2, two.2)

pub returns-clause-good : goal.returns-clause-good
returns-clause-good c = c.in_ok-number.ensures.took.1.bad (Stamp ∷ []) 0 ∙ c.in_ok-stamp.ensures.took.1.bad [] 0 ∙ c.in_ok-end.ensures.good 0

pub returns-in_err-number-clause-bad : goal.returns-in_err-number-clause-bad
returns-in_err-number-clause-bad c = λ at column why e.
    let bad = c.in_err-number.ensures.bad at column why (through c.from_residual.result c.in_err-number.field-0.0 (err_from_is_err_and c.from_residual.result c.from_residual.ensures.1) at column why e) in
    (bad.line_is, bad.bad (Stamp ∷ []) 0)

pub returns-in_err-stamp-clause-bad : goal.returns-in_err-stamp-clause-bad
returns-in_err-stamp-clause-bad c = λ at column why e.
    let bad = c.in_err-stamp.ensures.bad at column why (through c.from_residual-in_err-stamp.result c.in_err-stamp.field-0.0 (err_from_is_err_and c.from_residual-in_err-stamp.result c.from_residual-in_err-stamp.ensures.1) at column why e) in
    (bad.line_is ∙ c.in_ok-number.ensures.took.1.line, c.in_ok-number.ensures.took.1.bad (Stamp ∷ []) 0 ∙ bad.bad [] 0)

pub returns-in_err-end-clause-bad : goal.returns-in_err-end-clause-bad
returns-in_err-end-clause-bad c = λ at column why e.
    let bad = c.in_err-end.ensures.bad at column why (through c.from_residual-in_err-end.result c.in_err-end.field-0.0 (err_from_is_err_and c.from_residual-in_err-end.result c.from_residual-in_err-end.ensures.1) at column why e) in
    (bad.0 ∙ c.in_ok-stamp.ensures.took.1.line ∙ c.in_ok-number.ensures.took.1.line, c.in_ok-number.ensures.took.1.bad (Stamp ∷ []) 0 ∙ c.in_ok-stamp.ensures.took.1.bad [] 0 ∙ bad.1)
