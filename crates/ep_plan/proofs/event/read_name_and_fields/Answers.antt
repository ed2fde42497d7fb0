use Rattle.std.proofs.Common.{[], ◌∷◌, ap, ◌∙◌}
use Rattle.std.proofs.lemmas.Result.{err_from_is_err_and}
use Rattle.ep_plan.specs.Lines.{Fields}
use Rattle.ep_plan.proofs.CursorWords.{through}
use Rattle.ep_plan.proofs.event.read_name_and_fields.Goals as goal

pub returns-clause-read : goal.returns-clause-read
returns-clause-read c =
    let first = c.in_ok-name.ensures.took in
    let second = c.in_ok-fields.ensures.took in
    (first.0, second.0, first.1.words ∙ ap (λ words. first.0 ∷ words) (second.1.words ∙ ap (λ words. second.0 ∷ words) c.in_ok-end.ensures.end), first.2, second.2)

pub returns-clause-good : goal.returns-clause-good
returns-clause-good c = c.in_ok-name.ensures.took.1.bad (Fields ∷ []) 0 ∙ c.in_ok-fields.ensures.took.1.bad [] 0 ∙ c.in_ok-end.ensures.good 0

pub returns-in_err-name-clause-bad : goal.returns-in_err-name-clause-bad
returns-in_err-name-clause-bad c = λ at column why e.
    let bad = c.in_err-name.ensures.bad at column why (through c.from_residual.result c.in_err-name.field-0.0 (err_from_is_err_and c.from_residual.result c.from_residual.ensures.1) at column why e) in
    (bad.line_is, bad.bad (Fields ∷ []) 0)

pub returns-in_err-fields-clause-bad : goal.returns-in_err-fields-clause-bad
returns-in_err-fields-clause-bad c = λ at column why e.
    let first = c.in_ok-name.ensures.took.1 in
    let bad = c.in_err-fields.ensures.bad at column why (through c.from_residual-in_err-fields.result c.in_err-fields.field-0.0 (err_from_is_err_and c.from_residual-in_err-fields.result c.from_residual-in_err-fields.ensures.1) at column why e) in
    (bad.line_is ∙ first.line, first.bad (Fields ∷ []) 0 ∙ bad.bad [] 0)

pub returns-in_err-end-clause-bad : goal.returns-in_err-end-clause-bad
returns-in_err-end-clause-bad c = λ at column why e.
    let first = c.in_ok-name.ensures.took.1 in
    let second = c.in_ok-fields.ensures.took.1 in
    let bad = c.in_err-end.ensures.bad at column why (through c.from_residual-in_err-end.result c.in_err-end.field-0.0 (err_from_is_err_and c.from_residual-in_err-end.result c.from_residual-in_err-end.ensures.1) at column why e) in
    (bad.0 ∙ second.line ∙ first.line, first.bad (Fields ∷ []) 0 ∙ second.bad [] 0 ∙ bad.1)
