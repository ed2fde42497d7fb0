use Rattle.std.proofs.Common.{◌≡◌, [], ◌∷◌, ◌++◌, ◌∙◌}
use Rattle.std.proofs.lemmas.Result.{err_from_is_err_and}
use Rattle.ep_plan.specs.Lines.{Name, Fields, number_parts}
use Rattle.ep_plan.specs.Cursor.{left}
use Rattle.ep_plan.proofs.CursorWords.{through}
use Rattle.ep_plan.proofs.Forms.{definition-is}
use Rattle.ep_plan.proofs.event.read_definition.Goals as goal

pub returns-clause-read : goal.returns-clause-read
returns-clause-read c =
    let p = c.in_ok-provider.ensures.took in
    let numbers = c.in_ok-id.ensures.took in
    let rest = c.in_ok-name.ensures.read in
    let all = numbers.4.words in
    let cut : left c.args.words.now ≡ p.0 ∷ numbers.0 ∷ numbers.1 ∷ numbers.2 ∷ numbers.3 ∷ rest.0 ∷ rest.1 ∷ [] = cc (p.1.words, all, rest.2) in
    definition-is (left c.args.words.now) p.0 numbers.0 numbers.1 numbers.2 numbers.3 rest.0 rest.1 _ cut p.2 numbers.5 numbers.6 numbers.7 numbers.8 rest.3 rest.4

pub returns-clause-good : goal.returns-clause-good
returns-clause-good c = c.in_ok-provider.ensures.took.1.bad (number_parts ++ Name ∷ Fields ∷ []) 0 ∙ c.in_ok-id.ensures.took.4.bad (Name ∷ Fields ∷ []) 0 ∙ c.in_ok-name.ensures.good

pub returns-in_err-provider-clause-bad : goal.returns-in_err-provider-clause-bad
returns-in_err-provider-clause-bad c = λ at column why e.
    let bad = c.in_err-provider.ensures.bad at column why (through c.from_residual.result c.in_err-provider.field-0.0 (err_from_is_err_and c.from_residual.result c.from_residual.ensures.1) at column why e) in
    (bad.line_is, bad.bad (number_parts ++ Name ∷ Fields ∷ []) 0)

pub returns-in_err-id-clause-bad : goal.returns-in_err-id-clause-bad
returns-in_err-id-clause-bad c = λ at column why e.
    let first = c.in_ok-provider.ensures.took.1 in
    let bad = c.in_err-id.ensures.bad at column why (through c.from_residual-in_err-id.result c.in_err-id.field-0.0 (err_from_is_err_and c.from_residual-in_err-id.result c.from_residual-in_err-id.ensures.1) at column why e) in
    (bad.line_is ∙ first.line, first.bad (number_parts ++ Name ∷ Fields ∷ []) 0 ∙ bad.bad (Name ∷ Fields ∷ []) 0)

pub returns-in_err-name-clause-bad : goal.returns-in_err-name-clause-bad
returns-in_err-name-clause-bad c = λ at column why e.
    let first = c.in_ok-provider.ensures.took.1 in
    let numbers = c.in_ok-id.ensures.took.4 in
    let bad = c.in_err-name.ensures.bad at column why (through c.from_residual-in_err-name.result c.in_err-name.field-0.0 (err_from_is_err_and c.from_residual-in_err-name.result c.from_residual-in_err-name.ensures.1) at column why e) in
    (bad.0 ∙ numbers.line ∙ first.line, first.bad (number_parts ++ Name ∷ Fields ∷ []) 0 ∙ numbers.bad (Name ∷ Fields ∷ []) 0 ∙ bad.1)
