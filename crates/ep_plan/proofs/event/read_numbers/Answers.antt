use Rattle.std.proofs.lemmas.Result.{err_from_is_err_and}
use Rattle.ep_plan.specs.Lines.{Number, Keywords}
use Rattle.ep_plan.proofs.CursorWords.{through, took-one, took-first, bad-first, bad-later}
use Rattle.ep_plan.proofs.event.read_numbers.Goals as goal

pub returns-clause-took : goal.returns-clause-took
returns-clause-took c =
    let i = c.in_ok-id.ensures.took in
    let v = c.in_ok-version.ensures.took in
    let l = c.in_ok-level.ensures.took in
    let k = c.in_ok-keywords.ensures.took in
    let all = took-first Number _ _ _ _ i.0 _ i.1 (took-first Number _ _ _ _ v.0 _ v.1 (took-first Number _ _ _ _ l.0 _ l.1 (took-one Keywords _ _ k.0 k.1))) in
    (i.0, v.0, l.0, k.0, all, i.2, v.2, l.2, k.2)

pub returns-in_err-id-clause-bad : goal.returns-in_err-id-clause-bad
returns-in_err-id-clause-bad c = λ at column why e. bad-first Number _ _ _ _ _ (c.in_err-id.ensures.bad at column why (through c.from_residual.result c.in_err-id.field-0.0 (err_from_is_err_and c.from_residual.result c.from_residual.ensures.1) at column why e))

pub returns-in_err-version-clause-bad : goal.returns-in_err-version-clause-bad
returns-in_err-version-clause-bad c = λ at column why e. bad-later Number _ _ _ _ _ _ _ c.in_ok-id.ensures.took.1 (bad-first Number _ _ _ _ _ (c.in_err-version.ensures.bad at column why (through c.from_residual-in_err-version.result c.in_err-version.field-0.0 (err_from_is_err_and c.from_residual-in_err-version.result c.from_residual-in_err-version.ensures.1) at column why e)))

pub returns-in_err-level-clause-bad : goal.returns-in_err-level-clause-bad
returns-in_err-level-clause-bad c = λ at column why e. bad-later Number _ _ _ _ _ _ _ c.in_ok-id.ensures.took.1 (bad-later Number _ _ _ _ _ _ _ c.in_ok-version.ensures.took.1 (bad-first Number _ _ _ _ _ (c.in_err-level.ensures.bad at column why (through c.from_residual-in_err-level.result c.in_err-level.field-0.0 (err_from_is_err_and c.from_residual-in_err-level.result c.from_residual-in_err-level.ensures.1) at column why e))))

pub returns-in_err-keywords-clause-bad : goal.returns-in_err-keywords-clause-bad
returns-in_err-keywords-clause-bad c = λ at column why e. bad-later Number _ _ _ _ _ _ _ c.in_ok-id.ensures.took.1 (bad-later Number _ _ _ _ _ _ _ c.in_ok-version.ensures.took.1 (bad-later Number _ _ _ _ _ _ _ c.in_ok-level.ensures.took.1 (bad-first Keywords _ _ _ _ _ (c.in_err-keywords.ensures.bad at column why (through c.from_residual-in_err-keywords.result c.in_err-keywords.field-0.0 (err_from_is_err_and c.from_residual-in_err-keywords.result c.from_residual-in_err-keywords.ensures.1) at column why e)))))
