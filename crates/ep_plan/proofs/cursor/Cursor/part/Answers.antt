use Rattle.std.proofs.Common.{◌≡◌, Some, None, sym, ap, ◌∙◌}
use Rattle.std.proofs.lemmas.Result.{err_from_is_err_and, IfOk-at_ok}
use Rattle.ep_plan.specs.Lines.{unless}
use Rattle.ep_plan.proofs.CursorWords.{took-part, is-bad, through}
use Rattle.ep_plan.proofs.cursor.Cursor.part.Goals as goal

pub returns-in_err-word-clause-bad : goal.returns-in_err-word-clause-bad
returns-in_err-word-clause-bad g c = λ part spell reads line column kind e.
    c.in_err-word.ensures.bad line column kind (through c.from_residual.result c.in_err-word.field-0.0 (err_from_is_err_and c.from_residual.result c.from_residual.ensures.1) line column kind e) part

pub returns-in-Some-clause-took : goal.returns-in-Some-clause-took
returns-in-Some-clause-took g c = λ part spell reads.
    let word = c.in_ok-word.word.now in
    let read = IfOk-at_ok (λ read. read ≡ spell word) c.in_ok-value.was (reads.value c.in_ok-word.word c.read.result c.read.ensures) in
    let spelled : spell word ≡ Some c.in-Some.value = sym read ∙ c.in-Some.is in
    (word, took-part part _ _ _ c.in_ok-word.ensures.took (reads.fault word ∙ ap (λ o. unless o c.args.kind) spelled), spelled)

pub returns-in-None-clause-bad : goal.returns-in-None-clause-bad
returns-in-None-clause-bad g c = λ part spell reads.
    let word = c.in_ok-word.word.now in
    let read = IfOk-at_ok (λ read. read ≡ spell word) c.in_ok-value.was (reads.value c.in_ok-word.word c.read.result c.read.ensures) in
    let spelled : spell word ≡ None = sym read ∙ c.in-None.is in
    is-bad part _ _ _ _ _ c.args.kind c.in_ok-word.ensures.took (reads.fault word ∙ ap (λ o. unless o c.args.kind) spelled) c.bad.ensures c.column-column.ensures
