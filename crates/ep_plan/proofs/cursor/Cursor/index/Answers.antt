use Rattle.std.proofs.Common.{◌⊎◌, ◌+◌, ◌<◌, ◌≢◌, inl, inr, sym, ap, ◌∙◌, arith}
use Rattle.std.proofs.lemmas.Result.{err_from_is_err_and}
use Rattle.ep_defs.specs.declared.limits.TheConstants.{EVENTS}
use Rattle.ep_plan.specs.Lines.{Index, order_fault}
use Rattle.ep_plan.proofs.CursorWords.{took-part, is-bad, through, order-good, order-bad}
use Rattle.ep_plan.proofs.cursor.Cursor.index.Goals.{then-index-defined-via-then-index-defined, then-index-defined-via-else-index-defined+then-index}
use Rattle.ep_plan.specs.declared.line.LineKind.TheVariants as kind
use Rattle.ep_plan.proofs.cursor.Cursor.index.Goals as goal

pub returns-in_err-word-clause-bad : goal.returns-in_err-word-clause-bad
returns-in_err-word-clause-bad c = λ at column why e.
    c.in_err-word.ensures.bad at column why (through c.from_residual.result c.in_err-word.field-0.0 (err_from_is_err_and c.from_residual.result c.from_residual.ensures.1) at column why e) (Index (c.args.defined + 1))

pub returns-in_default-clause-bad : goal.returns-in_default-clause-bad
returns-in_default-clause-bad c = is-bad (Index (c.args.defined + 1)) _ _ _ _ _ kind.Number c.in_ok-word.ensures.took (ap (order_fault (c.args.defined + 1)) (sym c.number.ensures ∙ c.in_default.is)) c.bad.ensures c.column-column.ensures

pub returns-then-index-defined-clause-bad : goal.returns-then-index-defined-clause-bad
returns-then-index-defined-clause-bad c =
    let next = c.args.defined + 1 in
    let index = c.in-Some.index in
    let other : (index ≢ next) ⊎ (EVENTS < index) = elim c.then-index-defined.branch [ then-index-defined-via-then-index-defined w ↦ inl (λ e. absurd (omega arith)) | then-index-defined-via-else-index-defined+then-index w ↦ inr (omega arith) ] in
    is-bad (Index next) _ _ _ _ _ kind.EventOrder c.in_ok-word.ensures.took (ap (order_fault next) (sym c.number.ensures ∙ c.in-Some.is) ∙ order-bad next index other) c.bad-then-index-defined.ensures c.column-column.ensures

pub returns-clause-took : goal.returns-clause-took
returns-clause-took c =
    let next = c.args.defined + 1 in
    let index = c.in-Some.index in
    (c.in_ok-word.word.now, took-part (Index next) _ _ _ c.in_ok-word.ensures.took (ap (order_fault next) (sym c.number.ensures ∙ c.in-Some.is) ∙ order-good next index (omega arith) (omega arith)), sym c.number.ensures ∙ c.in-Some.is)
