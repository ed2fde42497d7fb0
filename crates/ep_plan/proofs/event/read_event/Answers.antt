use Rattle.std.proofs.Common.{None, Some, sym, ◌∙◌}
use Rattle.std.proofs.lemmas.Result.{err_from_is_err_and}
use Rattle.ep_plan.specs.Lines.{definition_parts, bad_at}
use Rattle.ep_plan.specs.Cursor.{left}
use Rattle.ep_plan.proofs.CursorWords.{through}
use Rattle.ep_plan.proofs.EventWords.{late, word-bad, def-judged, whole-line}
use Rattle.ep_plan.specs.declared.line.LineKind.TheVariants as kind
use Rattle.ep_plan.proofs.event.read_event.Goals as goal

pub returns-then-stepped-clause-bad : goal.returns-then-stepped-clause-bad
returns-then-stepped-clause-bad c = whole-line c.args.words.now.line _ c.bad.result kind.LateEvent c.bad.ensures (late c.args.events.now c.args.stepped c.args.words.now.past (left c.args.words.now) c.if-stepped.true)

pub returns-in_err-index-clause-bad : goal.returns-in_err-index-clause-bad
returns-in_err-index-clause-bad c = λ at column why e.
    let bad = c.in_err-index.ensures.bad at column why (through c.from_residual.result c.in_err-index.field-0.0 (err_from_is_err_and c.from_residual.result c.from_residual.ensures.1) at column why e) in
    (bad.line_is, word-bad c.args.events.now c.args.stepped c.args.words.now (bad_at column why) c.if-stepped.false c.requires.behind_event (bad.bad definition_parts 0))

pub returns-in_err-def-clause-bad : goal.returns-in_err-def-clause-bad
returns-in_err-def-clause-bad c = λ at column why e.
    let took = c.in_ok-index.ensures.took.1 in
    let bad = c.in_err-def.ensures.bad at column why (through c.from_residual-in_err-def.result c.in_err-def.field-0.0 (err_from_is_err_and c.from_residual-in_err-def.result c.from_residual-in_err-def.ensures.1) at column why e) in
    (bad.0 ∙ took.line, word-bad c.args.events.now c.args.stepped c.args.words.now (bad_at column why) c.if-stepped.false c.requires.behind_event (took.bad definition_parts 0 ∙ bad.1))

pub returns-in-Some-clause-bad : goal.returns-in-Some-clause-bad
returns-in-Some-clause-bad c =
    let took = c.in_ok-index.ensures.took in
    let def = c.in_ok-def.ensures in
    let line = def.line ∙ took.1.line in
    let told = c.bad-in-Some.ensures in
    whole-line c.args.words.now.line _ c.bad-in-Some.result c.in-Some.kind (cc)
    (def-judged c.args.events.now c.args.stepped c.args.words.now (left c.index.new.self) took.0 c.in_ok-def.def (Some c.in-Some.kind) c.if-stepped.false c.requires.behind_event (took.1.bad definition_parts 0 ∙ def.good) took.1.words def.read
    (sym c.definition_fault.ensures ∙ c.in-Some.is))

pub returns-in-None-clause-good : goal.returns-in-None-clause-good
returns-in-None-clause-good c =
    let took = c.in_ok-index.ensures.took in
    let def = c.in_ok-def.ensures in
    def-judged c.args.events.now c.args.stepped c.args.words.now (left c.index.new.self) took.0 c.in_ok-def.def None c.if-stepped.false c.requires.behind_event (took.1.bad definition_parts 0 ∙ def.good) took.1.words def.read
    (sym c.definition_fault.ensures ∙ c.in-None.is)
