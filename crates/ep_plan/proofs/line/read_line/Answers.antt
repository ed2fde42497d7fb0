use Rattle.std.proofs.Common.{◌≡◌, Some, sym, ap, ◌∙◌}
use Rattle.std.proofs.lemmas.Result.{err_from_is_err_and}
use Rattle.ep_plan.specs.Lines.{bad_at}
use Rattle.ep_plan.proofs.CursorWords.{through}
use Rattle.ep_plan.proofs.WholeLines.{long, blank-line, verb-first, verb-line}
use Rattle.ep_plan.specs.declared.line.LineKind.TheVariants as kind
use Rattle.ep_plan.proofs.line.read_line.Goals as goal

pub returns-then-is_blank-clause-read : goal.returns-then-is_blank-clause-read
returns-then-is_blank-clause-read c = blank-line c.args.events.now c.args.stepped c.args.text.now c.if-text-gt-LINE_BYTES.false (sym c.if-is_blank.ensures)

pub returns-then-text-gt-LINE_BYTES-clause-bad : goal.returns-then-text-gt-LINE_BYTES-clause-bad
returns-then-text-gt-LINE_BYTES-clause-bad c = λ at column why e.
    let line : at ≡ c.args.line = cc in
    let answer : bad_at 1 kind.Long ≡ bad_at column why = cc in
    (line, long c.args.events.now c.args.stepped c.args.text.now c.if-text-gt-LINE_BYTES.true ∙ ap Some answer)

pub returns-in_err-read_words-in-Some-clause-bad : goal.returns-in_err-read_words-in-Some-clause-bad
returns-in_err-read_words-in-Some-clause-bad c = λ at column why e.
    let bad = c.in_err-read_words-in-Some.ensures.bad at column why (through c.from_residual.result c.in_err-read_words-in-Some.field-0.0 (err_from_is_err_and c.from_residual.result c.from_residual.ensures.1) at column why e) in
    let took = c.in-Some.ensures in (
      bad.0 ∙ took.line ∙ c.new-words.ensures.line,
      verb-first c.args.events.now c.args.stepped c.args.text.now c.new-words.result c.verb.new.self c.in-Some.verb c.if-text-gt-LINE_BYTES.false (sym c.if-is_blank.ensures) c.new-words.ensures.words c.new-words.ensures.column c.new-words.ensures.past took
          ∙ bad.1,
    )

pub returns-in_ok-read_words-in-Some-clause-read : goal.returns-in_ok-read_words-in-Some-clause-read
returns-in_ok-read_words-in-Some-clause-read c =
    let read = c.in_ok-read_words-in-Some.ensures in
    verb-line c.args.events.now c.args.stepped c.args.text.now c.new-words.result c.verb.new.self c.in-Some.verb c.in_ok-read_words-in-Some.field-0 c.if-text-gt-LINE_BYTES.false (sym c.if-is_blank.ensures) c.new-words.ensures.words c.new-words.ensures.column c.new-words.ensures.past c.in-Some.ensures read.good read.read
