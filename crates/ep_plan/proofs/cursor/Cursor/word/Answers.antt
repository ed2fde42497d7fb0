use Rattle.ep_plan.proofs.CursorWords.{is-missing, is-empty, took-word, tells-word, no-word_over, no-word_empty}
use Rattle.std.proofs.Common.{refl, sym, ◌∙◌}
use Rattle.ep_plan.proofs.cursor.Cursor.word.Goals as goal

pub returns-in_default-clause-bad : goal.returns-in_default-clause-bad
returns-in_default-clause-bad c = λ at column why e part. is-missing part c.args.self.now c.bad.result c.column-column.result c.in_default.is c.bad.ensures c.column-column.ensures at column why e

pub returns-then-is_empty-clause-bad : goal.returns-then-is_empty-clause-bad
returns-then-is_empty-clause-bad c = λ at column why e part. is-empty part c.args.self.now c.in-Some.text c.first_part.result.0.now _ c.bad-then-is_empty.result c.column-column.result c.in-Some.is c.first_part.ensures.parts (sym c.is_empty.ensures ∙ c.if-is_empty.true) c.bad-then-is_empty.ensures c.column-column.ensures at column why e

pub returns-clause-took : goal.returns-clause-took
returns-clause-took c = took-word c.args.self.now _ c.in-Some.text c.first_part.result.0.now refl refl c.in-Some.is c.first_part.ensures.parts c.first_part.ensures.lengths (sym c.is_empty.ensures ∙ c.if-is_empty.false)

pub returns-in_default-clause-no_word : goal.returns-in_default-clause-no_word
returns-in_default-clause-no_word c = λ at column why e.
    let told = tells-word c.args.self.now c.bad.result c.column-column.result c.bad.ensures c.column-column.ensures at column why e in
    (told.0, told.1, no-word_over c.args.self.now c.in_default.is)

pub returns-then-is_empty-clause-no_word : goal.returns-then-is_empty-clause-no_word
returns-then-is_empty-clause-no_word c = λ at column why e.
    let told = tells-word c.args.self.now c.bad-then-is_empty.result c.column-column.result c.bad-then-is_empty.ensures c.column-column.ensures at column why e in
    (told.0, told.1, no-word_empty c.args.self.now c.in-Some.text c.first_part.result.0.now _ c.in-Some.is c.first_part.ensures.parts (sym c.is_empty.ensures ∙ c.if-is_empty.true))
