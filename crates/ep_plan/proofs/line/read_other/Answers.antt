use Rattle.std.proofs.Common.{◌≡◌, ◌+◌, ℕ, List, ◌∷◌, length, codes, Some, sym, ap, ◌∙◌, subst}
use Rattle.std.proofs.lemmas.Result.{err_from_is_err_and}
use Rattle.ep_plan.specs.Lines.{Number, bad_at, Means, event_bad, step_bad, Spells}
use Rattle.ep_plan.specs.Words.{words_of}
use Rattle.ep_plan.specs.Cursor.{left, has_word}
use Rattle.ep_plan.proofs.CursorWords.{through}
use Rattle.ep_plan.proofs.Forms.{named, unnamed}
use Rattle.ep_plan.proofs.WholeLines.{worded, event-first, step-first, empty-first}
use Rattle.ep_plan.specs.declared.line.LineKind.TheVariants as kind
use Rattle.ep_plan.proofs.line.read_other.Goals as goal

pub returns-in_err-first-clause-bad : goal.returns-in_err-first-clause-bad
returns-in_err-first-clause-bad c = λ at column why e.
    let fault = through c.from_residual.result c.in_err-first.field-0.0 (err_from_is_err_and c.from_residual.result c.from_residual.ensures.1) at column why e in
    let bad = c.in_err-first.ensures.bad at column why fault Number in
    let told = c.in_err-first.ensures.no_word at column why fault in
    let place : column ≡ 1 = told.0 ∙ c.new-words.ensures.column in
    let word : why ≡ kind.Word = told.1 in
    let answer : bad_at 1 kind.Word ≡ bad_at column why = cc in
    let empty = ap has_word (sym c.new-words.ensures.words) ∙ told.2 in
    (bad.line_is ∙ c.new-words.ensures.line, empty-first c.args.events.now c.args.stepped c.args.text.now c.requires.short c.requires.words empty ∙ ap Some answer)

pub returns-in_err-index-clause-bad : goal.returns-in_err-index-clause-bad
returns-in_err-index-clause-bad c = λ at column why e.
    let bad = c.in_err-index.ensures.bad at column why (through c.from_residual-in_err-index.result c.in_err-index.field-0.0 (err_from_is_err_and c.from_residual-in_err-index.result c.from_residual-in_err-index.ensures.1) at column why e) in
    let took = c.in_ok-first.ensures.took in
    let first = c.in_ok-first.first.now in
    let name = named first c.as_slice.result.now (codes "event") c.if-eq.ensures c.as_slice.ensures in
    let past : length c.args.text.now + 1 ≡ c.word.new.self.past = sym (took.past ∙ c.new-words.ensures.past) in
    let end = ap (λ p. event_bad c.args.events.now c.args.stepped p (left c.word.new.self)) past in (
      bad.0 ∙ took.line ∙ c.new-words.ensures.line,
      worded c.args.events.now c.args.stepped c.args.text.now (first ∷ left c.word.new.self) c.requires.short c.requires.words (sym c.new-words.ensures.words ∙ took.words)
          ∙ event-first c.args.events.now c.args.stepped (length c.args.text.now + 1) first (left c.word.new.self) name ∙ end ∙ bad.1,
    )

pub returns-then-eq-clause-read : goal.returns-then-eq-clause-read
unfolding Means
returns-then-eq-clause-read c =
    let took = c.in_ok-first.ensures.took in
    let read = c.in_ok-index.ensures.read in
    let first = c.in_ok-first.first.now in
    let name = named first c.as_slice.result.now (codes "event") c.if-eq.ensures c.as_slice.ensures in
    let past : length c.args.text.now + 1 ≡ c.word.new.self.past = sym (took.past ∙ c.new-words.ensures.past) in
    let end = ap (λ p. event_bad c.args.events.now c.args.stepped p (left c.word.new.self)) past in
    let cut = sym c.new-words.ensures.words ∙ took.words in
    let cut_rest = read.2 in
    let words : words_of c.args.text.now ≡ codes "event" ∷ read.0 ∷ read.1 = cc in
    record {
      good = worded c.args.events.now c.args.stepped c.args.text.now (first ∷ left c.word.new.self) c.requires.short c.requires.words cut
          ∙ event-first c.args.events.now c.args.stepped (length c.args.text.now + 1) first (left c.word.new.self) name ∙ end ∙ c.in_ok-index.ensures.good;
      meaning = (read.0, read.1, c.requires.words, words, read.3, read.4);
    }

pub returns-in_err-read_step-clause-bad : goal.returns-in_err-read_step-clause-bad
returns-in_err-read_step-clause-bad c = λ at column why e.
    let bad = c.in_err-read_step.ensures.bad at column why (through c.from_residual-in_err-read_step.result c.in_err-read_step.field-0.0 (err_from_is_err_and c.from_residual-in_err-read_step.result c.from_residual-in_err-read_step.ensures.1) at column why e) in
    let took = c.in_ok-first.ensures.took in
    let first = c.in_ok-first.first.now in
    let name = unnamed first c.as_slice.result.now (codes "event") c.if-eq.ensures c.as_slice.ensures in
    let past : length c.args.text.now + 1 ≡ c.word.new.self.past = sym (took.past ∙ c.new-words.ensures.past) in
    let end = ap (λ p. step_bad p first (left c.word.new.self)) past in (
      bad.0 ∙ took.line ∙ c.new-words.ensures.line,
      worded c.args.events.now c.args.stepped c.args.text.now (first ∷ left c.word.new.self) c.requires.short c.requires.words (sym c.new-words.ensures.words ∙ took.words)
          ∙ step-first c.args.events.now c.args.stepped (length c.args.text.now + 1) first (left c.word.new.self) name ∙ end ∙ bad.1,
    )

pub returns-clause-read : goal.returns-clause-read
unfolding Means
returns-clause-read c =
    let took = c.in_ok-first.ensures.took in
    let read = c.in_ok-read_step.ensures in
    let first = c.in_ok-first.first.now in
    let name = unnamed first c.as_slice.result.now (codes "event") c.if-eq.ensures c.as_slice.ensures in
    let past : length c.args.text.now + 1 ≡ c.word.new.self.past = sym (took.past ∙ c.new-words.ensures.past) in
    let end = ap (λ p. step_bad p first (left c.word.new.self)) past in
    let cut = sym c.new-words.ensures.words ∙ took.words in
    let spells : List (List ℕ) → Type 0 = λ words. Spells words c.in_ok-read_step.field-0 in
    record {
      good = worded c.args.events.now c.args.stepped c.args.text.now (first ∷ left c.word.new.self) c.requires.short c.requires.words cut
          ∙ step-first c.args.events.now c.args.stepped (length c.args.text.now + 1) first (left c.word.new.self) name ∙ end ∙ read.good;
      meaning = (c.requires.words, subst spells (sym cut) read.read);
    }
