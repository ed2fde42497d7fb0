use Rattle.std.proofs.Common.{◌≡◌, length, sym, ◌∙◌, rules}
use Rattle.std.specs.Prelude.{None, Err}
use Rattle.nt_blocks.specs.Verdict.{verdict}
use Rattle.nt_read.specs.Answers.{end_answer}
use Rattle.pt_events.proofs.Read.{listed-whole, cut-read, cut-item}
use Rattle.pt_events.proofs.reading.Reading.end.Goals as goal

pub returns-in-Some : goal.returns-in-Some
returns-in-Some c = λ form bytes text read. cut-item form bytes text c.args.self.now c.in-Some.misplaced read c.in-Some.is

pub returns-in-Ok : goal.returns-in-Ok
returns-in-Ok c = λ form bytes text read.
    let none : c.args.self.now.misplaced ≡ None = search (rules, c.in_default.is) in
    listed-whole form bytes text c.args.self.now read none (sym (c.finish.ensures.read bytes read.read) ∙ c.in-Ok.is)

pub returns-in-Err-Bad : goal.returns-in-Err-Bad
returns-in-Err-Bad c = λ form bytes text read.
    let none : c.args.self.now.misplaced ≡ None = search (rules, c.in_default.is) in
    let answered : end_answer (length bytes) (verdict bytes) ≡ Err c.in-Err-Bad.field-0 = sym (c.finish.ensures.read bytes read.read) ∙ c.in-Err-Bad.is in
    cut-read form bytes text c.args.self.now c.in-Err-Bad.at c.in-Err-Bad.kind read none (rw c.in-Err-Bad.field-0-is at answered)
