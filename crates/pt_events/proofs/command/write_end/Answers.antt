-- What is said of the bytes.
use Rattle.std.proofs.Common.{inl, inr}
use Rattle.pt_events.proofs.command.write_end.Goals as goal

pub returns-in-Ok-None : goal.returns-in-Ok-None
returns-in-Ok-None g c = λ bytes lines read.
    inl ((rw c.in-Ok-None.field-0-is at c.in-Ok-None.ensures) c.args.form bytes lines read, c.write_tail.ensures)

pub returns-in-Ok-Some : goal.returns-in-Ok-Some
returns-in-Ok-Some g c = λ bytes lines read.
    let cut = (rw c.in-Ok-Some.field-0-is at c.in-Ok-Some.ensures) c.args.form bytes lines read in
    let refusal = c.in-Ok-Some.refusal in
    elim c.write_error.ensures [
      | inl said ↦ inr (inl (refusal, cut, said))
      | inr none ↦ inr (inr none)
    ]
