-- What is said is the answer to the bytes.
use Rattle.std.proofs.Common.{refl, sym, subst, inl, inr}
use Rattle.pt_command.specs.declared.end.End.TheVariants as ends
use Rattle.pt_report.specs.Errors.{refusal_error}
use Rattle.pt_report.specs.Found.{IsReported}
use Rattle.pt_report.proofs.command.answer.Goals as goal

pub returns-in-Ok-Report : goal.returns-in-Ok-Report
returns-in-Ok-Report g c = λ bytes read.
    let reported = (rw c.in-Ok-Report.field-0-is at c.in-Ok-Report.ensures) bytes read in
    inl (c.as_slice.result.now, ends.Done, inl (subst (IsReported bytes) (sym c.as_slice.ensures.value) reported, refl), c.say.ensures)

pub returns-in-Ok-Refused : goal.returns-in-Ok-Refused
returns-in-Ok-Refused g c = λ bytes read.
    let refused = (rw c.in-Ok-Refused.field-0-is at c.in-Ok-Refused.ensures) bytes read in
    let refusal = c.in-Ok-Refused.refusal in
    elim (c.say_line.ensures (refusal_error refusal) c.refusal_text.ensures) [
      | inl said ↦ inl (refusal_error refusal, ends.Refused refusal.at, inr (refusal.at, (refusal, refused, refl, refl), refl), said)
      | inr none ↦ inr none
    ]
