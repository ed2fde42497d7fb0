-- A line that is taken, and one that is refused.
use Rattle.std.proofs.Common.{◌≡◌, ◌∙◌, ap, sym, subst}
use Rattle.std.specs.Prelude.{Result, Err}
use Rattle.pt_replay.specs.declared.errors.Refusal.{Refusal}
use Rattle.pt_replay.specs.declared.schedule.Fault.{Fault}
use Rattle.pt_replay.specs.declared.schedule.Fault.TheVariants.{Refused}
use Rattle.pt_replay.specs.Reading.{IsLineJudged}
use Rattle.pt_replay.proofs.text.judge.Goals as goal

refused-is : {T : Type 0} (r : Result T Fault) (fault : Fault) (refusal : Refusal) → r ≡ Err fault → fault ≡ Refused refusal → r ≡ Err (Refused refusal)
refused-is r fault refusal is fault_is = is ∙ ap (λ f. Err f) fault_is

pub returns-in-Ok-clause-judged : goal.returns-in-Ok-clause-judged
returns-in-Ok-clause-judged c = λ lines stands.
    subst (λ refusal. IsLineJudged lines c.args.text.now c.take_line.new.self refusal) (sym c.requires.good) (c.in-Ok.ensures.taken lines stands)

pub returns-in-Err-Refused-clause-judged : goal.returns-in-Err-Refused-clause-judged
returns-in-Err-Refused-clause-judged c = λ lines stands.
    c.take_line.ensures.refused lines c.in-Err-Refused.why stands (refused-is c.take_line.result c.in-Err-Refused.field-0 c.in-Err-Refused.why c.in-Err-Refused.is c.in-Err-Refused.field-0-is)
