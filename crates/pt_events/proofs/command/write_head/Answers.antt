use Rattle.std.proofs.Common.{◌≡◌, List, ℕ, sym, ◌∙◌, subst}
use Rattle.std.specs.Prelude.{IfErr, OnOk}
use Rattle.pt_command.specs.declared.end.End.TheVariants as ends
use Rattle.pt_command.specs.Says.{TookText, BrokeOff}
use Rattle.pt_lines.proofs.Around.{opened-none}
use Rattle.pt_events.proofs.command.write_head.Goals as goal

pub returns-clause-ok : goal.returns-clause-ok
returns-clause-ok g c =
    subst (λ (t : List ℕ). OnOk c.write_lines.result (TookText g.O.Sink c.args.output.now c.write_lines.new.output t))
    (c.as_bytes.ensures.value ∙ c.head.ensures ∙ sym (opened-none c.args.form)) c.write_lines.ensures.ok

pub returns-clause-err : goal.returns-clause-err
returns-clause-err g c =
    subst (λ (t : List ℕ). IfErr c.write_lines.result (λ end. (end ≡ ends.WriteFault) × BrokeOff g.O.Sink c.args.output.now c.write_lines.new.output t))
    (c.as_bytes.ensures.value ∙ c.head.ensures ∙ sym (opened-none c.args.form)) c.write_lines.ensures.err
