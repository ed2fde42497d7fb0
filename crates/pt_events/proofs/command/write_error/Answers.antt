use Rattle.std.proofs.Common.{List, ℕ, inl, ◌∙◌, subst}
use Rattle.pt_command.specs.declared.end.End.TheVariants as ends
use Rattle.pt_command.specs.Says.{Says}
use Rattle.pt_events.proofs.command.write_error.Goals as goal

pub returns-in-Ok : goal.returns-in-Ok
returns-in-Ok g c =
    inl
    (subst (λ (text : List ℕ). Says g.O.Sink c.args.output.now c.say.new.output text (ends.Refused c.args.refusal.now.at) c.say.result) (c.as_slice.ensures.value ∙ c.in-Ok.ensures)
    c.say.ensures)
