use Rattle.std.proofs.Common.{List, ℕ, refl, inl, inr, ◌∙◌, subst}
use Rattle.pt_command.specs.Says.{TookText, BrokeOff}
use Rattle.pt_events.proofs.command.write_tail.Goals as goal

pub returns-in-Ok : goal.returns-in-Ok
returns-in-Ok g c =
    inl (
      refl,
      subst (λ (t : List ℕ). TookText g.O.Sink c.args.output.now c.write_lines.new.output t) (c.as_bytes.ensures.value ∙ c.tail.ensures) c.in-Ok.ensures.ok,
    )

pub returns-in-Err : goal.returns-in-Err
returns-in-Err g c =
    inr (
      c.in-Err.ensures.err.0,
      subst (λ (t : List ℕ). BrokeOff g.O.Sink c.args.output.now c.write_lines.new.output t) (c.as_bytes.ensures.value ∙ c.tail.ensures) c.in-Err.ensures.err.1,
    )
