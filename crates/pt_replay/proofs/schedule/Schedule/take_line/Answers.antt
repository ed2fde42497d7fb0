-- A step that is read by its numbers alone is what the line says, whatever stands before it.
use Rattle.std.proofs.Common.{◌≡◌, Option, Err, ap, refl, sym, ◌∙◌, subst, arith}
use Rattle.ep_core.specs.declared.machine.Machine.{Machine}
use Rattle.ep_defs.specs.Session.{standard_info_of}
use Rattle.ep_plan.specs.Lines.{step_of}
use Rattle.ep_plan.specs.declared.line.Line.TheVariants.{Step}
use Rattle.pt_replay.specs.declared.schedule.Schedule.{Schedule}
use Rattle.pt_replay.specs.Reading.{HasTaken}
use Rattle.pt_replay.specs.Schedule.{definitions_of, past_of, has_stepped}
use Rattle.pt_replay.proofs.OneMore.{machine-there, same_fault, step-more, unlawful-refuses}
use Rattle.pt_replay.proofs.schedule.Schedule.take_line.Goals as goal
use Rattle.pt_replay.proofs.schedule.Schedule.take_line.Goals.{in-Some+in_default-read_short, in_default}

pub returns-in-Ok-clause-taken : goal.returns-in-Ok-clause-taken
returns-in-Ok-clause-taken c = λ lines stands.
    let s = step_of c.in-Some-read_short.step in
    let machine = machine-there lines c.args.self.now c.in-Some.machine stands c.in-Some.is in
    let made = c.in-Ok.ensures.made (definitions_of lines) (standard_info_of 1 1) (past_of lines) machine.0 in
    let one = c.in-Ok.ensures.counted in
    let says = c.in-Some-read_short.ensures (definitions_of lines) (has_stepped (past_of lines)) in
    (Step s, record { says = says; made = made.0 }, step-more lines s c.args.self.now _ stands refl refl made.0 (made.1, omega (arith, one, machine.1), refl))

pub returns-in-Err-clause-refused : goal.returns-in-Err-clause-refused
returns-in-Err-clause-refused c = λ lines refusal stands is.
    let s = step_of c.in-Some-read_short.step in
    let machine = machine-there lines c.args.self.now c.in-Some.machine stands c.in-Some.is in
    let why = c.fault_at.ensures refusal (same_fault c.fault_at.result refusal is) in
    let kind = c.in-Err.ensures.unlawful (definitions_of lines) (standard_info_of 1 1) (past_of lines) why.0 machine.0 (ap (λ fault. Err fault) why.1) in
    let says = c.in-Some-read_short.ensures (definitions_of lines) (has_stepped (past_of lines)) in
    unlawful-refuses lines c.args.text.now s c.args.self.now.lines refusal stands.count says (why.0.kind, kind.0, why.2)

pub returns-clause-refused : goal.returns-clause-refused
returns-clause-refused c = λ lines refusal stands is.
    let was = c.args.self.now in
    let with_machine : Option Machine → Schedule = λ machine. record { events = was.events; machine = machine; lines = was.lines } in
    let same : was ≡ c.match-self.self =
    elim c.match-self.branch [
      | in-Some+in_default-read_short w ↦ ap with_machine w.in-Some.is ∙ sym w.self-is
      | in_default w ↦ sym w.self-is
    ] in
    c.take_other.ensures.refused lines refusal (subst (λ schedule. HasTaken lines schedule) same stands) is
