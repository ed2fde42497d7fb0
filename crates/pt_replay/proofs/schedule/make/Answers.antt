-- The first step is made by a new machine.
use Rattle.std.proofs.Common.{◌≡◌, [], subst}
use Rattle.pt_replay.specs.Machines.{IsMachineOf}
use Rattle.pt_replay.proofs.schedule.make.Goals as goal

pub returns-clause-made : goal.returns-clause-made
returns-clause-made c = λ past is.
    let none : past ≡ [] = subst (λ machine. IsMachineOf c.args.events.now past c.args.lines machine) c.in_default.is is in
    rw none c.make_first.ensures.made

pub returns-clause-refused : goal.returns-clause-refused
returns-clause-refused c = λ past refusal is refused.
    let none : past ≡ [] = subst (λ machine. IsMachineOf c.args.events.now past c.args.lines machine) c.in_default.is is in
    rw none (c.make_first.ensures.refused refusal refused)
