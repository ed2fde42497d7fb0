-- What the command comes to that the words mean.
use Rattle.std.proofs.Common.{Option, subst, ◌∙◌}
use Rattle.pt_cli.specs.declared.words.Command.{Command}
use Rattle.pt_cli.specs.Program.{Around, HasFaults, around_of}
use Rattle.pt_command.specs.declared.end.End.TheVariants as ends
use Rattle.pt_cli.proofs.Causes.{comes-faults}
use Rattle.pt_cli.proofs.Nothing.{ungreeted, unlisted, unran}
use Rattle.pt_cli.proofs.top.tracepipe.Goals as goal

pub returns-in-Ok-clause-replayed : goal.returns-in-Ok-clause-replayed
returns-in-Ok-clause-replayed g c = λ session is. rw (c.in-Ok.ensures.meant ∙ is) at c.carry_out.ensures.comes

pub returns-in-Ok-clause-reported : goal.returns-in-Ok-clause-reported
returns-in-Ok-clause-reported g c = λ is. rw (c.in-Ok.ensures.meant ∙ is) at c.carry_out.ensures.comes

pub returns-in-Ok-clause-listed : goal.returns-in-Ok-clause-listed
returns-in-Ok-clause-listed g c = λ form is. rw (c.in-Ok.ensures.meant ∙ is) at c.carry_out.ensures.comes

pub returns-in-Ok-clause-generated : goal.returns-in-Ok-clause-generated
returns-in-Ok-clause-generated g c = λ asked is. rw (c.in-Ok.ensures.meant ∙ is) at c.carry_out.ensures.comes

pub returns-in-Ok-clause-traced : goal.returns-in-Ok-clause-traced
returns-in-Ok-clause-traced g c = λ asked is. rw (c.in-Ok.ensures.meant ∙ is) at c.carry_out.ensures.comes

pub returns-in-Ok-clause-watched : goal.returns-in-Ok-clause-watched
returns-in-Ok-clause-watched g c = λ asked is. rw (c.in-Ok.ensures.meant ∙ is) at c.carry_out.ensures.comes

pub returns-in-Ok-clause-ran : goal.returns-in-Ok-clause-ran
returns-in-Ok-clause-ran g c = λ asked is. rw (c.in-Ok.ensures.meant ∙ is) at c.carry_out.ensures.comes

pub returns-in-Ok-clause-asked : goal.returns-in-Ok-clause-asked
returns-in-Ok-clause-asked g c = λ asked is. rw (c.in-Ok.ensures.meant ∙ is) at c.carry_out.ensures.comes

pub returns-in-Ok-clause-greeted : goal.returns-in-Ok-clause-greeted
returns-in-Ok-clause-greeted g c = λ target is. rw (c.in-Ok.ensures.meant ∙ is) at c.carry_out.ensures.comes

pub returns-in-Ok-clause-words : goal.returns-in-Ok-clause-words
returns-in-Ok-clause-words g c = λ is. rw (c.in-Ok.ensures.meant ∙ is) at c.carry_out.ensures.comes

pub returns-in-Ok-clause-faults : goal.returns-in-Ok-clause-faults
returns-in-Ok-clause-faults g c =
    let comes = c.carry_out.ensures.comes in
    let Faults : Option Command → Type 0 =
    λ asked. HasFaults g.I.Source g.O.Sink asked c.args.input.now c.carry_out.new.input c.args.output.now c.carry_out.new.output comes.0 in
    let around : Around g.row.I.Denot g.row.O.Denot g.row.D.Denot g.row.K.Denot g.row.L.Denot =
    around_of c.args.input.now c.carry_out.new.input c.args.output.now c.carry_out.new.output c.args.dock.now c.carry_out.new.dock c.args.caller.now c.carry_out.new.caller c.carry_out.result in
    (comes.0, comes.1, subst Faults c.in-Ok.ensures.meant (comes-faults g.I.Source g.O.Sink g.D.Dock g.K.Caller g.L.Source g.L.Sink g.L.Sink.read_side g.L.Source.write_side c.args.facts.now c.in-Ok.command around comes.0 comes.2 c.carry_out.ensures.alone.unread))

-- Where the words found no memory nothing was listed.
pub returns-in-Err-clause-listed : goal.returns-in-Err-clause-listed
returns-in-Err-clause-listed g c = λ form is. (ends.OutOfMemory, c.ended_with.ensures.ended, unlisted g.I.Source g.O.Sink form c.args.input.now c.args.output.now)

-- Nor was a run begun, or a program waited for.
pub returns-in-Err-clause-ran : goal.returns-in-Err-clause-ran
returns-in-Err-clause-ran g c = λ asked is.
    (ends.OutOfMemory, c.ended_with.ensures.ended, (rw c.ended_with.ensures.peer (rw c.ended_with.ensures.live (unran g.O.Sink g.D.Dock g.K.Caller g.L.Sink g.L.Sink.read_side g.L.Source.write_side asked c.args.facts.now c.args.output.now c.args.dock.now c.args.caller.now asked.reverse))))

pub returns-in-Err-clause-greeted : goal.returns-in-Err-clause-greeted
returns-in-Err-clause-greeted g c = λ target is.
    (ends.OutOfMemory, c.ended_with.ensures.ended, (rw c.ended_with.ensures.peer (ungreeted g.O.Sink g.D.Dock g.L.Source g.L.Sink c.args.output.now c.args.dock.now)))
