-- The end is named by its numbers.
use Rattle.pt_cli.proofs.Causes.{plain-causes, plain-words}
use Rattle.pt_cli.proofs.waitless.plain.Goals as goal

pub returns-clause-replayed : goal.returns-clause-replayed
returns-clause-replayed g c = λ session is. (c.answer-end.result, c.status.ensures, c.at.ensures, (rw is at c.answer-end.ensures.comes))

pub returns-clause-reported : goal.returns-clause-reported
returns-clause-reported g c = λ is. (c.answer-end.result, c.status.ensures, c.at.ensures, (rw is at c.answer-end.ensures.comes))

pub returns-clause-listed : goal.returns-clause-listed
returns-clause-listed g c = λ form is. (c.answer-end.result, c.status.ensures, c.at.ensures, (rw is at c.answer-end.ensures.comes))

pub returns-clause-generated : goal.returns-clause-generated
returns-clause-generated g c = λ asked is. (c.answer-end.result, c.status.ensures, c.at.ensures, (rw is at c.answer-end.ensures.comes))

pub returns-clause-words : goal.returns-clause-words
returns-clause-words g c = λ is.
    (c.answer-end.result, c.status.ensures, c.at.ensures, plain-words g.I.Source g.O.Sink _ c.args.input.now c.answer-end.new.input c.args.output.now c.answer-end.new.output c.answer-end.result is c.answer-end.ensures.comes)

pub returns-clause-faults : goal.returns-clause-faults
returns-clause-faults g c =
    (c.answer-end.result, c.status.ensures, c.at.ensures, plain-causes g.I.Source g.O.Sink _ c.args.input.now c.answer-end.new.input c.args.output.now c.answer-end.new.output c.answer-end.result c.answer-end.ensures.comes c.answer-end.ensures.unread)
