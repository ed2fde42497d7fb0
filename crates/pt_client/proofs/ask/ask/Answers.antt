-- What stays as it was took a first part of anything; a stop's request is named by its id.
use Rattle.std.proofs.Common.{ap}
use Rattle.pt_client.specs.Answers.{request_of, stream_of}
use Rattle.pt_client.proofs.Silent.{none-taken_on_err}
use Rattle.pt_client.proofs.ask.ask.Goals as goal

pub returns-in-Stop-clause-part : goal.returns-in-Stop-clause-part
returns-in-Stop-clause-part g c = λ told written.
    none-taken_on_err c.ask_to_stop.result g.O.Sink.tells_taken g.O.Sink.taken c.args.output.now c.ask_to_stop.new.output
    (stream_of c.args.command.now (g.L.Source.left c.args.link.now)) (c.ask_to_stop.ensures.silent written)

pub returns-in-Stop-clause-asked : goal.returns-in-Stop-clause-asked
returns-in-Stop-clause-asked g c = rw (ap request_of c.in-Stop.is) c.ask_to_stop.ensures.asked

pub returns-in-Ps-clause-part : goal.returns-in-Ps-clause-part
returns-in-Ps-clause-part g c = λ told written.
    none-taken_on_err c.ask_what_it_is.result g.O.Sink.tells_taken g.O.Sink.taken c.args.output.now c.ask_what_it_is.new.output
    (stream_of c.args.command.now (g.L.Source.left c.args.link.now)) (c.ask_what_it_is.ensures.silent written)
