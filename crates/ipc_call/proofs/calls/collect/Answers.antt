use Rattle.ipc_call.proofs.Reading.{part-later}
use Rattle.ipc_call.proofs.calls.collect.Goals as goal

pub returns-in_err-copy-clause-part : goal.returns-in_err-copy-clause-part
returns-in_err-copy-clause-part g c =
    let rest = c.in_err-copy.ensures.gave in
    part-later g.L.Source.tells_given g.L.Source.given g.L.Source.left c.args.link.now c.ask.new.link c.copy.new.link
    g.O.Sink.tells_taken g.O.Sink.taken c.args.output.now c.copy.new.output rest.0 c.in_ok-ask.ensures.gave c.ask.ensures.told rest.1 rest.2

pub returns-clause-part : goal.returns-clause-part
returns-clause-part g c =
    let rest = c.in_ok-copy.ensures.gave in
    part-later g.L.Source.tells_given g.L.Source.given g.L.Source.left c.args.link.now c.ask.new.link c.copy.new.link
    g.O.Sink.tells_taken g.O.Sink.taken c.args.output.now c.copy.new.output rest.0 c.in_ok-ask.ensures.gave c.ask.ensures.told rest.1 rest.2
