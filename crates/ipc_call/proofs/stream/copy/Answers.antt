use Rattle.ipc_call.proofs.Reading.{gave-more, took-part-more}
use Rattle.ipc_call.proofs.stream.copy.Goals as goal

pub returns-in-Err-write-clause-gave : goal.returns-in-Err-write-clause-gave
returns-in-Err-write-clause-gave g c =
    let all = c.loop-read.invariant.copied in
    let gave = gave-more g.L.Source.tells_given g.L.Source.given g.L.Source.left c.args.link.now c.loop-read.link c.read.new.self all.more _
    c.loop-read.invariant.told all.gave c.in-Ok.ensures.given c.in-Ok.ensures.left in
    let took = took-part-more g.O.Sink.tells_taken g.O.Sink.taken c.args.output.now c.loop-read.output c.write.new.self all.more _
    c.loop-read.invariant.heard all.took c.in-Err-write.ensures.part in
    let is = c.in-Ok.read-is in
    (_, gave, took, tt)
