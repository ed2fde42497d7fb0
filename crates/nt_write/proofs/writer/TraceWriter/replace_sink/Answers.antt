use Rattle.nt_write.proofs.Sinks.{part-now, goes-on}
use Rattle.nt_write.proofs.writer.TraceWriter.replace_sink.Goals as goal

pub returns-clause-goes_on : goal.returns-clause-goes_on
returns-clause-goes_on g c other same before defs info entries h =
    goes-on g.S.Sink.tells_taken g.S.Sink.taken before defs info entries c.args.self.now other h same.0 same.1

pub returns-clause-part : goal.returns-clause-part
returns-clause-part g c before defs info entries h =
    let tells = g.S.Sink.tells_taken in
    let taken = g.S.Sink.taken in
    rw c.replace_sink.ensures.given (part-now tells taken before defs info entries c.args.self.now h)
