use Rattle.nt_write.proofs.Sinks.{part-now}
use Rattle.nt_write.proofs.writer.TraceWriter.give_up.Goals as goal

pub returns-clause-part : goal.returns-clause-part
returns-clause-part g c before defs info entries h =
    part-now g.S.Sink.tells_taken g.S.Sink.taken before defs info entries c.args.self.now h
