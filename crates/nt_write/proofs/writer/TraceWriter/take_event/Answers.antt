use Rattle.nt_write.specs.Writer.{entry_of}
use Rattle.nt_write.proofs.Answered.{count-stays}
use Rattle.nt_write.proofs.Entries.{nothing-more}
use Rattle.nt_write.proofs.writer.TraceWriter.take_event.Goals as goal

pub returns-then-are_spent-clause-part : goal.returns-then-are_spent-clause-part
returns-then-are_spent-clause-part g c start defs layout h distinct at =
    nothing-more g.S.Sink.tells_taken g.S.Sink.taken start defs layout (entry_of c.args.def.now c.args.out.now) c.args.self.now h.kept

pub returns-clause-wrote : goal.returns-clause-wrote
returns-clause-wrote g c = count-stays g.S.Sink.write_faults _ _ c.add_event.result c.add_event.ensures.counted
