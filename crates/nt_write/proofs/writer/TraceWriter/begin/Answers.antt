use Rattle.std.proofs.Common.{refl}
use Rattle.nt_write.proofs.Entries.{begun, part-start}
use Rattle.nt_write.proofs.writer.TraceWriter.begin.Goals as goal

pub returns-in-Ok-clause-ok : goal.returns-in-Ok-clause-ok
returns-in-Ok-clause-ok g c defs =
    begun g.S.Sink.tells_taken g.S.Sink.taken (g.S.Sink.taken c.args.sink) defs c.args.info.now c.write_start.new.sink _ c.info_fits.ensures refl c.in-Ok.ensures.ok c.new.ensures.sink c.new.ensures.empty (c.in-Ok.ensures.ids defs) c.new-in-Ok.ensures.pending c.new-in-Ok.ensures.stacks

pub returns-in-Err-clause-part : goal.returns-in-Err-clause-part
returns-in-Err-clause-part g c =
    part-start g.S.Sink.tells_taken g.S.Sink.taken (g.S.Sink.taken c.args.sink) c.args.info.now c.write_start.new.sink c.info_fits.ensures c.in-Err.ensures.part
