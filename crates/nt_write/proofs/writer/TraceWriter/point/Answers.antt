use Rattle.std.proofs.Common.{◌++◌, refl}
use Rattle.nt_object.specs.Stream.{stream_start, blocks_bytes}
use Rattle.ep_defs.specs.Entry.{Point}
use Rattle.nt_write.specs.Layout.{empty_layout, with_entries, with_point}
use Rattle.nt_write.specs.Writer.{point_of}
use Rattle.nt_write.proofs.Answered.{on_err-then, on_ok-fault-both, count-stays}
use Rattle.nt_write.proofs.Prefixes.{prefix-same}
use Rattle.nt_write.proofs.Entries.{writing-more, writing-canonical-more, part-more}
use Rattle.nt_write.proofs.writer.TraceWriter.point.Goals as goal

pub returns-clause-ok : goal.returns-clause-ok
returns-clause-ok g c before defs info entries h =
    let tells = g.S.Sink.tells_taken in
    let taken = g.S.Sink.taken in
    let old = c.args.self.now in
    let entry = Point (point_of c.args.stamp c.args.threads.now) in
    on_ok-fault-both c.write_point-written.result c.err-self.result c.err-self.ensures.value
    (λ sound next count. writing-more tells taken before defs info entries entry old c.write_point-written.new.self _ h sound c.note_threads.ensures count next refl refl refl)
    (c.write_point-written.ensures.ok (before ++ stream_start info) defs (with_entries empty_layout entries) h.at)
    c.write_point-written.ensures.framed

pub returns-clause-part : goal.returns-clause-part
returns-clause-part g c before defs info entries h =
    let tells = g.S.Sink.tells_taken in
    let taken = g.S.Sink.taken in
    let entry = Point (point_of c.args.stamp c.args.threads.now) in
    let layout = with_entries empty_layout entries in
    let bytes = blocks_bytes (with_point layout (point_of c.args.stamp c.args.threads.now)).blocks in
    on_err-then c.write_point-written.result
    (λ took. part-more tells taken before info entries entry bytes c.write_point-written.new.self.output.sink (writing-canonical-more tells taken before defs info entries entry c.args.self.now h c.note_threads.ensures) (prefix-same bytes) took)
    (c.write_point-written.ensures.part (before ++ stream_start info) defs layout h.at)

pub returns-clause-wrote : goal.returns-clause-wrote
returns-clause-wrote g c = count-stays g.S.Sink.write_faults _ _ c.write_point-written.result c.write_point-written.ensures.counted
