use Rattle.std.proofs.Common.{◌++◌}
use Rattle.nt_object.specs.Stream.{stream_start}
use Rattle.nt_write.specs.Layout.{empty_layout, with_entries}
use Rattle.nt_write.proofs.Entries.{no_fault, ended, broken, writing-canonical}
use Rattle.nt_write.proofs.writer.TraceWriter.end.Goals as goal
use Rattle.nt_write.proofs.writer.TraceWriter.end.Goals.{in-Some, in-None}

pub returns-clause-ok : goal.returns-clause-ok
returns-clause-ok g c before defs info entries h =
    let tells = g.S.Sink.tells_taken in
    let taken = g.S.Sink.taken in
    elim c.match-writer.branch [
      | in-Some w ↦ absurd (no_fault tells taken before defs info entries c.args.self w.in-Some.fault h w.in-Some.is)
      | in-None w ↦
          ended tells taken before defs info entries c.args.self w.finish-result.new.self c.match-writer.writer c.into_sink.result w.finish-result.result c.match-writer.result h w.writer-is w.result-is c.into_sink.ensures
          (w.finish-result.ensures.ok (before ++ stream_start info) defs (with_entries empty_layout entries) h.at)
    ]

pub returns-clause-part : goal.returns-clause-part
returns-clause-part g c before defs info entries h =
    let tells = g.S.Sink.tells_taken in
    let taken = g.S.Sink.taken in
    elim c.match-writer.branch [
      | in-Some w ↦ absurd (no_fault tells taken before defs info entries c.args.self w.in-Some.fault h w.in-Some.is)
      | in-None w ↦
          broken tells taken before info entries w.finish-result.new.self c.match-writer.writer c.into_sink.result w.finish-result.result c.match-writer.result (writing-canonical tells taken before defs info entries c.args.self h) w.writer-is w.result-is c.into_sink.ensures
          (w.finish-result.ensures.part (before ++ stream_start info) defs (with_entries empty_layout entries) h.at)
    ]
