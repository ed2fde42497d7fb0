use Rattle.std.proofs.Common.{[], refl, sym, subst}
use Rattle.ep_defs.specs.Definitions.{definition_at}
use Rattle.nt_write.specs.declared.writer.TraceWriter.{TraceWriter}
use Rattle.nt_write.specs.Writer.{IsWriting, TookPart, sink_of}
use Rattle.tp_c.specs.Outgoing.{Outgoing, all_of, after_pull}
use Rattle.tp_c.proofs.Pulling.{all-after, pulled-writer}
use Rattle.tp_c.proofs.Recordings.{tells, at-its-own, part-begins}
use Rattle.tp_c.proofs.recorder.pull_from.Goals as goal

pub returns-clause-goes_on : goal.returns-clause-goes_on
returns-clause-goes_on c info entries definitions h =
    λ table distinct has.
    let old : TraceWriter Outgoing = c.args.writer.now in
    let count = c.pull-count.result in
    subst (λ (w : TraceWriter Outgoing). IsWriting tells all_of [] table info entries w)
    (sym (pulled-writer old c.replace_sink-outlet.new.self c.replace_sink.new.self _ c.replace_sink-outlet.result c.pull-count.new.self count c.replace_sink-outlet.ensures.placed c.replace_sink-outlet.ensures.given c.pull-count.ensures.after c.replace_sink.ensures.placed))
    (c.replace_sink-outlet.ensures.goes_on (after_pull count (sink_of old)) (refl, all-after count (sink_of old)) [] table info entries (h table distinct has))

pub returns-clause-begun : goal.returns-clause-begun
returns-clause-begun c info entries definitions distinct h =
    let old : TraceWriter Outgoing = c.args.writer.now in
    part-begins info entries (sink_of old)
    (subst (λ (o : Outgoing). TookPart tells all_of [] info entries o) c.replace_sink-outlet.ensures.given
    (c.replace_sink-outlet.ensures.part [] (definition_at definitions) info entries (at-its-own info entries definitions old distinct h)))
