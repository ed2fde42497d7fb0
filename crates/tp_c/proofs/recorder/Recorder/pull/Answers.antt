use Rattle.std.proofs.Common.{ap, sym, ◌∙◌, take}
use Rattle.std.specs.Prelude.{is_some}
use Rattle.nt_write.specs.declared.writer.TraceWriter.{TraceWriter}
use Rattle.nt_write.specs.Writer.{fault_of, sink_of}
use Rattle.tp_c.specs.declared.recorder.Stage.{Stage}
use Rattle.tp_c.specs.declared.recorder.Stage.TheVariants.{Open}
use Rattle.tp_c.specs.Outgoing.{Outgoing, after_pull}
use Rattle.tp_c.specs.Recording.{bytes_of, is_cut_stage}
use Rattle.tp_c.proofs.Pulling.{recording-pulled, cut-pulled}
use Rattle.tp_c.proofs.Recordings.{by_writer}
use Rattle.tp_c.proofs.recorder.Recorder.pull.Goals as goal

pub returns-in-Open-clause-goes_on : goal.returns-in-Open-clause-goes_on
returns-in-Open-clause-goes_on c info entries pulled h =
    let old = c.args.self.now in
    let count = c.pull_from.result in
    let was = c.in-Open.is in
    recording-pulled info entries pulled _ count old (Open c.pull_from.new.writer) h
    (c.pull_from.ensures.goes_on info entries old.definitions (by_writer info entries old.definitions old.stage _ was h.stands))
    (ap (λ (w : TraceWriter Outgoing). sink_of w) c.pull_from.ensures.after ∙ ap (λ (s : Stage). after_pull count (bytes_of s)) (sym was))
    (c.pull_from.ensures.front ∙ ap (λ (s : Stage). take count (bytes_of s).left) (sym was))

pub returns-in-Open-clause-cut : goal.returns-in-Open-clause-cut
returns-in-Open-clause-cut c info entries pulled h =
    let old = c.args.self.now in
    let count = c.pull_from.result in
    let was = c.in-Open.is in
    cut-pulled info entries pulled _ count old (Open c.pull_from.new.writer) h
    (ap (λ (w : TraceWriter Outgoing). is_some (fault_of w)) c.pull_from.ensures.after ∙ ap is_cut_stage (sym was))
    (ap (λ (w : TraceWriter Outgoing). sink_of w) c.pull_from.ensures.after ∙ ap (λ (s : Stage). after_pull count (bytes_of s)) (sym was))
    (c.pull_from.ensures.front ∙ ap (λ (s : Stage). take count (bytes_of s).left) (sym was))

pub returns-in-Over-clause-cut : goal.returns-in-Over-clause-cut
returns-in-Over-clause-cut c info entries pulled h =
    let old = c.args.self.now in
    let count = c.pull.result in
    let was = c.in-Over.is in
    cut-pulled info entries pulled _ count old _ h (ap is_cut_stage (sym was))
    (c.pull.ensures.after ∙ ap (λ (s : Stage). after_pull count (bytes_of s)) (sym was))
    (c.pull.ensures.front ∙ ap (λ (s : Stage). take count (bytes_of s).left) (sym was))
