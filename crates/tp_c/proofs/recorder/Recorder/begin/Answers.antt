use Rattle.tp_c.proofs.Recordings.{begun}
use Rattle.tp_c.proofs.recorder.Recorder.begin.Goals as goal

pub returns-in-Ok-clause-ok : goal.returns-in-Ok-clause-ok
returns-in-Ok-clause-ok c =
    begun c.args.info.now _ c.in-Ok.writer _ c.new-sink.ensures c.in-Ok.ensures.ok c.in-Ok.ensures.other_side c.started.ensures.stage
    c.started.ensures.definitions c.started.ensures.threads c.started.ensures.framed
