use Rattle.std.proofs.Common.{◌≡◌, ℕ, List, ◌++◌, Option, None, take}
use Rattle.ep_defs.specs.declared.event.EventDef.{EventDef}
use Rattle.ep_defs.specs.declared.session.TraceInfo.{TraceInfo}
use Rattle.ep_defs.specs.Entry.{Entry}
use Rattle.ep_rundown.specs.Rundown.{describing_from}
use Rattle.nt_write.specs.Writer.{fault_of, sink_of}
use Rattle.ep_stream.specs.Rundown.{AreUsed}
use Rattle.ep_stream.specs.Telling.{IsTelling}
use Rattle.ep_stream.proofs.rundown.describe_each.Given as goal

abbrev pub invariant-loop-place : goal.invariant-loop-place
invariant-loop-place g l =
    record {
      sound : fault_of l.writer ≡ None;
      wrote : g.S.Sink.write_faults (sink_of l.writer) ≡ g.S.Sink.write_faults (sink_of l.fn.writer);
      other_side : g.S.Sink.read_side (sink_of l.writer) ≡ g.S.Sink.read_side (sink_of l.fn.writer);
      telling : (before : List ℕ) (defs : ℕ → Option EventDef) (info : TraceInfo) (told : List Entry) (used : List EventDef) → AreUsed l.events l.numbers used defs → IsTelling g.S.Sink.tells_taken g.S.Sink.taken before defs info told l.fn.writer → IsTelling g.S.Sink.tells_taken g.S.Sink.taken before defs info (told ++ describing_from l.stamp 1 (take l.place used)) l.writer;
    }
