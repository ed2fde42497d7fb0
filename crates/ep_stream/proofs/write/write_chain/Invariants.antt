use Rattle.std.proofs.Common.{◌≡◌, ℕ, List, ◌++◌, None, take}
use Rattle.ep_defs.specs.Definitions.{definition_at}
use Rattle.ep_defs.specs.declared.session.TraceInfo.{TraceInfo}
use Rattle.ep_defs.specs.Entry.{Entry}
use Rattle.ep_slot.specs.Chain.{records_of}
use Rattle.nt_write.specs.Writer.{fault_of, sink_of}
use Rattle.ep_stream.specs.Telling.{IsTelling, entries_of}
use Rattle.ep_stream.proofs.write.write_chain.Given as goal

abbrev pub invariant-loop-place : goal.invariant-loop-place
invariant-loop-place g l =
    record {
      sound : fault_of l.writer ≡ None;
      wrote : g.S.Sink.write_faults (sink_of l.writer) ≡ g.S.Sink.write_faults (sink_of l.fn.writer);
      other_side : g.S.Sink.read_side (sink_of l.writer) ≡ g.S.Sink.read_side (sink_of l.fn.writer);
      telling : (before : List ℕ) (info : TraceInfo) (told : List Entry) → IsTelling g.S.Sink.tells_taken g.S.Sink.taken before (definition_at l.events) info told l.fn.writer → IsTelling g.S.Sink.tells_taken g.S.Sink.taken before (definition_at l.events) info (told ++ entries_of l.events l.stacks (records_of (take l.place l.chain))) l.writer;
    }
