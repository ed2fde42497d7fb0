use Rattle.std.proofs.Common.{◌≡◌, ℕ, ◌+◌, ◌-◌, List, ◌++◌, Some, None}
use Rattle.ep_defs.specs.Definitions.{definition_at}
use Rattle.ep_defs.specs.declared.session.TraceInfo.{TraceInfo}
use Rattle.ep_defs.specs.Entry.{Entry}
use Rattle.ep_chunk.specs.Record.{Record, total_size}
use Rattle.ep_chunk.specs.Places.{records_at}
use Rattle.nt_write.specs.Writer.{fault_of, sink_of}
use Rattle.ep_stream.specs.Telling.{IsTelling, entries_of}
use Rattle.ep_stream.proofs.write.write_chunk.Given as goal

abbrev pub invariant-loop-rec : goal.invariant-loop-rec
invariant-loop-rec g l =
    record {
      done : List Record;
      rest : List Record;
      split : done ++ rest ≡ l.chunk;
      at : records_at l.chunk l.place ≡ Some rest;
      size : l.place + total_size rest ≡ total_size l.chunk;
      sound : fault_of l.writer ≡ None;
      wrote : g.S.Sink.write_faults (sink_of l.writer) ≡ g.S.Sink.write_faults (sink_of l.fn.writer);
      other_side : g.S.Sink.read_side (sink_of l.writer) ≡ g.S.Sink.read_side (sink_of l.fn.writer);
      telling : (before : List ℕ) (info : TraceInfo) (told : List Entry) → IsTelling g.S.Sink.tells_taken g.S.Sink.taken before (definition_at l.events) info told l.fn.writer → IsTelling g.S.Sink.tells_taken g.S.Sink.taken before (definition_at l.events) info (told ++ entries_of l.events l.stacks done) l.writer;
    }

abbrev pub decreases-loop-rec : goal.decreases-loop-rec
decreases-loop-rec g l = total_size l.chunk - l.place
