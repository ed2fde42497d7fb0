-- A writer over another sink.
use Rattle.std.specs.Prelude.{◌≡◌}
use Rattle.pt_io.specs.declared.sink.Sink.{Ghosts as Sink}
use Rattle.nt_write.specs.declared.writer.TraceWriter.{TraceWriter}

-- The writer with this sink in the place of its own.
abbrev pub with_sink : {S : Type 0} → TraceWriter S → S → TraceWriter S
with_sink writer sink = record writer { output = record writer.output { sink = sink } }

-- The second has taken the same as the first, and tells it where that does.
abbrev pub HasTakenSame : {S : Type 0} → Sink S → S → S → Type 0
HasTakenSame sink first second =
    (sink.tells_taken second ≡ sink.tells_taken first) × (sink.taken second ≡ sink.taken first)
