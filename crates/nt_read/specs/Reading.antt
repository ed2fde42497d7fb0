-- What a reader has read that hands out the items.
use Rattle.std.specs.Prelude.{ℕ, List}
use Rattle.nt_read.specs.declared.reader.TraceReader.{TraceReader}
use Rattle.nt_read.specs.Objects as objects
use Rattle.nt_read.specs.Telling.{TellsItems}

-- How many bytes were read so far.
abbrev pub used : TraceReader → ℕ
used reader = objects.used reader.objects

-- A call was out of memory.
abbrev pub HasFailed : TraceReader → Type 0
HasFailed reader = objects.HasFailed reader.objects

-- The reader was fed these bytes, in whatever pieces.
abbrev pub HasRead : List ℕ → TraceReader → Type 0
HasRead bytes reader = objects.HasRead TellsItems bytes reader.objects
