-- What comes of blocks that are written, and of a flush.
use Rattle.std.specs.Prelude.{ℕ, List, Result, OnOk, OnErr}
use Rattle.pt_io.specs.declared.sink.Sink.{Ghosts as Sink}
use Rattle.nt_object.specs.Object.{Block}
use Rattle.nt_object.specs.Stream.{blocks_bytes}
use Rattle.nt_write.specs.declared.fault.Fault.{Fault}
use Rattle.nt_write.specs.declared.output.Output.{Output}
use Rattle.nt_write.specs.declared.pending.Pending.{Pending}
use Rattle.nt_write.specs.Layout.{Layout}
use Rattle.nt_write.specs.Arriving.{CanFlush}
use Rattle.nt_write.specs.Writing.{HasWritten, TookSome, IsPending, output_sink}

-- An output that had written some blocks has, on success, written what they become.
abbrev pub Writes : {S A : Type 0} → Sink S → (List Block → List Block) → Output S → Output S → Result A Fault → Type 0
Writes sink becomes old new result =
    (start : List ℕ) (blocks : List Block)
    → HasWritten sink.tells_taken sink.taken start blocks old
    → OnOk result (HasWritten sink.tells_taken sink.taken start (becomes blocks) new)

-- On an error its sink took a part of what they become.
abbrev pub WritesPart : {S A : Type 0} → Sink S → (List Block → List Block) → Output S → Output S → Result A Fault → Type 0
WritesPart sink becomes old new result =
    (start : List ℕ) (blocks : List Block)
    → HasWritten sink.tells_taken sink.taken start blocks old
    → OnErr result (TookSome sink.tells_taken sink.taken start (blocks_bytes (becomes blocks)) (output_sink new))

-- An output that had written the blocks of a layout, of which the rest was pending, has, on success, written the blocks
-- of what the layout becomes, and the rest of that is pending.
abbrev pub Flushes : {S A : Type 0} → Sink S → (Layout → Layout) → Output S → Pending → Output S → Pending → Result A Fault → Type 0
Flushes sink becomes old old_pending new new_pending result =
    (start : List ℕ) (layout : Layout)
    → HasWritten sink.tells_taken sink.taken start layout.blocks old
    → IsPending layout old_pending → CanFlush layout
    → OnOk result (HasWritten sink.tells_taken sink.taken start (becomes layout).blocks new
    × IsPending (becomes layout) new_pending)

-- On an error its sink took a part of the blocks of what the layout becomes.
abbrev pub FlushesPart : {S A : Type 0} → Sink S → (Layout → Layout) → Output S → Pending → Output S → Result A Fault → Type 0
FlushesPart sink becomes old old_pending new result =
    (start : List ℕ) (layout : Layout)
    → HasWritten sink.tells_taken sink.taken start layout.blocks old
    → IsPending layout old_pending
    → OnErr result (TookSome sink.tells_taken sink.taken start (blocks_bytes (becomes layout).blocks) (output_sink new))
