-- What comes of an event or a point that is added to a writer.
use Rattle.std.specs.Prelude.{◌≡◌, ℕ, Bool, List, Option, Some, Result, OnOk, OnErr}
use Rattle.ep_defs.specs.declared.event.EventDef.{EventDef}
use Rattle.ep_defs.specs.Definitions.{AreDistinct}
use Rattle.pt_io.specs.declared.sink.Sink.{Ghosts as Sink}
use Rattle.nt_object.specs.Stream.{blocks_bytes}
use Rattle.nt_stacks.specs.declared.interner.Interned.{Interned}
use Rattle.nt_stacks.specs.Stacks.{with_stack}
use Rattle.nt_write.specs.declared.fault.Fault.{Fault}
use Rattle.nt_write.specs.declared.writer.EventOut.{EventOut}
use Rattle.nt_write.specs.declared.writer.TraceWriter.{TraceWriter}
use Rattle.nt_write.specs.Value.{AreFew}
use Rattle.nt_write.specs.Layout.{Layout, with_event}
use Rattle.nt_write.specs.Arriving.{IsInterned, IsNew, roomy}
use Rattle.nt_write.specs.Writing.{IsAt, IsKept, TookSome}
use Rattle.nt_write.specs.Writer.{entry_of, sink_of}

-- The writer stands where the layout does, but that the stack of the event that comes has its id and is counted.
pub record IsReady {S : Type 0} (tells : S → Bool) (taken : S → List ℕ) (start : List ℕ) (defs : ℕ → Option EventDef) (layout : Layout) (frames : List ℕ) (stack : Interned) (writer : TraceWriter S) : Type 0 where
  pub kept : IsKept tells taken start defs layout writer
  pub known : writer.pending.stacks.known ≡ with_stack layout.stacks frames
  pub few : AreFew writer.pending.stacks.known writer.pending.stacks.framed
  pub interned : IsInterned layout.stacks frames stack

-- Wherever the writer stands, this holds: of what its sink had taken at the start, its definitions, and the layout.
abbrev pub IfAt : {S : Type 0} → Sink S → TraceWriter S → (List ℕ → (ℕ → Option EventDef) → Layout → Type 0) → Type 0
IfAt sink writer Holds =
    (start : List ℕ) (defs : ℕ → Option EventDef) (layout : Layout)
    → IsAt sink.tells_taken sink.taken start defs layout writer → Holds start defs layout

-- The same, but for the stacks that have ids, where the definition with this number is known too: its payload is this
-- where it is new.
abbrev pub IfDefining : {S : Type 0} → Sink S → ℕ → Option (List ℕ) → TraceWriter S → (List ℕ → (ℕ → Option EventDef) → Layout → EventDef → Type 0) → Type 0
IfDefining sink number meta writer Holds =
    (start : List ℕ) (defs : ℕ → Option EventDef) (layout : Layout) (def : EventDef)
    → IsKept sink.tells_taken sink.taken start defs layout writer → AreDistinct defs
    → defs number ≡ Some def → IsNew layout.definitions def meta → Holds start defs layout def

-- A writer that stood at a layout in this way stands, on success, where the layout does with the event.
abbrev pub Adds : {S A : Type 0} → (S → Bool) → (S → List ℕ) → (List ℕ → (ℕ → Option EventDef) → Layout → Type 0) → EventDef → EventOut → TraceWriter S → Result A Fault → Type 0
Adds tells taken Stood def out writer result =
    (start : List ℕ) (defs : ℕ → Option EventDef) (layout : Layout)
    → Stood start defs layout → AreDistinct defs → defs out.event ≡ Some def
    → OnOk result (IsAt tells taken start defs (with_event (roomy layout (entry_of def out)) (entry_of def out)) writer)

-- On an error its sink took a part of the layout that has room for the event.
abbrev pub AddsPart : {S A : Type 0} → (S → Bool) → (S → List ℕ) → (List ℕ → (ℕ → Option EventDef) → Layout → Type 0) → EventDef → EventOut → TraceWriter S → Result A Fault → Type 0
AddsPart tells taken Stood def out writer result =
    (start : List ℕ) (defs : ℕ → Option EventDef) (layout : Layout)
    → Stood start defs layout → AreDistinct defs → defs out.event ≡ Some def
    → OnErr result (TookSome tells taken start (blocks_bytes (roomy layout (entry_of def out)).blocks) (sink_of writer))
