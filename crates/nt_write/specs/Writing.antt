-- What a writer has written of a layout, and what it keeps of it until the next flush.
use Rattle.std.specs.Prelude.{◌≡◌, ℕ, ◌+◌, ◌%◌, ◌≤◌, ◌++◌, Bool, ◌||◌, List, [], length, Option, Some, None, Result, Err, slice_index, take, map, IsTrue, OnOk, if◌then◌else◌}
use Rattle.std.specs.Option.{option_map}
use Rattle.ep_defs.specs.declared.event.EventDef.{EventDef}
use Rattle.ep_defs.specs.declared.limits.TheConstants.{PAYLOAD_BYTES}
use Rattle.ep_defs.specs.Event.{is_same_event}
use Rattle.pt_io.specs.Faults.{HasRisen}
use Rattle.pt_io.specs.Taken.{IsPrefix}
use Rattle.nt_object.specs.Object.{Block}
use Rattle.nt_object.specs.Stream.{start_len, blocks_bytes}
use Rattle.nt_head.specs.declared.limits.TheConstants.{HEAD_BYTES}
use Rattle.nt_blocks.specs.declared.limits.TheConstants.{WRITTEN_BYTES}
use Rattle.nt_blocks.specs.Bodies.{stack_body}
use Rattle.nt_blocks.specs.Drafts.{blob_body}
use Rattle.nt_blocks.specs.Making.{IsMaking}
use Rattle.nt_stacks.specs.declared.interner.Interned.{Interned}
use Rattle.nt_write.specs.declared.limits.TheConstants.{SIZE_BYTES, STACK_BYTES}
use Rattle.nt_write.specs.declared.fault.Fault.{Fault}
use Rattle.nt_write.specs.declared.fault.Fault.TheVariants.{WriteFault, TooLong, OutOfMemory}
use Rattle.nt_write.specs.declared.ids.IdTable.{IdTable}
use Rattle.nt_write.specs.declared.pending.Pending.{Pending}
use Rattle.nt_write.specs.declared.pending.Arrival.{Arrival}
use Rattle.nt_write.specs.declared.output.Output.{Output}
use Rattle.nt_write.specs.declared.writer.EventOut.{EventOut}
use Rattle.nt_write.specs.declared.writer.TraceWriter.{TraceWriter}
use Rattle.nt_write.specs.Value.{AreFew}
use Rattle.nt_write.specs.Layout.{Layout, id_in, new_metas, new_stacks, new_stack_body, passes}
use Rattle.nt_write.specs.Arriving.{passes_by, IsAtMost, HasRoomFor, CanFlush}

-- ---- ids

-- The id at a number of a definition, 0 where none was given.
abbrev pub id_at : IdTable → ℕ → ℕ
id_at ids number = slice_index ids.table.items number

-- The numbers that have ids, in the order of the ids.
abbrev pub numbers_in : IdTable → List ℕ
numbers_in ids = take ids.used ids.numbers.items

-- The table has the ids of the definitions that were used.
pub record AreIds (defs : ℕ → Option EventDef) (definitions : List EventDef) (ids : IdTable) : Type 0 where
  pub used : ids.used ≡ length definitions
  pub id_is : (number : ℕ) (def : EventDef) → defs number ≡ Some def → id_at ids number ≡ id_in is_same_event def definitions
  pub none_is : (number : ℕ) → defs number ≡ None → id_at ids number ≡ 0
  pub numbers : map defs (numbers_in ids) ≡ map Some definitions

-- ---- the sink

-- The sink of the output.
abbrev pub output_sink : {S : Type 0} → Output S → S
output_sink output = output.sink

-- After what it had taken at the start, the sink took these bytes.
pub record TookAll {S : Type 0} (tells : S → Bool) (taken : S → List ℕ) (start bytes : List ℕ) (sink : S) : Type 0 where
  pub all : IsTrue (tells sink) → taken sink ≡ start ++ bytes

-- After what it had taken at the start, the sink took a part of these bytes, from the first one on.
pub record TookSome {S : Type 0} (tells : S → Bool) (taken : S → List ℕ) (start bytes : List ℕ) (sink : S) : Type 0 where
  pub some : IsTrue (tells sink) → (part : List ℕ) × IsPrefix part bytes × (taken sink ≡ start ++ part)

-- After what the sink had taken at the start it took these blocks.
pub record HasWritten {S : Type 0} (tells : S → Bool) (taken : S → List ℕ) (start : List ℕ) (blocks : List Block) (output : Output S) : Type 0 where
  pub took : TookAll tells taken start (blocks_bytes blocks) output.sink
  pub alignment : output.alignment ≡ (start_len + length (blocks_bytes blocks)) % 4

-- How a call that writes raises the count of failed writes.
pub record IsCounted {S A : Type 0} (faults : S → ℕ) (old new : S) (result : Result A Fault) : Type 0 where
  pub wrote : OnOk result (faults new ≡ faults old)
  pub write_fault : result ≡ Err WriteFault → HasRisen (faults old) (faults new)
  pub too_long : result ≡ Err TooLong → ⊥
  pub memory : result ≡ Err OutOfMemory → faults new ≡ faults old
  pub later : faults old ≤ faults new

-- ---- what is not flushed

-- The bodies in the making hold what of the layout is not flushed.
pub record IsPending (layout : Layout) (pending : Pending) : Type 0 where
  pub metadata : IsMaking (new_metas layout) pending.metadata
  pub events : IsMaking layout.events pending.events
  pub first : pending.stacks.first ≡ layout.stacks_flushed + 1
  pub stacks : pending.stacks.fresh ≡ new_stacks layout

-- A body has no room for what arrives.
abbrev pub lacks_room : Layout → Arrival → Bool
lacks_room layout arrival =
    passes (blob_body layout.events) (HEAD_BYTES + arrival.payload)
    || passes_by (blob_body (new_metas layout)) HEAD_BYTES arrival.meta
    || passes_by (new_stack_body layout) SIZE_BYTES arrival.stack

-- What arrives is no longer than it may be.
pub record IsSmall (arrival : Arrival) : Type 0 where
  pub payload : arrival.payload ≤ PAYLOAD_BYTES
  pub meta : IsAtMost PAYLOAD_BYTES arrival.meta
  pub stack : IsAtMost STACK_BYTES arrival.stack

-- The bodies have room for what arrives.
pub record HasRoom (arrival : Arrival) (pending : Pending) : Type 0 where
  pub payload : HasRoomFor arrival.payload pending.events
  pub meta : (size : ℕ) → arrival.meta ≡ Some size → HasRoomFor size pending.metadata
  pub stack : (size : ℕ) → arrival.stack ≡ Some size → length (stack_body pending.stacks.first pending.stacks.fresh) + (SIZE_BYTES + size) ≤ WRITTEN_BYTES

-- Nothing is pending.
pub record IsEmptied (pending : Pending) : Type 0 where
  pub metadata : pending.metadata.bytes ≡ []
  pub events : pending.events.bytes ≡ []
  pub stacks : pending.stacks.fresh ≡ []

-- A flush leaves the stacks that have ids.
pub record KeepsStacks (old new : Pending) : Type 0 where
  pub known : new.stacks.known ≡ old.stacks.known
  pub framed : new.stacks.framed ≡ old.stacks.framed
  pub next : new.stacks.first + length new.stacks.fresh ≡ old.stacks.first + length old.stacks.fresh

-- ---- the writer

-- The ids of definitions that the writer gave.
abbrev pub ids_of : {S : Type 0} → TraceWriter S → IdTable
ids_of writer = writer.ids

-- What the writer has not flushed.
abbrev pub pending_of : {S : Type 0} → TraceWriter S → Pending
pending_of writer = writer.pending

-- The writer stands where the layout does, but for the stacks that have ids. Its events are of these definitions.
pub record IsKept {S : Type 0} (tells : S → Bool) (taken : S → List ℕ) (start : List ℕ) (defs : ℕ → Option EventDef) (layout : Layout) (writer : TraceWriter S) : Type 0 where
  pub output : HasWritten tells taken start layout.blocks writer.output
  pub pending : IsPending layout writer.pending
  pub ids : AreIds defs layout.definitions writer.ids
  pub flushes : CanFlush layout

-- The writer stands where the layout does.
pub record IsAt {S : Type 0} (tells : S → Bool) (taken : S → List ℕ) (start : List ℕ) (defs : ℕ → Option EventDef) (layout : Layout) (writer : TraceWriter S) : Type 0 where
  pub kept : IsKept tells taken start defs layout writer
  pub known : writer.pending.stacks.known ≡ layout.stacks
  pub few : AreFew writer.pending.stacks.known writer.pending.stacks.framed

-- ---- what arrives

-- An event's payload, and the payload of its definition and its stack where these are new.
abbrev pub arrival_for : EventOut → Option (List ℕ) → Interned → Arrival
arrival_for out meta stack =
    record {
      payload = length out.payload.now;
      meta = option_map (λ bytes. length bytes) meta;
      stack = if stack.is_new then Some (length out.frames.now) else None;
    }
