-- What a session's writer has told so far.
use Rattle.std.specs.Prelude.{◌≡◌, ◌≢◌, ℕ, ◌%◌, ◌<◌, ◌≤◌, ◌⊎◌, Bool, List, ◌++◌, length, map, Option, Some, None, Result, Err, OnOk, OnErr, IsTrue}
use Rattle.std.specs.List.{flat_map}
use Rattle.ep_defs.specs.declared.event.EventDef.{EventDef}
use Rattle.ep_defs.specs.declared.session.TraceInfo.{TraceInfo}
use Rattle.ep_defs.specs.Entry.{Entry, Event}
use Rattle.ep_defs.specs.declared.limits.TheConstants.{PAYLOAD_BYTES}
use Rattle.ep_defs.specs.Session.{fits}
use Rattle.ep_chunk.specs.Record.{Record}
use Rattle.ep_chunk.specs.declared.rec.RecOut.{RecOut}
use Rattle.ep_model.specs.History.{Begun}
use Rattle.ep_model.specs.Entries.{entry_shown}
use Rattle.ep_row.specs.AtRest.{write_of}
use Rattle.pt_io.specs.Faults.{HasRisen}
use Rattle.nt_write.specs.declared.fault.Fault.{Fault}
use Rattle.nt_write.specs.declared.fault.Fault.TheVariants.{WriteFault, TooLong}
use Rattle.nt_write.specs.declared.limits.TheConstants.{FRAMED_EVENTS}
use Rattle.nt_write.specs.declared.writer.TraceWriter.{TraceWriter}
use Rattle.nt_write.specs.Writable.{framed}
use Rattle.nt_write.specs.Writer.{fault_of, sink_of, IsWriting, TookPart, TookStream}
use Rattle.ep_stream.specs.Rows.{IsDefined}

-- ---- the entries of records

-- The write of a record, with its stamp.
abbrev pub begun_of : Record → Begun
begun_of r = record { stamp = r.stamp; write = write_of r }

-- The entry of a record, in a stream with stacks or without.
abbrev pub entry_of : List EventDef → Bool → Record → List Entry
entry_of events stacks r = map Event (entry_shown events stacks r.thread r.number (Some (begun_of r)))

-- The entries of records, in their order.
abbrev pub entries_of : List EventDef → Bool → List Record → List Entry
entries_of events stacks records = flat_map (entry_of events stacks) records

-- ---- what was told

-- The first entries begin the second.
abbrev pub IsFront : List Entry → List Entry → Type 0
IsFront first entries = (rest : List Entry) × (first ++ rest ≡ entries)

-- The writer, which began when its sink had taken some bytes, stands for these entries: it writes them, or it has failed
-- and its sink took what begins their stream. Where it ran out of stack ids more of them than there are ids have a stack.
pub record IsTelling {S : Type 0} (tells : S → Bool) (taken : S → List ℕ) (before : List ℕ) (defs : ℕ → Option EventDef) (info : TraceInfo) (told : List Entry) (writer : TraceWriter S) : Type 0 where
  pub sound : fault_of writer ≡ None → IsWriting tells taken before defs info told writer
  pub failed : (fault : Fault) → fault_of writer ≡ Some fault → TookPart tells taken before info told (sink_of writer)
  pub spent : fault_of writer ≡ Some TooLong → FRAMED_EVENTS < framed told

-- After a call that was to tell these entries the writer has told some of them, from the first one on, and all of them
-- where the call answered no fault.
pub record Tells {S A : Type 0} (tells : S → Bool) (taken : S → List ℕ) (before : List ℕ) (defs : ℕ → Option EventDef) (info : TraceInfo) (told entries : List Entry) (result : Result A Fault) (writer : TraceWriter S) : Type 0 where
  pub done : List Entry
  pub front : IsFront done entries
  pub telling : IsTelling tells taken before defs info (told ++ done) writer
  pub all : OnOk result (done ≡ entries)

-- Whatever entries the writer had told by these definitions, the call was to tell these behind them.
abbrev pub TellsNext : {S A : Type 0} → (S → Bool) → (S → List ℕ) → (ℕ → Option EventDef) → List Entry → TraceWriter S → TraceWriter S → Result A Fault → Type 0
TellsNext tells taken defs entries old new result =
    (before : List ℕ) (info : TraceInfo) (told : List Entry)
    → IsTelling tells taken before defs info told old
    → Tells tells taken before defs info told entries result new

-- The same at the end of the stream: the entries follow from those that were told, and stand by the last definitions.
abbrev pub TellsLast : {S A : Type 0} → (S → Bool) → (S → List ℕ) → (ℕ → Option EventDef) → (ℕ → Option EventDef) → (List Entry → List Entry) → TraceWriter S → TraceWriter S → Result A Fault → Type 0
TellsLast tells taken defs last_defs entries old new result =
    (before : List ℕ) (info : TraceInfo) (told : List Entry)
    → IsTelling tells taken before defs info told old
    → Tells tells taken before last_defs info told (entries told) result new

-- What the sink took once the stream was to end with these entries: the one stream that tells them, or after a fault what
-- begins the stream of some of them, from the first one on. Where the writer had run out of stack ids more of the entries
-- than there are ids have a stack.
pub record Ends {S A : Type 0} (tells : S → Bool) (taken : S → List ℕ) (before : List ℕ) (info : TraceInfo) (told entries : List Entry) (answer : Result A Fault) (sink : S) : Type 0 where
  pub done : List Entry
  pub front : IsFront done entries
  pub whole : OnOk answer (TookStream tells taken before info (told ++ entries) sink)
  pub part : OnErr answer (TookPart tells taken before info (told ++ done) sink)
  pub spent : answer ≡ Err TooLong → FRAMED_EVENTS < framed (told ++ done)

-- A fault stays, and one of the sink comes only where the sink's count of faults rose or the writer had failed with it. With
-- any other answer that count is as before.
pub record IsFaulty {S A : Type 0} (faults : S → ℕ) (old new : TraceWriter S) (result : Result A Fault) : Type 0 where
  pub fails : (fault : Fault) → result ≡ Err fault → fault_of new ≡ Some fault
  pub sound : OnOk result (fault_of new ≡ None)
  pub stays : (fault : Fault) → fault_of old ≡ Some fault → result ≡ Err fault
  pub write_fault : result ≡ Err WriteFault → (fault_of old ≡ Some WriteFault) ⊎ HasRisen (faults (sink_of old)) (faults (sink_of new))
  pub wrote : result ≢ Err WriteFault → faults (sink_of new) ≡ faults (sink_of old)
  pub later : faults (sink_of old) ≤ faults (sink_of new)

-- ---- records that can be told

-- The record is of a write of the program, and has a number.
pub record IsWritable (events : List EventDef) (r : Record) : Type 0 where
  pub defined : IsDefined events r
  pub numbered : 0 < r.number
  pub fit : IsTrue (fits (write_of r))

-- The same of a record as it was read.
pub record CanBeRead (events : List EventDef) (out : RecOut) : Type 0 where
  pub some : 0 < out.event
  pub defined : out.event ≤ length events
  pub numbered : 0 < out.number
  pub frames : length out.frames.now ≤ 800
  pub whole : length out.frames.now % 8 ≡ 0
  pub payload : length out.payload.now ≤ PAYLOAD_BYTES
