-- What a writer has written, and what it keeps until the next flush.
use Rattle.std.specs.Prelude.{◌≡◌, ◌⊎◌, ℕ, ◌++◌, Bool, List, Option, Some, None, Result, Err, Contains, IsTrue}
use Rattle.std.specs.List.{AllByRecursion}
use Rattle.ep_defs.specs.declared.event.EventDef.{EventDef}
use Rattle.ep_defs.specs.declared.session.TraceInfo.{TraceInfo}
use Rattle.ep_defs.specs.Session.{is_info}
use Rattle.ep_defs.specs.Entry.{EventEntry, PointEntry, Entry}
use Rattle.pt_io.specs.declared.sink.Sink.{Ghosts as Sink}
use Rattle.pt_io.specs.Faults.{HasRisen}
use Rattle.pt_io.specs.Taken.{IsPrefix}
use Rattle.nt_object.specs.Stream.{stream_start}
use Rattle.nt_write.specs.declared.fault.Fault.{Fault}
use Rattle.nt_write.specs.declared.fault.Fault.TheVariants.{WriteFault}
use Rattle.nt_write.specs.declared.writer.EventOut.{EventOut}
use Rattle.nt_write.specs.declared.writer.TraceWriter.{TraceWriter}
use Rattle.nt_write.specs.Layout.{empty_layout, with_entries}
use Rattle.nt_write.specs.Writable.{CanTell, StacksFit, framed}
use Rattle.nt_write.specs.Writing.{IsAt}
use Rattle.nt_write.specs.Canonical.{IsCanonical}

-- The fault that the writer answered, if it did.
abbrev pub fault_of : {S : Type 0} → TraceWriter S → Option Fault
fault_of writer = writer.fault

-- The sink of the writer.
abbrev pub sink_of : {S : Type 0} → TraceWriter S → S
sink_of writer = writer.output.sink

-- A writer that had failed answers its fault again, and stays as it is.
abbrev pub StaysFailed : {S A : Type 0} → TraceWriter S → TraceWriter S → Result A Fault → Type 0
StaysFailed old new result =
    (fault : Fault) → fault_of old ≡ Some fault → (result ≡ Err fault) × (new ≡ old)

-- A writer answers that its sink failed only where it had answered so before, or the sink failed in this call.
abbrev pub TellsWriteFault : {S A : Type 0} → (S → ℕ) → TraceWriter S → TraceWriter S → Result A Fault → Type 0
TellsWriteFault faults old new result =
    result ≡ Err WriteFault → (fault_of old ≡ Some WriteFault) ⊎ HasRisen (faults (sink_of old)) (faults (sink_of new))

-- The entry of an event that is written with this definition.
abbrev pub entry_of : EventDef → EventOut → EventEntry
entry_of def out =
    record {
      thread = out.thread;
      number = out.number;
      stamp = out.stamp;
      def = def;
      activity = out.activity;
      related = out.related;
      stack = out.frames.now;
      payload = out.payload.now;
    }

-- The entry of a point.
abbrev pub point_of : ℕ → List (ℕ × ℕ) → PointEntry
point_of stamp threads = record { stamp = stamp; threads = threads }

-- The writer, which began when its sink had taken some bytes, stands for these entries and has not failed.
-- Its events are of these definitions, by their numbers.
pub record IsWriting {S : Type 0} (tells : S → Bool) (taken : S → List ℕ) (before : List ℕ) (defs : ℕ → Option EventDef) (info : TraceInfo) (entries : List Entry) (writer : TraceWriter S) : Type 0 where
  pub sound : writer.fault ≡ None
  pub at : IsAt tells taken (before ++ stream_start info) defs (with_entries empty_layout entries) writer
  pub framed_are : writer.pending.stacks.framed ≡ framed entries
  pub info_fits : IsTrue (is_info info)
  pub can_tell : AllByRecursion CanTell entries
  pub stacks_fit : StacksFit empty_layout entries

-- Whatever the writer stands for, this holds: of what its sink had taken when it began, its definitions, what its stream
-- says of the session, and its entries.
abbrev pub IfWriting : {S : Type 0} → Sink S → TraceWriter S → (List ℕ → (ℕ → Option EventDef) → TraceInfo → List Entry → Type 0) → Type 0
IfWriting sink writer Holds =
    (before : List ℕ) (defs : ℕ → Option EventDef) (info : TraceInfo) (entries : List Entry)
    → IsWriting sink.tells_taken sink.taken before defs info entries writer → Holds before defs info entries

-- What the sink took begins the stream of these entries.
abbrev pub TookPart : {S : Type 0} → (S → Bool) → (S → List ℕ) → List ℕ → TraceInfo → List Entry → S → Type 0
TookPart tells taken before info entries sink =
    IsTrue (tells sink) → (bytes part : List ℕ) × IsCanonical info entries bytes × IsPrefix part bytes × (taken sink ≡ before ++ part)

-- What the sink took is the one stream of these entries.
abbrev pub TookStream : {S : Type 0} → (S → Bool) → (S → List ℕ) → List ℕ → TraceInfo → List Entry → S → Type 0
TookStream tells taken before info entries sink =
    IsTrue (tells sink) → (bytes : List ℕ) × IsCanonical info entries bytes × (taken sink ≡ before ++ bytes)

-- The second definitions by number have what the first have, and more: none of those is among what was used.
pub record Extends (used : List EventDef) (defs more : ℕ → Option EventDef) : Type 0 where
  pub same : (number : ℕ) (def : EventDef) → defs number ≡ Some def → more number ≡ Some def
  pub new : (number : ℕ) (def : EventDef) → defs number ≡ None → more number ≡ Some def → Contains used def → ⊥
