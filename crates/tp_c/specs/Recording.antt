-- What a recorder stands for.
use Rattle.std.specs.Prelude.{◌≡◌, ℕ, ◌+◌, ◌%◌, ◌++◌, Bool, true, false, ◌&&◌, ◌||◌, not, List, [], ◌∷◌, length, nat_le, nat_lt, ◌==◌, Option, Some, None, Result, Err, OnOk, is_some, is_none, if◌then◌else◌}
use Rattle.std.specs.Option.{option_or}
use Rattle.ep_defs.specs.declared.event.EventDef.{EventDef}
use Rattle.ep_defs.specs.declared.limits.TheConstants.{FRAME_BYTES, PAYLOAD_BYTES}
use Rattle.ep_defs.specs.declared.session.TraceInfo.{TraceInfo}
use Rattle.ep_defs.specs.Definitions.{AreDistinct, definition_at}
use Rattle.ep_defs.specs.Entry.{EventEntry, Entry, Event}
use Rattle.pt_io.specs.Taken.{IsPrefix}
use Rattle.nt_write.specs.declared.limits.TheConstants.{FRAMED_EVENTS, STACK_BYTES}
use Rattle.nt_write.specs.declared.writer.TraceWriter.{TraceWriter}
use Rattle.nt_write.specs.Canonical.{IsCanonical}
use Rattle.nt_write.specs.Writable.{framed}
use Rattle.nt_write.specs.Writer.{IsWriting, fault_of, sink_of}
use Rattle.tp_c.specs.declared.recorder.Stage.{Stage}
use Rattle.tp_c.specs.declared.recorder.Stage.TheVariants.{Open, Over}
use Rattle.tp_c.specs.declared.recorder.Recorder.{Recorder}
use Rattle.tp_c.specs.declared.refusal.Refusal.{Refusal}
use Rattle.tp_c.specs.declared.refusal.Refusal.TheVariants.{BadNames, NoDefinition, BadFrames, LongPayload, TooManyStacks, Ended, Cut}
use Rattle.tp_c.specs.declared.shapes.Definition.{Definition}
use Rattle.tp_c.specs.declared.shapes.EventHead.{EventHead}
use Rattle.tp_c.specs.declared.shapes.Field.{Field}
use Rattle.tp_c.specs.Counting.{events_of, thread_refused, IsRoll}
use Rattle.tp_c.specs.Defining.{definition_refused}
use Rattle.tp_c.specs.Outgoing.{Outgoing, all_of}
use Rattle.tp_c.specs.Shapes.{are_named, definition_of}

-- ---- what is seen of a recorder

-- Its definitions, numbered from 1.
abbrev pub definitions_of : Recorder → List EventDef
definitions_of recorder = recorder.definitions

-- Its threads, each with the count of its events.
abbrev pub threads_of : Recorder → List (ℕ × ℕ)
threads_of recorder = recorder.threads

-- The bytes of a stage.
abbrev pub bytes_of : Stage → Outgoing
bytes_of (Open writer) = sink_of writer
bytes_of (Over outlet is_whole) = outlet

-- The bytes that were pulled, and those that are left.
abbrev pub outgoing_of : Recorder → Outgoing
outgoing_of recorder = bytes_of recorder.stage

-- ---- what a stream stands for

-- The numbers of these definitions are theirs in the table too.
abbrev pub HasAll : List EventDef → (ℕ → Option EventDef) → Type 0
HasAll definitions table =
    (number : ℕ) (def : EventDef) → definition_at definitions number ≡ Some def → table number ≡ Some def

-- The writer stands for the entries, whatever definitions are to come.
abbrev pub IsOpen : TraceInfo → List Entry → List EventDef → TraceWriter Outgoing → Type 0
IsOpen info entries definitions writer =
    (table : ℕ → Option EventDef) → AreDistinct table → HasAll definitions table
    → IsWriting (λ _. true) all_of [] table info entries writer

-- What was pulled, and what is left, is the stream of the entries.
abbrev pub IsComplete : TraceInfo → List Entry → Outgoing → Type 0
IsComplete info entries outgoing = IsCanonical info entries (all_of outgoing)

-- What was pulled, and what is left, begins the stream of the entries.
abbrev pub IsBegun : TraceInfo → List Entry → Outgoing → Type 0
IsBegun info entries outgoing =
    (bytes : List ℕ) × IsCanonical info entries bytes × IsPrefix (all_of outgoing) bytes

-- The stage stands for the entries.
abbrev pub StandsFor : TraceInfo → List Entry → List EventDef → Stage → Type 0
StandsFor info entries definitions (Open writer) = IsOpen info entries definitions writer
StandsFor info entries definitions (Over outlet true) = IsComplete info entries outlet
StandsFor info entries definitions (Over outlet false) = ⊥

-- The stream has its end.
abbrev pub is_over_stage : Stage → Bool
is_over_stage (Open writer) = false
is_over_stage (Over outlet is_whole) = true

abbrev pub is_over : Recorder → Bool
is_over recorder = is_over_stage recorder.stage

-- The recorder stands for exactly these entries, and these bytes were pulled of their stream.
pub record IsRecording (info : TraceInfo) (entries : List Entry) (pulled : List ℕ) (recorder : Recorder) : Type 0 where
  pub stands : StandsFor info entries recorder.definitions recorder.stage
  pub bytes : (outgoing_of recorder).pulled ≡ pulled
  pub distinct : AreDistinct (definition_at recorder.definitions)
  pub roll : IsRoll entries (threads_of recorder)
  pub framed_are : recorder.framed ≡ framed entries

-- The stage is cut: a write found no memory.
abbrev pub is_cut_stage : Stage → Bool
is_cut_stage (Open writer) = is_some (fault_of writer)
is_cut_stage (Over outlet is_whole) = not is_whole

abbrev pub is_cut : Recorder → Bool
is_cut recorder = is_cut_stage recorder.stage

-- The stream was cut amid the last of these entries, and these bytes were pulled of it.
pub record IsCut (info : TraceInfo) (entries : List Entry) (pulled : List ℕ) (recorder : Recorder) : Type 0 where
  pub cut : is_cut recorder ≡ true
  pub begun : IsBegun info entries (outgoing_of recorder)
  pub bytes : (outgoing_of recorder).pulled ≡ pulled

-- ---- what is refused

-- Why a definition, an event or a point is refused, whatever it says: the stream has its end, or was cut.
abbrev pub stage_refused : Stage → Option Refusal
stage_refused (Open writer) = if is_some (fault_of writer) then Some Cut else None
stage_refused (Over outlet is_whole) = Some Ended

abbrev pub call_refused : Recorder → Option Refusal
call_refused recorder = stage_refused recorder.stage

-- Why a definition is refused.
abbrev pub define_refused : Recorder → Definition → List ℕ → List ℕ → List Field → List ℕ → Option Refusal
define_refused recorder definition provider name fields names =
    option_or (call_refused recorder)
    (if not (are_named fields names) then Some BadNames
    else definition_refused recorder.definitions (definition_of definition provider name fields names))

-- At most 100 frames, of 8 bytes each.
abbrev pub are_frames : List ℕ → Bool
are_frames frames = nat_le (length frames) STACK_BYTES && (length frames % FRAME_BYTES == 0)

-- The stacks since the last point can be numbered with one more.
abbrev pub has_stack_left : ℕ → List ℕ → Bool
has_stack_left count frames = (length frames == 0) || nat_lt count FRAMED_EVENTS

-- Why an event is refused, whichever thread writes it: the first of these reasons that holds, if one does.
abbrev pub head_refused : Recorder → ℕ → List ℕ → List ℕ → Option Refusal
head_refused recorder event frames payload =
    if is_some (call_refused recorder) then call_refused recorder
    else (if is_none (definition_at recorder.definitions event) then Some NoDefinition
    else (if not (are_frames frames) then Some BadFrames
    else (if not (nat_le (length payload) PAYLOAD_BYTES) then Some LongPayload
    else (if not (has_stack_left recorder.framed frames) then Some TooManyStacks else None))))

-- Why an event is refused: for one of these reasons, or since its thread can't have one more.
abbrev pub event_refused : Recorder → EventHead → List ℕ → List ℕ → Option Refusal
event_refused recorder head frames payload =
    option_or (head_refused recorder head.event frames payload) (thread_refused (threads_of recorder) head.thread)

-- ---- what is taken

-- The entry of an event: it has the next number of its thread.
abbrev pub event_of : EventDef → List Entry → EventHead → List ℕ → List ℕ → EventEntry
event_of def entries head frames payload =
    record {
      thread = head.thread;
      number = events_of head.thread entries + 1;
      stamp = head.stamp;
      def = def;
      activity = head.activity;
      related = head.related;
      stack = frames;
      payload = payload;
    }

-- The recorder stands for the event too.
abbrev pub HasTaken : TraceInfo → List Entry → List ℕ → Recorder → EventHead → List ℕ → List ℕ → Recorder → Type 0
HasTaken info entries pulled old head frames payload new =
    (def : EventDef) × (definition_at (definitions_of old) head.event ≡ Some def)
    × IsRecording info (entries ++ Event (event_of def entries head frames payload) ∷ []) pulled new

-- The stream was cut amid the event.
abbrev pub HasCut : TraceInfo → List Entry → List ℕ → Recorder → EventHead → List ℕ → List ℕ → Recorder → Type 0
HasCut info entries pulled old head frames payload new =
    (def : EventDef) × (definition_at (definitions_of old) head.event ≡ Some def)
    × IsCut info (entries ++ Event (event_of def entries head frames payload) ∷ []) pulled new

-- On success the recorder stands for the event too, whatever it stood for.
abbrev pub TakesEvent : {A : Type 0} → Recorder → EventHead → List ℕ → List ℕ → Recorder → Result A Refusal → Type 0
TakesEvent old head frames payload new result =
    (info : TraceInfo) (entries : List Entry) (pulled : List ℕ)
    → IsRecording info entries pulled old → OnOk result (HasTaken info entries pulled old head frames payload new)

-- Where it answers that it was cut, it was cut amid the event.
abbrev pub CutsEvent : {A : Type 0} → Recorder → EventHead → List ℕ → List ℕ → Recorder → Result A Refusal → Type 0
CutsEvent old head frames payload new result =
    (info : TraceInfo) (entries : List Entry) (pulled : List ℕ)
    → IsRecording info entries pulled old → result ≡ Err Cut → HasCut info entries pulled old head frames payload new
