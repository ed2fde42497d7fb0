-- What a session's stream tells (the NetTrace format document of PerfView, version 4: events and sequence points; what
-- stands between them is this project's profile).
use Rattle.std.specs.Prelude.{ℕ, ◌+◌, Bool, false, ◌&&◌, ◌||◌, not, List, [], ◌∷◌, ◌++◌, map, filter, Option, Some, None, ◌==◌, if◌then◌else◌}
use Rattle.std.specs.List.{flat_map}
use Rattle.std.specs.Int.{w64, to_le_bytes}
use Rattle.std.specs.Option.{option_map_or}
use Rattle.ep_defs.specs.Definitions.{definition_at}
use Rattle.ep_defs.specs.declared.event.EventDef.{EventDef}
use Rattle.ep_defs.specs.declared.session.Write.{Write}
use Rattle.ep_defs.specs.Entry.{EventEntry, PointEntry, Entry, Event, Point}
use Rattle.ep_model.specs.declared.step.Step.TheVariants as step
use Rattle.ep_model.specs.Chunks.{is_refused}
use Rattle.ep_model.specs.History.{Past, Begun, config_of, last_begun, opened, is_open, shows}

-- ---- events

-- The session's stream has the stacks of events.
abbrev pub has_stacks : ℕ → Past → Bool
has_stacks session past = option_map_or (λ config. config.stackwalk) (config_of session past) false

-- The addresses of a write's frames, of 8 bytes each; none where the stream has no stacks.
abbrev pub stack_of : Bool → Write → List ℕ
stack_of stacks write = if stacks then flat_map (to_le_bytes w64) write.frames else []

-- The entry of a write under this number.
abbrev pub event_entry : Bool → ℕ → ℕ → Begun → EventDef → EventEntry
event_entry stacks thread number begun def =
    record {
      thread = thread;
      number = number;
      stamp = begun.stamp;
      def = def;
      activity = begun.write.activity;
      related = begun.write.related;
      stack = stack_of stacks begun.write;
      payload = begun.write.payload;
    }

-- The same, if the write's event is defined.
abbrev pub entry_if : Bool → ℕ → ℕ → Begun → Option EventDef → List EventEntry
entry_if stacks thread number begun None = []
entry_if stacks thread number begun (Some def) = event_entry stacks thread number begun def ∷ []

-- The entry of the write that the thread began last.
abbrev pub entry_shown : List EventDef → Bool → ℕ → ℕ → Option Begun → List EventEntry
entry_shown definitions stacks thread number None = []
entry_shown definitions stacks thread number (Some begun) = entry_if stacks thread number begun (definition_at definitions begun.write.event)

-- The written Shows since the last Steal, or since the Open, the oldest first. The k-th Show has the number k.
abbrev pub pending : List EventDef → ℕ → ℕ → Past → List EventEntry
pending definitions session thread [] = []
pending definitions session thread (step.Show t s ∷ past) =
    if (s == session) && (t == thread) && not (is_refused session thread past)
    then pending definitions session thread past ++ entry_shown definitions (has_stacks session past) thread (shows session thread past + 1) (last_begun thread past)
    else pending definitions session thread past
pending definitions session thread (step.Steal s t ∷ past) = if (s == session) && (t == thread) then [] else pending definitions session thread past
pending definitions session thread (step.Close s t ∷ past) = if (s == session) && (t == thread) then [] else pending definitions session thread past
pending definitions session thread (_ ∷ past) = pending definitions session thread past

-- ---- points

-- The number of the last Show before the thread's last Steal or Close, or 0.
abbrev pub told_number : ℕ → ℕ → Past → ℕ
told_number session thread [] = 0
told_number session thread (step.Steal s t ∷ past) =
    if (s == session) && (t == thread) then shows session thread past else told_number session thread past
told_number session thread (step.Close s t ∷ past) =
    if (s == session) && (t == thread) then shows session thread past else told_number session thread past
told_number session thread (_ ∷ past) = told_number session thread past

-- The session was closed on the thread, and its stream has had no point since.
abbrev pub awaits_point : ℕ → ℕ → Past → Bool
awaits_point session thread [] = false
awaits_point session thread (step.Close s t ∷ past) = ((s == session) && (t == thread)) || awaits_point session thread past
awaits_point session thread (step.Point s stamp ∷ past) = not (s == session) && awaits_point session thread past
awaits_point session thread (step.Finish s stamp ∷ past) = not (s == session) && awaits_point session thread past
awaits_point session thread (_ ∷ past) = awaits_point session thread past

-- A point names a thread from the session's opening there until its last number is told.
abbrev pub is_named : ℕ → ℕ → Past → Bool
is_named session thread past = is_open session thread past || awaits_point session thread past

-- What a point at this stamp says: the threads that it names, ascending, each with its number.
abbrev pub point_entry : ℕ → ℕ → Past → PointEntry
point_entry session stamp past =
    record { stamp = stamp; threads = map (λ t. (t, told_number session t past)) (filter (λ t. is_named session t past) (opened session past)) }

-- ---- entries

-- A session's entries: the events of each Steal and Close, and the points.
abbrev pub entries : List EventDef → ℕ → Past → List Entry
entries definitions session [] = []
entries definitions session (step.Steal s t ∷ past) =
    if s == session then entries definitions session past ++ map Event (pending definitions session t past) else entries definitions session past
entries definitions session (step.Close s t ∷ past) =
    if s == session then entries definitions session past ++ map Event (pending definitions session t past) else entries definitions session past
entries definitions session (step.Point s stamp ∷ past) =
    if s == session then entries definitions session past ++ Point (point_entry session stamp past) ∷ [] else entries definitions session past
entries definitions session (step.Finish s stamp ∷ past) =
    if s == session then entries definitions session past ++ Point (point_entry session stamp past) ∷ [] else entries definitions session past
entries definitions session (_ ∷ past) = entries definitions session past
