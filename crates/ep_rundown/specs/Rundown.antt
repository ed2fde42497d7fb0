-- The rundown: what a session's stream says of the definitions that it used, before its last point. EventPipe of
-- dotnet/runtime ends a trace with a rundown of what its events name; what this one holds is this project's profile.
use Rattle.std.specs.Prelude.{◌≡◌, ℕ, ◌+◌, Bool, true, false, not, List, [], ◌∷◌, ◌++◌, length, Option, Some, filter, ◌==◌, if◌then◌else◌, codes}
use Rattle.std.specs.List.{list_all}
use Rattle.ep_defs.specs.declared.event.EventDef.{EventDef}
use Rattle.ep_defs.specs.Entry.{EventEntry, PointEntry, Entry, Event, Point}
use Rattle.ep_defs.specs.Event.{is_same_event}
use Rattle.ep_defs.specs.Samples.{zero_id}
use Rattle.nt_meta.specs.Meta.{meta_payload}
use Rattle.ep_rundown.specs.declared.limits.TheConstants.{RUNDOWN_EVENT}

-- The definition of the events that describe others.
abbrev pub rundown_def : EventDef
rundown_def =
    record { provider = codes "Pipe-Rundown"; id = 1; version = 0; level = 4; keywords = 0; name = codes "EventDescription"; fields = [] }

-- No definition of a program is that one.
abbrev pub lacks_rundown : List EventDef → Bool
lacks_rundown events = list_all (λ def. not (is_same_event def rundown_def)) events

-- The payload of the event that describes a definition is what defines it in the stream (the NetTrace format document of
-- PerfView (version 4), "MetadataBlock"), under the same metadata id.
abbrev pub description : ℕ → EventDef → List ℕ
description id def = meta_payload id def

-- The definitions that events name, each once, in the order of their first event, which is that of their metadata ids.
abbrev pub used : List Entry → List EventDef
used [] = []
used (Event event ∷ entries) = event.def ∷ filter (λ def. not (is_same_event event.def def)) (used entries)
used (Point point ∷ entries) = used entries

-- The entry is an event of this definition.
abbrev pub Names : EventDef → Entry → Type 0
Names def (Event event) = event.def ≡ def
Names def (Point point) = ⊥

-- The event that describes the definition with this metadata id. No thread wrote it: its thread is 0.
abbrev pub describing : ℕ → ℕ → EventDef → EventEntry
describing stamp id def =
    record { thread = 0; number = id; stamp = stamp; def = rundown_def; activity = zero_id; related = zero_id; stack = []; payload = description id def }

-- One for each of these definitions, whose ids run from this one on.
abbrev pub describing_from : ℕ → ℕ → List EventDef → List Entry
describing_from stamp id [] = []
describing_from stamp id (def ∷ defs) = Event (describing stamp id def) ∷ describing_from stamp (id + 1) defs

-- The section: one for each definition that the entries use.
abbrev pub section : ℕ → List Entry → List Entry
section stamp entries = describing_from stamp 1 (used entries)

-- The point that names thread 0 first, with how many events that thread has.
abbrev pub naming : ℕ → PointEntry → PointEntry
naming count point = record point { threads = (0, count) ∷ point.threads }

-- The entries with the descriptions of these definitions before a point at their end, which has the same stamp and names
-- their thread.
abbrev pub describing_at_end : List EventDef → List Entry → List Entry
describing_at_end defs [] = []
describing_at_end defs (Point point ∷ []) = describing_from point.stamp 1 defs ++ Point (naming (length defs) point) ∷ []
describing_at_end defs (entry ∷ entries) = entry ∷ describing_at_end defs entries

-- The entries that the stream of a finished session tells: with the section before the last point, where the session was
-- asked for a rundown.
abbrev pub with_section : Bool → List Entry → List Entry
with_section false entries = entries
with_section true entries = describing_at_end (used entries) entries

-- What comes after entries whose last point is still to come: the section, where the session was asked for a rundown, and
-- that point.
abbrev pub ending : Bool → List Entry → PointEntry → List Entry
ending false entries point = Point point ∷ []
ending true entries point = section point.stamp entries ++ Point (naming (length (used entries)) point) ∷ []

-- A program's definitions by their numbers, and that of the rundown by its own.
abbrev pub with_rundown : (ℕ → Option EventDef) → ℕ → Option EventDef
with_rundown definitions number = if number == RUNDOWN_EVENT then Some rundown_def else definitions number
