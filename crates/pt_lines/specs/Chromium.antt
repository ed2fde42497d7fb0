-- The object of a line in a file of trace events (Google's "Trace Event Format", its JSON object form; this project's profile).
use Rattle.std.specs.Prelude.{ℕ, ◌-◌, ◌*◌, ◌/◌, ◌%◌, ◌==◌, if◌then◌else◌, List, [], ◌∷◌, ◌++◌, length, take, drop, replicate, codes, Option, Some, None}
use Rattle.std.specs.Fmt.{decimal}
use Rattle.ep_defs.specs.Entry.{EventEntry, PointEntry}
use Rattle.ep_defs.specs.Event.{is_same_text}
use Rattle.pt_lines.specs.declared.limits.TheConstants.{NANOSECONDS}
use Rattle.pt_lines.specs.declared.chromium.phase.Phase.{Phase}
use Rattle.pt_lines.specs.declared.chromium.phase.Phase.TheVariants as phases
use Rattle.pt_lines.specs.declared.origin.Origin.{Origin}
use Rattle.pt_lines.specs.Texts.{digits_in, quoted}
use Rattle.pt_lines.specs.Json.{error_object, integer, object, uuid_text}

-- ---- moments

-- A stamp in nanoseconds, where so many ticks make a second. Where a stream doesn't say how many, a tick is a nanosecond.
abbrev pub nanoseconds : ℕ → ℕ → ℕ
nanoseconds frequency stamp = if frequency == 0 then stamp else stamp * NANOSECONDS / frequency

-- Nanoseconds as microseconds, three digits of which stand behind the point.
abbrev pub microseconds : ℕ → List ℕ
microseconds nanos = decimal (nanos / 1000) ++ codes "." ++ digits_in 3 (nanos % 1000)

-- ---- spans

-- What stands before this end of a name, where the name has it.
abbrev pub stem_of : List ℕ → List ℕ → Option (List ℕ)
stem_of end name =
    if is_same_text (drop (length name - length end) name) end then Some (take (length name - length end) name) else None

-- A phase and the name that it is of, by what stands before `Start` and before `Stop`.
abbrev pub phase_by : List ℕ → Option (List ℕ) → Option (List ℕ) → Phase × List ℕ
phase_by name (Some stem) stop = (phases.Begin, stem)
phase_by name None (Some stem) = (phases.End, stem)
phase_by name None None = (phases.Instant, name)

-- An event of an activity begins a span of it where its name ends in `Start`, and ends one where it ends in `Stop`: the one of
-- what stands before that (the convention of .NET's EventSource). Every other event is an instant of its own name. An activity
-- of sixteen zeros is none.
abbrev pub phase_of : List ℕ → List ℕ → Phase × List ℕ
phase_of activity name =
    if is_same_text activity (replicate 16 0) then (phases.Instant, name)
    else phase_by name (stem_of (codes "Start") name) (stem_of (codes "Stop") name)

-- The members that tell a phase: an instant of a thread, or an end of a span, whose id is its activity.
abbrev pub phase_text : List ℕ → Phase → List ℕ
phase_text activity phases.Instant = codes "\"ph\":\"i\",\"s\":\"t\""
phase_text activity phases.Begin = codes "\"ph\":\"b\",\"id\":" ++ uuid_text activity
phase_text activity phases.End = codes "\"ph\":\"e\",\"id\":" ++ uuid_text activity

-- ---- objects

-- An object on a line of its own, behind the comma that parts it from those before.
abbrev pub next_object : List (List ℕ) → List ℕ
next_object members = codes ",\n" ++ object members

-- When something was, and in which process.
abbrev pub moment_text : Origin → ℕ → List ℕ
moment_text origin stamp =
    codes "\"ts\":" ++ microseconds (nanoseconds origin.frequency stamp) ++ codes ",\"pid\":" ++ integer origin.process

-- How many numbers a thread leaves out at this stamp: a counter of its own for each thread.
abbrev pub lost_counter : Origin → ℕ → ℕ → ℕ → List ℕ
lost_counter origin stamp thread count =
    next_object
    (codes "\"name\":\"lost\""
    ∷ codes "\"ph\":\"C\""
    ∷ (codes "\"id\":" ++ integer thread)
    ∷ moment_text origin stamp
    ∷ (codes "\"tid\":" ++ integer thread)
    ∷ (codes "\"args\":" ++ object ((codes "\"count\":" ++ integer count) ∷ []))
    ∷ [])

-- A point is an instant of its process, with how many threads it names.
abbrev pub point_instant : Origin → PointEntry → List ℕ
point_instant origin point =
    next_object
    (codes "\"name\":\"point\""
    ∷ codes "\"ph\":\"i\""
    ∷ codes "\"s\":\"p\""
    ∷ moment_text origin point.stamp
    ∷ (codes "\"args\":" ++ object ((codes "\"threads\":" ++ integer (length point.threads)) ∷ []))
    ∷ [])

-- An event in this phase of this name, with the member of its payload.
abbrev pub event_in : Origin → Phase × List ℕ → EventEntry → List ℕ → List ℕ
event_in origin phase event payload =
    next_object
    ((codes "\"name\":" ++ quoted phase.1)
    ∷ (codes "\"cat\":" ++ quoted event.def.provider)
    ∷ phase_text event.activity phase.0
    ∷ moment_text origin event.stamp
    ∷ (codes "\"tid\":" ++ integer event.thread)
    ∷ (codes "\"args\":" ++ object ((codes "\"number\":" ++ integer event.number) ∷ payload ∷ []))
    ∷ [])

-- An event, whose category is its provider.
abbrev pub event_phase : Origin → EventEntry → List ℕ → List ℕ
event_phase origin event payload = event_in origin (phase_of event.activity event.def.name) event payload

-- What stands behind the objects of a stream with which this is wrong at this offset: beside them one that says so.
abbrev pub error_tail : ℕ → List ℕ → List ℕ
error_tail at words = codes "\n],\"error\":" ++ error_object at words ++ codes "}\n"
