-- What is put of an event in one piece or some, up to its payload.
use Rattle.std.specs.Prelude.{ℕ, List, [], ◌∷◌, ◌++◌, codes}
use Rattle.pt_print.specs.Printed.{number_part, units_part}
use Rattle.ep_defs.specs.declared.event.EventDef.{EventDef}
use Rattle.ep_defs.specs.declared.event.FieldDef.{FieldDef}
use Rattle.std.specs.List.{concat, flat_map}
use Rattle.ep_defs.specs.Entry.{EventEntry}
use Rattle.pt_lines.specs.declared.chromium.phase.Phase.{Phase}
use Rattle.pt_lines.specs.declared.origin.Origin.{Origin}
use Rattle.pt_lines.specs.Texts.{name_unit, quoted}
use Rattle.pt_lines.specs.Json.{activity_members, behind_commas, definition_members, integer, uuid_text}
use Rattle.pt_lines.specs.Chromium.{microseconds, nanoseconds, phase_by, phase_of, phase_text, stem_of}

-- What it is in this phase of this name.
abbrev pub pieces_in : Phase × List ℕ → EventEntry → List (List ℕ)
pieces_in phase event =
    codes ",\n{\"name\":" ∷ quoted phase.1 ∷ codes ",\"cat\":" ∷ quoted event.def.provider ∷ codes "," ∷ phase_text event.activity phase.0 ∷ []

-- What it is.
abbrev pub named_pieces : EventEntry → List (List ℕ)
named_pieces event = pieces_in (phase_of event.activity event.def.name) event

-- Where it was, up to its payload: its process, thread and number.
abbrev pub ids_of : ℕ → ℕ → ℕ → List ℕ
ids_of process thread number =
    codes ",\"pid\":" ++ (integer process ++ (codes ",\"tid\":" ++ (integer thread ++ (codes ",\"args\":{\"number\":" ++ integer number))))

-- When and where it was.
abbrev pub placed_text : Origin → EventEntry → List ℕ
placed_text origin event = codes ",\"ts\":" ++ (microseconds (nanoseconds origin.frequency event.stamp) ++ ids_of origin.process event.thread event.number)

-- What it is in an object, and its activities, up to its stack.
abbrev pub described_text : EventEntry → List ℕ
described_text event = (behind_commas (definition_members event.def) ++ behind_commas (activity_members event)) ++ codes ",\"stack\":"

-- Two activities behind other members, up to the stack.
abbrev pub activities_text : List ℕ → List ℕ → List ℕ
activities_text activity related = codes ",\"activity\":" ++ (uuid_text activity ++ (codes ",\"related\":" ++ (uuid_text related ++ codes ",\"stack\":")))

-- The word and the numbers of an event in a line.
abbrev pub numbers_text : ℕ → ℕ → ℕ → List ℕ
numbers_text stamp thread number = codes "event" ++ (number_part stamp ++ (number_part thread ++ number_part number))

-- ---- what is the same for all events of a definition

-- Its names, as they stand in a line.
abbrev pub names_text : EventDef → List ℕ
names_text def = units_part def.provider ++ units_part def.name

-- Its members in an object and those of no activity, up to the stack.
abbrev pub alone_text : EventDef → List ℕ
alone_text def = behind_commas (definition_members def) ++ codes ",\"activity\":\"00000000-0000-0000-0000-000000000000\",\"related\":\"00000000-0000-0000-0000-000000000000\",\"stack\":"

-- What a trace event is that is an instant, up to its moment.
abbrev pub instant_text : EventDef → List ℕ
instant_text def = concat (codes ",\n{\"name\":" ∷ quoted def.name ∷ codes ",\"cat\":" ∷ quoted def.provider ∷ codes ",\"ph\":\"i\",\"s\":\"t\"" ∷ [])

-- What an event of an activity is that has this name, and the name of the instant or of the span.
abbrev pub end_of : List ℕ → Phase × List ℕ
end_of name = phase_by name (stem_of (codes "Start") name) (stem_of (codes "Stop") name)

-- What a trace event of an activity is, up to its phase.
abbrev pub span_text : EventDef → List ℕ
span_text def = concat (codes ",\n{\"name\":" ∷ quoted (end_of def.name).1 ∷ codes ",\"cat\":" ∷ quoted def.provider ∷ codes "," ∷ [])

-- ---- what is the same for all values of a field

-- Its name, as it stands in a line.
abbrev pub label_text : FieldDef → List ℕ
label_text field = concat (codes " " ∷ flat_map name_unit field.name ∷ codes "=" ∷ [])

-- Its name, as it stands in an object behind other members.
abbrev pub member_text : FieldDef → List ℕ
member_text field = codes "," ++ quoted field.name ++ codes ":"
