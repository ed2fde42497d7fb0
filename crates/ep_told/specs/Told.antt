-- What the stream of a finished session tells where the session was asked for a rundown, and what the program itself has
-- told before (this project's profile).
use Rattle.std.specs.Prelude.{◌≡◌, ℕ, Bool, true, false, ◌&&◌, not, List, [], ◌==◌}
use Rattle.std.specs.List.{list_all, AllByRecursion}
use Rattle.std.specs.Option.{option_map_or}
use Rattle.ep_defs.specs.declared.event.EventDef.{EventDef}
use Rattle.ep_defs.specs.Entry.{Entry, Event, Point}
use Rattle.ep_defs.specs.Event.{is_same_event}
use Rattle.ep_rundown.specs.Rundown.{rundown_def, section, with_section}
use Rattle.ep_model.specs.Entries.{entries}
use Rattle.ep_model.specs.Faithful.{Share, events_of}
use Rattle.ep_model.specs.History.{Past, config_of}

-- The session was asked for a rundown.
abbrev pub has_rundown : ℕ → Past → Bool
has_rundown session past = option_map_or (λ config. config.rundown) (config_of session past) false

-- What the stream of a finished session tells: the session's entries, with the section of a rundown before the last point
-- where the session was asked for one.
abbrev pub told_entries : List EventDef → ℕ → Past → List Entry
told_entries definitions session past = with_section (has_rundown session past) (entries definitions session past)

-- An event that a thread of the program wrote, under a definition of the program, or a point that names such threads alone.
-- Threads have numbers above 0.
abbrev pub is_of_program : Entry → Bool
is_of_program (Event e) = not (e.thread == 0) && not (is_same_event e.def rundown_def)
is_of_program (Point p) = list_all (λ (named : ℕ × ℕ). not (named.0 == 0)) p.threads

-- All entries are such.
abbrev pub AreOfProgram : List Entry → Type 0
AreOfProgram entries = AllByRecursion (λ entry. is_of_program entry ≡ true) entries

-- What the section after these entries has of thread 0: all its events, and none that was refused. The contents of an event
-- have no stamp.
abbrev pub rundown_share : List Entry → Share
rundown_share entries = record { thread = 0; admitted = events_of 0 (section 0 entries); refused = [] }
