-- Which lines a list of items has: one for each event and each point, and one before it where a thread's numbers leave some
-- out (this project's profile; the NetTrace format document of PerfView (version 4) on sequence numbers).
use Rattle.std.specs.Prelude.{ℕ, ◌+◌, Bool, true, false, List, [], ◌∷◌, ◌++◌, map, filter, Result, Ok, Err, ◌==◌, if◌then◌else◌}
use Rattle.std.specs.List.{sum_by}
use Rattle.ep_defs.specs.declared.item.ItemKind.{ItemKind}
use Rattle.ep_defs.specs.declared.item.ItemKind.TheVariants as item
use Rattle.ep_defs.specs.Entry.{EventEntry, PointEntry, Entry}
use Rattle.ep_defs.specs.Entry as entry
use Rattle.ep_defs.specs.Gaps.{Sighting, Seen, Known, distance, last_number}
use Rattle.nt_blocks.specs.Ordered.{Disorder, Names, no_names, tell, names_after}
use Rattle.pt_lines.specs.declared.origin.Origin.{Origin}
use Rattle.pt_lines.specs.Line.{Line, Lost, Event, Point, lost_if}

-- ---- what is lost

-- The numbers that a point knows of.
abbrev pub known_by : List (ℕ × ℕ) → List (ℕ × Sighting)
known_by threads = map (λ t. (t.0, Known t.1)) threads

-- The threads of which an item tells a number, in order: an event's capture thread, and those of a point.
abbrev pub sighted : ItemKind → List (ℕ × Sighting)
sighted (item.Event metadata number capture processor thread stack stamp activity related payload) = (capture, Seen number) ∷ []
sighted (item.Point stamp threads) = known_by threads
sighted (item.Trace info) = []
sighted (item.Meta id def) = []
sighted (item.Stack id bytes) = []

-- The last number that was told of a thread, 0 where none was.
abbrev pub last_of : ℕ → List (ℕ × Sighting) → ℕ
last_of thread past = last_number 0 (map (λ s. s.1) (filter (λ s. s.0 == thread) past))

-- How many numbers are left out after this last one.
abbrev pub left_out : ℕ → Sighting → ℕ
left_out last (Seen number) = distance (last + 1) number
left_out last (Known number) = distance last number

-- The lines of what is lost at these numbers, which are told at this stamp, after those of the past.
abbrev pub lost_lines : Origin → ℕ → List (ℕ × Sighting) → List (ℕ × Sighting) → List Line
lost_lines origin stamp past [] = []
lost_lines origin stamp past (s ∷ later) = lost_if origin stamp s.0 (left_out (last_of s.0 past) s.1) ++ lost_lines origin stamp (past ++ s ∷ []) later

-- ---- items

-- A stream has said nothing of the traced program.
abbrev pub unsaid : Origin
unsaid = record { address = 0; process = 0; frequency = 0 }

-- What it has said after an item: what a Trace object says.
abbrev pub origin_after : Origin → ItemKind → Origin
origin_after origin (item.Trace info) = record { address = info.pointer_size; process = info.process_id; frequency = info.frequency }
origin_after origin (item.Meta id def) = origin
origin_after origin (item.Stack id bytes) = origin
origin_after origin (item.Event metadata number capture processor thread stack stamp activity related payload) = origin
origin_after origin (item.Point stamp threads) = origin

-- The stamp of an item, 0 where it has none.
abbrev pub stamp_of : ItemKind → ℕ
stamp_of (item.Event metadata number capture processor thread stack stamp activity related payload) = stamp
stamp_of (item.Point stamp threads) = stamp
stamp_of (item.Trace info) = 0
stamp_of (item.Meta id def) = 0
stamp_of (item.Stack id bytes) = 0

-- The line of an item with the entry that it tells, if it tells one.
abbrev pub entry_lines : Origin → ItemKind → List Entry → List Line
entry_lines origin (item.Event metadata number capture processor thread stack stamp activity related payload) (entry.Event event ∷ more) = Event origin processor thread event ∷ []
entry_lines origin (item.Point stamp threads) (entry.Point point ∷ more) = Point origin point ∷ []
entry_lines origin kind entries = []

-- The entries that are told, none where none can be.
abbrev pub entries_in : Result (List Entry) Disorder → List Entry
entries_in (Ok entries) = entries
entries_in (Err fault) = []

-- The entries that an item tells after these names.
abbrev pub entries_of : Names → ItemKind → List Entry
entries_of names kind = entries_in (tell names kind)

-- The lines of an item after these names and numbers, where the stream has said this of the program.
abbrev pub item_lines : Names → List (ℕ × Sighting) → Origin → ItemKind → List Line
item_lines names past origin kind = lost_lines origin (stamp_of kind) past (sighted kind) ++ entry_lines origin kind (entries_of names kind)

-- The lines of the items after these names and numbers.
abbrev pub lines_after : Names → List (ℕ × Sighting) → Origin → List ItemKind → List Line
lines_after names past origin [] = []
lines_after names past origin (kind ∷ kinds) = item_lines names past origin kind ++ lines_after (names_after names kind) (past ++ sighted kind) (origin_after origin kind) kinds

-- The lines of a stream's items.
abbrev pub lines_of : List ItemKind → List Line
lines_of kinds = lines_after no_names [] unsaid kinds

-- ---- what lines come to

-- The line is that of an event.
abbrev pub is_event_line : Line → Bool
is_event_line (Event origin processor thread event) = true
is_event_line (Lost origin stamp thread count) = false
is_event_line (Point origin point) = false

-- How many numbers of the thread the line says are left out.
abbrev pub lost_in : ℕ → Line → ℕ
lost_in thread (Lost origin stamp other count) = if other == thread then count else 0
lost_in thread (Event origin processor other event) = 0
lost_in thread (Point origin point) = 0

-- How many the lines say.
abbrev pub lost_of : ℕ → List Line → ℕ
lost_of thread lines = sum_by (lost_in thread) lines
