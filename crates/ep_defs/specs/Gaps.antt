-- How many of a thread's events are missing, as the numbers in a stream tell it (the NetTrace format document of
-- PerfView, version 4, on sequence numbers). The entries of ordered items tell the same as the items.
use Rattle.std.specs.Prelude.{ℕ, ◌+◌, ◌-◌, ◌%◌, ◌^◌, List, [], ◌∷◌, filter, map, ◌==◌, if◌then◌else◌}
use Rattle.std.specs.List.{flat_map}
use Rattle.ep_defs.specs.Entry.{Entry, Event, Point}

-- A number of a thread: an event's own, or the last one that a point knows of.
pub data Sighting : Type 0 where
  Seen : (number : ℕ) → Sighting
  Known : (number : ℕ) → Sighting

-- What an entry says of a thread.
abbrev pub sightings_in : ℕ → Entry → List Sighting
sightings_in thread (Event e) = if e.thread == thread then Seen e.number ∷ [] else []
sightings_in thread (Point p) = map (λ t. Known t.1) (filter (λ t. t.0 == thread) p.threads)

-- What the entries say of it, in order.
abbrev pub sightings : ℕ → List Entry → List Sighting
sightings thread entries = flat_map (sightings_in thread) entries

-- From one number up to another, modulo 2 ^ 32.
abbrev pub distance : ℕ → ℕ → ℕ
distance from to = (to + 2 ^ 32 - from % 2 ^ 32) % 2 ^ 32

-- The numbers that are missing after this last one.
abbrev pub missing : ℕ → List Sighting → ℕ
missing last [] = 0
missing last (Seen number ∷ later) = distance (last + 1) number + missing number later
missing last (Known number ∷ later) = distance last number + missing number later

-- How many of the thread's events are missing in all.
abbrev pub gaps : ℕ → List Entry → ℕ
gaps thread entries = missing 0 (sightings thread entries)

-- The last number of a thread, 0 where no event of it is there and no point names it.
abbrev pub last_number : ℕ → List Sighting → ℕ
last_number last [] = last
last_number last (Seen number ∷ later) = last_number number later
last_number last (Known number ∷ later) = last_number number later

-- The last number that the entries tell of a thread, 0 where they have no event of it and no point names it.
abbrev pub last_of : ℕ → List Entry → ℕ
last_of thread entries = last_number 0 (sightings thread entries)
