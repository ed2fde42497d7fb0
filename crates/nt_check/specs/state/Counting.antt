-- What the map of the threads stands for, and how one number more changes it.
use Rattle.std.specs.Prelude.{◌≡◌, ℕ, ◌+◌, List, [], ◌∷◌, map, filter, Option, Some, None, IsSome, unwrap_or, ◌==◌, slice_get}
use Rattle.ep_defs.specs.declared.item.ItemKind.{ItemKind}
use Rattle.ep_defs.specs.declared.item.ItemKind.TheVariants as item
use Rattle.ep_defs.specs.Gaps.{Sighting, Seen, Known, distance}
use Rattle.nt_check.specs.declared.threads.Numbers.{Numbers}
use Rattle.nt_check.specs.declared.threads.Threads.{Threads}
use Rattle.nt_check.specs.Numbers.{held}
use Rattle.nt_check.specs.state.Ids.{value_at}

-- A room that is empty tells as little as none.
abbrev pub in_room : Option (Option Numbers) → Option Numbers
in_room (Some numbers) = numbers
in_room None = None

-- The numbers of a thread that was seen.
abbrev pub numbers_in : Threads → ℕ → Option Numbers
numbers_in threads thread = in_room (value_at threads.numbers thread)

-- The numbers before anything is told.
abbrev pub nothing : Numbers
nothing = record { events = 0; last = 0; gaps = 0 }

-- One number more.
abbrev pub step : Numbers → Sighting → Numbers
step numbers (Seen number) = record { events = held (numbers.events + 1); last = number; gaps = held (numbers.gaps + distance (numbers.last + 1) number) }
step numbers (Known number) = record { events = numbers.events; last = number; gaps = held (numbers.gaps + distance numbers.last number) }

-- The numbers of a thread after one more sighting.
abbrev pub after : Option Numbers → Sighting → Option Numbers
after numbers sighting = Some (step (unwrap_or numbers nothing) sighting)

-- The numbers of a thread after these sightings.
abbrev pub after_all : Option Numbers → List Sighting → Option Numbers
after_all numbers [] = numbers
after_all numbers (sighting ∷ sightings) = after_all (after numbers sighting) sightings

-- What a point with these threads says of one.
abbrev pub point_sightings : ℕ → List (ℕ × ℕ) → List Sighting
point_sightings thread threads = map (λ t. Known t.1) (filter (λ t. t.0 == thread) threads)

-- There is room for each of these threads.
abbrev pub HasRooms : List (ℕ × ℕ) → Threads → Type 0
HasRooms pairs threads =
    (place : ℕ) (pair : ℕ × ℕ) → slice_get pairs place ≡ Some pair → IsSome (value_at threads.numbers pair.0)

-- There is room for each thread that an item speaks of.
abbrev pub HasRoom : ItemKind → Threads → Type 0
HasRoom (item.Event metadata number capture processor thread stack stamp activity related payload) threads = IsSome (value_at threads.numbers capture)
HasRoom (item.Point stamp pairs) threads = HasRooms pairs threads
HasRoom (item.Trace info) threads = Unit {0}
HasRoom (item.Meta id def) threads = Unit {0}
HasRoom (item.Stack id bytes) threads = Unit {0}
