-- What a list of items tells of a thread (the NetTrace format document of PerfView, version 4, on sequence numbers).
use Rattle.std.specs.Prelude.{ℕ, Bool, true, false, List, [], ◌∷◌, Option, Some, None, min, count_by}
use Rattle.std.specs.List.{flat_map}
use Rattle.ep_defs.specs.declared.item.ItemKind.{ItemKind}
use Rattle.ep_defs.specs.Gaps.{Sighting, Seen, Known, missing, last_number}
use Rattle.nt_blocks.specs.Seen.{seen_in}
use Rattle.nt_check.specs.declared.limits.TheConstants.{MOST_COUNTED}
use Rattle.nt_check.specs.declared.threads.Numbers.{Numbers}

-- A count stands still at the greatest number (this project's profile).
abbrev pub held : ℕ → ℕ
held count = min count MOST_COUNTED

-- Whether a number is an event's own.
abbrev pub is_event : Sighting → Bool
is_event (Seen number) = true
is_event (Known number) = false

-- The events, the last number and the gaps of a thread of which the items say this.
abbrev pub tally : List Sighting → Numbers
tally sightings =
    record {
      events = held (count_by is_event sightings);
      last = last_number 0 sightings;
      gaps = held (missing 0 sightings);
    }

-- A thread of which the items say nothing has no numbers.
abbrev pub told : List Sighting → Option Numbers
told [] = None
told (sighting ∷ sightings) = Some (tally (sighting ∷ sightings))

-- The numbers of a thread: None where it is no event's capture thread, and no point names it.
abbrev pub numbers_of : ℕ → List ItemKind → Option Numbers
numbers_of thread kinds = told (flat_map (seen_in thread) kinds)
