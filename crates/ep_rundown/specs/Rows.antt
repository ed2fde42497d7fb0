-- Small sessions, of which it is computed what their streams tell with a rundown.
use Rattle.std.specs.Prelude.{ℕ, List, [], ◌∷◌}
use Rattle.ep_defs.specs.Entry.{Entry, Event, Point}
use Rattle.ep_defs.specs.Samples.{zero_id, event_e}
use Rattle.ep_rundown.specs.Rundown.{rundown_def}

-- A write of the sample event of this level, by thread 1.
abbrev pub written : ℕ → ℕ → Entry
written number level =
    Event (record { thread = 1; number = number; stamp = 100; def = event_e level 1; activity = zero_id; related = zero_id; stack = []; payload = [] })

-- A point at 200 that names these threads.
abbrev pub point_at_end : List (ℕ × ℕ) → Entry
point_at_end threads = Point (record { stamp = 200; threads = threads })

-- The event of thread 0 with this number and payload.
abbrev pub described : ℕ → List ℕ → Entry
described number payload =
    Event (record { thread = 0; number = number; stamp = 200; def = rundown_def; activity = zero_id; related = zero_id; stack = []; payload = payload })

-- What defines the sample event of this level under this metadata id, worked out by hand from the NetTrace format document
-- of PerfView (version 4).
abbrev pub event_e_bytes : ℕ → ℕ → List ℕ
event_e_bytes id level =
    id ∷ 0x00 ∷ 0x00 ∷ 0x00 ∷ 0x50 ∷ 0x00 ∷ 0x00 ∷ 0x00 ∷ 0x01 ∷ 0x00 ∷ 0x00 ∷ 0x00 ∷ 0x45 ∷ 0x00 ∷ 0x00 ∷ 0x00 ∷
    0x01 ∷ 0x00 ∷ 0x00 ∷ 0x00 ∷ 0x00 ∷ 0x00 ∷ 0x00 ∷ 0x00 ∷ 0x00 ∷ 0x00 ∷ 0x00 ∷ 0x00 ∷ level ∷ 0x00 ∷ 0x00 ∷ 0x00 ∷
    0x00 ∷ 0x00 ∷ 0x00 ∷ 0x00 ∷ []
