-- Bits of masks, one for each session slot of a thread (this project's profile).
use Rattle.std.specs.Prelude.{◌≡◌, ℕ, ◌<◌, Bool, List, length, slice_index, ◌==◌, if◌then◌else◌}
use Rattle.std.specs.Int.{bit_at}
use Rattle.ep_defs.specs.declared.limits.TheConstants.{SESSIONS}

-- A bit as a number.
abbrev pub one_if : Bool → ℕ
one_if b = if b then 1 else 0

-- The second masks are the first with this slot's bit as the test of a place says, and all other bits as they were.
pub record SetsBits (slot : ℕ) (test : ℕ → Bool) (old new : List ℕ) : Type 0 where
  pub count : length new ≡ length old
  pub bits : (place s : ℕ) → place < length old → s < SESSIONS → bit_at (slice_index new place) s ≡ (if s == slot then one_if (test place) else bit_at (slice_index old place) s)

-- The same for one mask, whose bit is cleared.
abbrev pub ClearsBit : ℕ → ℕ → ℕ → Type 0
ClearsBit slot old new = (s : ℕ) → s < SESSIONS → bit_at new s ≡ (if s == slot then 0 else bit_at old s)
