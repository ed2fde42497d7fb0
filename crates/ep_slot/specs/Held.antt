-- What a slot keeps of itself and its chain. Callers see `IsKept` alone.
use Rattle.std.specs.Prelude.{◌≡◌, ◌≤◌, ℕ, List, length, All}
use Rattle.ep_defs.specs.declared.limits.TheConstants.{WRITES}
use Rattle.ep_chunk.specs.Record.{Record}
use Rattle.ep_slot.specs.Chain.{HasRecords}
use Rattle.ep_slot.specs.Slot.{SlotState, IsKept}

-- The chain has the records of the slot, of which this many are pending.
pub record IsHeld (pending : ℕ) (slot : SlotState) (chain : List (List Record)) : Type 0 where
  pub kept : IsKept slot
  -- the records are counted
  pub count : pending ≡ length slot.records
  pub few : slot.used ≤ WRITES
  pub stolen : slot.stolen ≤ slot.taken
  pub filled : All HasRecords chain
