-- The streaming roles of a run. All of it is this project's own.
use Rattle.std.specs.Prelude.{◌≡◌, ℕ, ◌<◌, ◌≤◌, false, List, length, Some, slice_get}
use Rattle.ep_table.specs.declared.limits.TheConstants.{SLOTS}
use Rattle.ep_registry.specs.Registered.{RoleHalf}

-- There are some, by number, and none has ended.
pub record AreThere (roles : List RoleHalf) : Type 0 where
  pub some : 0 < length roles
  pub few : length roles ≤ SLOTS
  pub each : (number : ℕ) → number < length roles → slice_get roles number ≡ Some (record { number = number; roles = length roles; left = false })
