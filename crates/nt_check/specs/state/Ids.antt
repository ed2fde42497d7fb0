-- What stands under ids.
use Rattle.std.specs.Prelude.{ℕ, ◌-◌, Option, Some, None, List, nat_le, if◌then◌else◌}
use Rattle.std.specs.List.{slice_get}
use Rattle.std.specs.Option.{option_or}
use Rattle.nt_check.specs.declared.by_id.ById.{ById}
use Rattle.nt_check.specs.state.Scattered.{under}

-- A place that is empty holds nothing, and so does one that is not there.
abbrev pub held_in : {V : Type 0} → Option (Option V) → Option V
held_in None = None
held_in (Some held) = held

-- What stands in a row at the place of an id.
abbrev pub in_row : {V : Type 0} → ℕ → List (Option V) → ℕ → Option V
in_row first row id = if nat_le first id then held_in (slice_get row (id - first)) else None

-- The value under an id.
abbrev pub value_at : {V : Type 0} → ById V → ℕ → Option V
value_at values id = option_or (in_row values.first values.row.items id) (under id values.others)
