-- What a tally stands for.
use Rattle.std.specs.Prelude.{◌≡◌, ℕ, List, Some, None, true, count_by, slice_get}
use Rattle.std.specs.declared.cmp.Ordering.{Ordering}
use Rattle.std.specs.Ordering.{eq_by_cmp}
use Rattle.std.specs.BTreeMap.{get, keys}
use Rattle.pt_report.specs.declared.tally.Tally.{Tally}
use Rattle.pt_report.specs.Order.{in_order, uses_of}

-- The tally has each of the names once, in order, each with its uses at a place of its own, and every use is of a name.
pub record Counts {K : Type 0} (cmp : K → K → Ordering) (names uses : List K) (tally : Tally K) : Type 0 where
  pub ordered : keys tally.places ≡ in_order cmp names
  pub counted : (key : K) (place : ℕ) → get cmp tally.places key ≡ Some place → slice_get tally.counts.items place ≡ Some (uses_of cmp uses key)
  pub apart : (one other : K) (place : ℕ) → get cmp tally.places one ≡ Some place → get cmp tally.places other ≡ Some place → eq_by_cmp cmp one other ≡ true
  pub unused : (key : K) → get cmp tally.places key ≡ None → count_by (eq_by_cmp cmp key) uses ≡ 0
