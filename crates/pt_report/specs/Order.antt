-- Keys in the order of std's ordered maps, and how often each is used.
use Rattle.std.specs.Prelude.{ℕ, List, [], if◌then◌else◌, count_by, fold}
use Rattle.std.specs.declared.cmp.Ordering.{Ordering}
use Rattle.std.specs.List.{list_any}
use Rattle.std.specs.Ordering.{eq_by_cmp}
use Rattle.std.specs.BTreeSet.{insert_key}
use Rattle.nt_check.specs.Numbers.{held}

-- These keys and one more, at its place, where it is none of them.
abbrev pub with_key : {K : Type 0} → (K → K → Ordering) → List K → K → List K
with_key cmp keys key = if list_any (eq_by_cmp cmp key) keys then keys else insert_key cmp keys key

-- Each of the names once, in order.
abbrev pub in_order : {K : Type 0} → (K → K → Ordering) → List K → List K
in_order cmp names = fold (with_key cmp) [] names

-- How many of the uses are of this key, held at the greatest count.
abbrev pub uses_of : {K : Type 0} → (K → K → Ordering) → List K → K → ℕ
uses_of cmp uses key = held (count_by (eq_by_cmp cmp key) uses)
