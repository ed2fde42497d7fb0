-- What is kept of the stacks.
use Rattle.std.specs.Prelude.{◌≡◌, ℕ, List, [], ◌∷◌, Option, Some}
use Rattle.std.specs.Ordering.{nat_cmp}
use Rattle.std.specs.Cmp.Lexicographic.{slice_cmp}
use Rattle.std.specs.BTreeMap.{get}
use Rattle.nt_blocks.specs.Ordered.{lookup, no_names, stack_of}
use Rattle.nt_check.specs.state.Ids.{value_at}
use Rattle.pt_report.specs.declared.stacks.Stacks.{Stacks}
use Rattle.pt_report.specs.Report.{stack_in}
use Rattle.pt_report.specs.state.Counts.{Counts}

-- The stack of an event with this id.
abbrev pub stack_among : List (ℕ × List ℕ) → ℕ → Option (List ℕ)
stack_among named id = stack_of (record no_names { stacks = named }) id

-- The id stands for a stack of some bytes whose uses are counted at this place.
pub record IsCounted (id place : ℕ) (named : List (ℕ × List ℕ)) (stacks : Stacks) : Type 0 where
  pub bytes : List ℕ
  pub stands : lookup id named ≡ Some bytes
  pub some : stack_in bytes ≡ bytes ∷ []
  pub placed : get (slice_cmp nat_cmp) stacks.uses.places bytes ≡ Some place

-- These ids stand for stacks since the last point, and the events had these stacks.
pub record ShowsStacks (uses : List (List ℕ)) (named : List (ℕ × List ℕ)) (stacks : Stacks) : Type 0 where
  pub found : (id : ℕ) → value_at stacks.stacks id ≡ lookup id named
  pub known : (id place : ℕ) → value_at stacks.places id ≡ Some (Some place) → IsCounted id place named stacks
  pub counted : Counts (slice_cmp nat_cmp) uses uses stacks.uses
