-- What contracts see of the stacks since the last point.
use Rattle.std.specs.Prelude.{◌≡◌, ℕ, ◌+◌, ◌<◌, ◌≤◌, List, [], length, ◌==◌, if◌then◌else◌}
use Rattle.nt_blocks.specs.declared.limits.TheConstants.{WRITTEN_BYTES}
use Rattle.nt_blocks.specs.Bodies.{stack_body}
use Rattle.nt_write.specs.declared.limits.TheConstants.{FRAMED_EVENTS}

-- The stacks that have ids, in the order of their ids, and how many events had one; the id of the first that is not
-- written yet, and those that are not.
pub record StacksSeen : Type 0 where
  pub known : List (List ℕ)
  pub framed : ℕ
  pub first : ℕ
  pub fresh : List (List ℕ)

-- No stack was seen.
abbrev pub no_stacks : StacksSeen
no_stacks = record { known = []; framed = 0; first = 1; fresh = [] }

-- One event more: it counts where it has frames.
abbrev pub framed_with : ℕ → List ℕ → ℕ
framed_with count frames = if length frames == 0 then count else count + 1

-- There are no more stacks than events that had one, and no more of those than can be.
pub record AreFew (known : List (List ℕ)) (framed : ℕ) : Type 0 where
  pub few : length known ≤ framed
  pub most : framed ≤ FRAMED_EVENTS

-- The same, and the new stacks have the last ids and fit a body.
pub record AreBounded (known : List (List ℕ)) (framed first : ℕ) (fresh : List (List ℕ)) (size : ℕ) : Type 0 where
  pub some : 0 < first
  pub next : first + length fresh ≤ length known + 1
  pub few : AreFew known framed
  pub size_is : size ≡ length (stack_body first fresh)
  pub small : size ≤ WRITTEN_BYTES
