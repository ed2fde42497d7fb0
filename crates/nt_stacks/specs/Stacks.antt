-- The ids of stacks: 1, 2, 3, .. in the order of first use, and 0 for no bytes (this project's profile; the NetTrace
-- format document of PerfView (version 4), "StackBlock").
use Rattle.std.specs.Prelude.{◌≡◌, ℕ, ◌<◌, List, [], ◌∷◌, ◌++◌, ◌==◌, if◌then◌else◌, unwrap_or}
use Rattle.std.specs.List.{position_from}
use Rattle.std.specs.Str.{bytes_eq}

-- The id of a stack among these, which have their ids in this order; 0 where it is none of them.
abbrev pub stack_id : List (List ℕ) → List ℕ → ℕ
stack_id stacks [] = 0
stack_id stacks (b ∷ bytes) = unwrap_or (position_from (λ stack. bytes_eq (b ∷ bytes) stack) 1 stacks) 0

-- The stacks with this one at their end, unless it is there. No bytes are no stack.
abbrev pub with_stack : List (List ℕ) → List ℕ → List (List ℕ)
with_stack stacks [] = stacks
with_stack stacks (b ∷ bytes) = if stack_id stacks (b ∷ bytes) == 0 then stacks ++ (b ∷ bytes) ∷ [] else stacks

-- An id that was given is that of these bytes alone.
abbrev pub IsOfNoOther : List (List ℕ) → ℕ → List ℕ → Type 0
IsOfNoOther stacks id bytes = (other : List ℕ) → 0 < id → stack_id stacks other ≡ id → other ≡ bytes
