-- What the map of an interner stands for, by its entries: the bytes of each stack, with its id.
use Rattle.std.specs.Prelude.{◌≡◌, ℕ, zero, suc, ◌<◌, ◌≤◌, List, [], ◌∷◌, length, Option, Some, ◌==◌, if◌then◌else◌}
use Rattle.std.specs.List.{All, AllByRecursion}
use Rattle.std.specs.Map.{lookup}
use Rattle.std.specs.Str.{bytes_eq}

-- The id of these bytes.
abbrev pub id_at : List ℕ → List (List ℕ × ℕ) → Option ℕ
id_at bytes entries = lookup (λ stack. bytes_eq bytes stack) entries

-- The stack with this id.
abbrev pub stack_with : ℕ → List (List ℕ × ℕ) → List ℕ
stack_with id [] = []
stack_with id (entry ∷ entries) = if entry.1 == id then entry.0 else stack_with id entries

-- The stacks with this many ids from this one on.
abbrev pub stacks_from : ℕ → ℕ → List (List ℕ × ℕ) → List (List ℕ)
stacks_from zero id entries = []
stacks_from (suc more) id entries = stack_with id entries ∷ stacks_from more (suc id) entries

-- The stacks in the order of their ids.
abbrev pub stacks_of : List (List ℕ × ℕ) → List (List ℕ)
stacks_of entries = stacks_from (length entries) 1 entries

-- Each stack has an id of its own, and the ids run from 1 up to the number of stacks.
pub record AreInterned (entries : List (List ℕ × ℕ)) : Type 0 where
  pub given : (place : ℕ) → place < length entries → id_at (stack_with (suc place) entries) entries ≡ Some (suc place)
  pub own : (bytes : List ℕ) (id : ℕ) → id_at bytes entries ≡ Some id → (0 < id) × (id ≤ length entries) × (stack_with id entries ≡ bytes)
  pub few : AllByRecursion (λ entry. entry.1 ≤ length entries) entries

-- Each of these stacks that has an id has the one that it has among the entries. An id of 0 is none.
abbrev pub AreKnown : List (List ℕ × ℕ) → List (List ℕ × ℕ) → Type 0
AreKnown entries recent = All (λ stack. 0 < stack.1 → id_at stack.0 entries ≡ Some stack.1) recent
