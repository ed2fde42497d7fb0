-- The items that a checker stands for.
use Rattle.std.specs.Prelude.{◌≡◌, ℕ, List, [], ◌∷◌, is_some, IsOk}
use Rattle.ep_defs.specs.declared.item.ItemKind.{ItemKind}
use Rattle.nt_blocks.specs.Ordered.{Names, no_names, lookup, names_after, told_after}
use Rattle.nt_check.specs.declared.ids.Ids.{Ids}
use Rattle.nt_check.specs.declared.checker.Checker.{Checker}
use Rattle.nt_check.specs.Numbers.{numbers_of}
use Rattle.nt_check.specs.state.Counting.{numbers_in}
use Rattle.nt_check.specs.state.Ids.{value_at}

-- The ids of these names are known, and no others.
pub record Knows (names : Names) (ids : Ids) : Type 0 where
  pub definitions : (id : ℕ) → is_some (value_at ids.definitions id) ≡ is_some (lookup id names.definitions)
  pub stacks : (id : ℕ) → is_some (value_at ids.stacks id) ≡ is_some (lookup id names.stacks)

-- The names that stand after items.
abbrev pub names_at : Names → List ItemKind → Names
names_at names [] = names
names_at names (kind ∷ kinds) = names_at (names_after names kind) kinds

-- The checker took these items, in this order: they are ordered, and it knows their names and the numbers of their
-- threads.
pub record Took (kinds : List ItemKind) (checker : Checker) : Type 0 where
  pub ordered : IsOk (told_after no_names kinds)
  pub names : Knows (names_at no_names kinds) checker.ids
  pub numbers : (thread : ℕ) → numbers_in checker.threads thread ≡ numbers_of thread kinds
