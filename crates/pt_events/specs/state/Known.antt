-- What the maps of ids and of threads stand for.
use Rattle.std.specs.Prelude.{◌≡◌, ℕ, List, [], Some, Err, unwrap_or}
use Rattle.ep_defs.specs.declared.event.EventDef.{EventDef}
use Rattle.ep_defs.specs.declared.item.ItemKind.TheVariants as item
use Rattle.ep_defs.specs.Gaps.{Sighting}
use Rattle.nt_check.specs.state.Ids.{value_at}
use Rattle.nt_blocks.specs.Ordered.{Disorder, Names, lookup, stack_of, tell}
use Rattle.pt_events.specs.declared.names.KnownNames.{KnownNames}
use Rattle.pt_events.specs.declared.lasts.Lasts.{Lasts}
use Rattle.pt_events.specs.Lines.{last_of}

-- The ids stand for what these names say.
pub record Knows (names : Names) (known : KnownNames) : Type 0 where
  pub definitions : (id : ℕ) → value_at known.definitions id ≡ lookup id names.definitions
  pub stacks : (id : ℕ) → value_at known.stacks id ≡ lookup id names.stacks
  pub none : known.none ≡ []

-- Both ids of an event stand for something.
pub record IsFound (names : Names) (metadata stack : ℕ) (def : EventDef) (bytes : List ℕ) : Type 0 where
  pub def_is : lookup metadata names.definitions ≡ Some def
  pub stack_is : stack_of names stack ≡ Some bytes

-- An event with these ids can't stand there, for this reason.
abbrev pub IsUnknown : Names → ℕ → ℕ → Disorder → Type 0
IsUnknown names metadata stack fault =
    (number capture processor thread stamp : ℕ) (activity related payload : List ℕ)
    → tell names (item.Event metadata number capture processor thread stack stamp activity related payload) ≡ Err fault

-- The last number of a thread.
abbrev pub last_in : Lasts → ℕ → ℕ
last_in lasts thread = unwrap_or (value_at lasts.numbers thread) 0

-- The last number of each thread is that of this past.
abbrev pub HasSeen : List (ℕ × Sighting) → Lasts → Type 0
HasSeen past lasts = (thread : ℕ) → last_in lasts thread ≡ last_of thread past
