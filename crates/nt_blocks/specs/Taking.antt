-- What taking a body answers.
use Rattle.std.specs.Prelude.{◌≡◌, ℕ, ◌+◌, ◌≤◌, List, ◌++◌, Result, Ok, Err}
use Rattle.ep_defs.specs.declared.item.Item.{Item}
use Rattle.nt_blocks.specs.declared.take.BodyFault.{BodyFault}
use Rattle.nt_blocks.specs.declared.take.BodyFault.TheVariants as fault
use Rattle.nt_blocks.specs.Refusals.{Refusal, refusal, BadBlock, BadHead, BadMeta, Uncompressed}

-- The items that are read stand after those that were there.
pub record Appends (read : Result (List Item) Refusal) (before after : List Item) : Type 0 where
  pub found : List Item
  pub reads : read ≡ Ok found
  pub added : after ≡ before ++ found

-- The fault is the refusal, its place counted from this offset of the stream. Out of memory says nothing of the bytes.
abbrev pub IsFault : {A : Type 0} → Result A Refusal → ℕ → BodyFault → Type 0
IsFault read at (fault.BadBlock place) = read ≡ Err (refusal (at + place) BadBlock)
IsFault read at (fault.BadHead place) = read ≡ Err (refusal (at + place) BadHead)
IsFault read at (fault.BadMeta place) = read ≡ Err (refusal (at + place) BadMeta)
IsFault read at (fault.Uncompressed place) = read ≡ Err (refusal (at + place) Uncompressed)
IsFault read at fault.OutOfMemory = Unit {0}

-- The fault stands at most this many bytes after the body's first one.
abbrev pub StandsWithin : ℕ → BodyFault → Type 0
StandsWithin most (fault.BadBlock place) = place ≤ most
StandsWithin most (fault.BadHead place) = place ≤ most
StandsWithin most (fault.BadMeta place) = place ≤ most
StandsWithin most (fault.Uncompressed place) = place ≤ most
StandsWithin most fault.OutOfMemory = Unit {0}
