-- What a reader answers, from the verdict on the bytes that it read.
use Rattle.std.specs.Prelude.{◌≡◌, ℕ, List, ◌++◌, Result, Ok, Err}
use Rattle.ep_defs.specs.declared.item.Item.{Item}
use Rattle.nt_blocks.specs.Refusals.{Reason, Refusal}
use Rattle.nt_blocks.specs.Refusals as reason
use Rattle.nt_blocks.specs.Verdict.{Verdict, Bad, Good, More, verdict}
use Rattle.nt_read.specs.declared.fault.ReadKind.{ReadKind}
use Rattle.nt_read.specs.declared.fault.ReadKind.TheVariants as kind
use Rattle.nt_read.specs.declared.fault.ReadFault.{ReadFault}
use Rattle.nt_read.specs.declared.fault.ReadFault.TheVariants as fault

-- The reader's kind for a reason.
abbrev pub kind_of : Reason → ReadKind
kind_of reason.BadMagic = kind.BadMagic
kind_of reason.BadObject = kind.BadObject
kind_of reason.BadVersion = kind.BadVersion
kind_of reason.BadBlock = kind.BadBlock
kind_of reason.BadHead = kind.BadHead
kind_of reason.BadMeta = kind.BadMeta
kind_of reason.Uncompressed = kind.Uncompressed
kind_of (reason.TooLarge size) = kind.TooLarge size

-- The fault that a refusal is.
abbrev pub fault_of : Refusal → ReadFault
fault_of why = fault.Bad why.at (kind_of why.reason)

-- The items before the place that a verdict comes to.
abbrev pub items_of : Verdict → List Item
items_of (Bad why items) = items
items_of (Good items) = items
items_of (More items) = items

-- The answer while bytes come.
abbrev pub answer_of : Verdict → Result (Unit {0}) ReadFault
answer_of (Bad why items) = Err (fault_of why)
answer_of (Good items) = Ok tt
answer_of (More items) = Ok tt

-- The answer once these were all bytes, this many of them.
abbrev pub end_answer : ℕ → Verdict → Result (Unit {0}) ReadFault
end_answer n (Bad why items) = Err (fault_of why)
end_answer n (Good items) = Ok tt
end_answer n (More items) = Err (fault.Bad n kind.Truncated)

-- Memory was there: the answer is another.
abbrev pub IsKept : Result (Unit {0}) ReadFault → Type 0
IsKept (Ok done) = Unit {0}
IsKept (Err (fault.Bad at kind)) = Unit {0}
IsKept (Err fault.OutOfMemory) = ⊥

-- The items by which there are more now are given after those that were there.
pub record Gives (earlier later old new : List Item) : Type 0 where
  pub found : List Item
  pub more : later ≡ earlier ++ found
  pub given : new ≡ old ++ found

-- Of the items by which there are more now the first are given after those that were there.
pub record GivesPart (earlier later old new : List Item) : Type 0 where
  pub found : List Item
  pub rest : List Item
  pub more : later ≡ earlier ++ (found ++ rest)
  pub given : new ≡ old ++ found

-- The refusal is answered, no items are given, and the verdict on all these bytes is still the same.
pub record StaysRefused (why : Refusal) (told : List Item) (bytes : List ℕ) (answer : Result (Unit {0}) ReadFault) (old new : List Item) : Type 0 where
  pub answered : answer ≡ Err (fault_of why)
  pub given : new ≡ old
  pub still : verdict bytes ≡ Bad why told
