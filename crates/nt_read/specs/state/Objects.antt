-- For private functions: what reading part of a piece answers, where objects are told one by one.
use Rattle.std.specs.Prelude.{◌≡◌, ℕ, ◌+◌, ◌*◌, ◌<◌, List, ◌++◌, length, take, Result, Ok, Err}
use Rattle.ep_defs.specs.declared.item.Item.{Item}
use Rattle.nt_blocks.specs.Refusals.{Refusal}
use Rattle.nt_blocks.specs.Verdict.{Verdict, Bad}
use Rattle.nt_read.specs.declared.fault.ReadFault.{ReadFault}
use Rattle.nt_read.specs.declared.fault.ReadFault.TheVariants as fault
use Rattle.nt_read.specs.declared.stage.Stage.{Stage}
use Rattle.nt_read.specs.declared.object_reader.ObjectReader.{ObjectReader}
use Rattle.nt_read.specs.Answers.{fault_of}
use Rattle.nt_read.specs.Stages.{goes_on}
use Rattle.nt_read.specs.state.Units.{Faults, Turns, given, left, turns_left}

-- The verdict from the reader's unit on, where these bytes follow those that it keeps.
abbrev pub from : {T : Type 0} → ObjectReader T → List Item → List Item → List ℕ → Verdict
from reader held before bytes = goes_on reader.stage reader.at held before (reader.kept.items ++ bytes)

-- A whole unit is taken, after which these items are held.
pub record TurnsTold {T : Type 0} (Tells : T → List Item → Type 0) (stage : Stage) (at : ℕ) (held : List Item) (unit : List ℕ) (next : Stage) (pending : T) : Type 0 where
  pub items : List Item
  pub tells : Tells pending items
  pub turns : Turns stage at held unit next items

-- The same, whatever items stood for what was kept before it.
pub record TurnsAll {T : Type 0} (Tells : T → List Item → Type 0) (stage : Stage) (at : ℕ) (before : T) (unit : List ℕ) (next : Stage) (after : T) : Type 0 where
  pub falls : turns_left next < 3 * length unit + turns_left stage
  pub told : (held : List Item) → Tells before held → TurnsTold Tells stage at held unit next after

-- A whole unit is taken and the reader comes to the next stage, or it is refused.
abbrev pub JudgesTold : {T : Type 0} → (T → List Item → Type 0) → Stage → ℕ → T → List ℕ → Result Stage ReadFault → T → Type 0
JudgesTold Tells stage at before unit (Ok next) after = TurnsAll Tells stage at before unit next after
JudgesTold Tells stage at before unit (Err refused) after = (held : List Item) → Faults stage at held unit refused

-- The same of the unit that these bytes begin with.
pub record Steps {T : Type 0} (Tells : T → List Item → Type 0) (before : ObjectReader T) (held : List Item) (bytes : List ℕ) (n : ℕ) (after : ObjectReader T) : Type 0 where
  pub items : List Item
  pub tells : Tells after.pending items
  pub goes : (told : List Item) (more : List ℕ) → from before held told (take n bytes ++ more) ≡ from after (left before.stage items) (told ++ given before.stage items) more

-- This many bytes are taken, and no object ends in them.
pub record Comes {T : Type 0} (Tells : T → List Item → Type 0) (before : ObjectReader T) (held : List Item) (bytes : List ℕ) (n : ℕ) (after : ObjectReader T) : Type 0 where
  pub items : List Item
  pub tells : Tells after.pending items
  pub goes : (told : List Item) (more : List ℕ) → from before held told (take n bytes ++ more) ≡ from after items told more

-- This many bytes are taken, and this is what the object tells that ends with them, if one does.
pub record Ends {T : Type 0} (Tells : T → List Item → Type 0) (before : ObjectReader T) (held : List Item) (bytes : List ℕ) (n : ℕ) (after : ObjectReader T) (told : T) : Type 0 where
  pub found : List Item
  pub gives : Tells told found
  pub items : List Item
  pub tells : Tells after.pending items
  pub goes : (earlier : List Item) (more : List ℕ) → from before held earlier (take n bytes ++ more) ≡ from after items (earlier ++ found) more

-- A unit is refused, and no object ended before it.
pub record Refused {T : Type 0} (before : ObjectReader T) (held : List Item) (bytes : List ℕ) (refused : ReadFault) : Type 0 where
  pub why : Refusal
  pub is : refused ≡ fault_of why
  pub goes : (told : List Item) (more : List ℕ) → from before held told (bytes ++ more) ≡ Bad why told

-- A fault is a refusal, or memory ran out.
abbrev pub StopsObjects : {T : Type 0} → ObjectReader T → List Item → List ℕ → ReadFault → Type 0
StopsObjects before held bytes (fault.Bad at kind) = Refused before held bytes (fault.Bad at kind)
StopsObjects before held bytes fault.OutOfMemory = Unit {0}
