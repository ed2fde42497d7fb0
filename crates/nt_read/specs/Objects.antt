-- What a reader has read that tells object by object. `Tells` says which items stand for what is told.
use Rattle.std.specs.Prelude.{◌≡◌, ℕ, ◌+◌, ◌<◌, List, ◌++◌, length, Option, Some, None, Result}
use Rattle.ep_defs.specs.declared.item.Item.{Item}
use Rattle.nt_blocks.specs.Refusals.{Refusal}
use Rattle.nt_blocks.specs.Verdict.{Bad, verdict}
use Rattle.nt_read.specs.declared.fault.ReadFault.{ReadFault}
use Rattle.nt_read.specs.declared.fault.ReadFault.TheVariants as fault
use Rattle.nt_read.specs.declared.object_reader.ObjectReader.{ObjectReader}
use Rattle.nt_read.specs.Answers.{answer_of, fault_of, items_of}
use Rattle.nt_read.specs.Stages.{goes_on, needs}

-- How many bytes were read so far, whole units and what is kept of the next one.
abbrev pub used : {T : Type 0} → ObjectReader T → ℕ
used reader = reader.at + length reader.kept.items

-- A call was out of memory.
abbrev pub HasFailed : {T : Type 0} → ObjectReader T → Type 0
HasFailed reader = reader.fault ≡ Some fault.OutOfMemory

-- No unit of these bytes was refused: however they go on, the verdict is that from the reader's stage on.
pub record GoesOn {T : Type 0} (Tells : T → List Item → Type 0) (bytes : List ℕ) (reader : ObjectReader T) : Type 0 where
  pub before : List Item
  pub held : List Item
  pub tells : Tells reader.pending held
  pub used : length bytes ≡ used reader
  pub few : length reader.kept.items < needs reader.stage reader.at
  pub goes : (more : List ℕ) → verdict (bytes ++ more) ≡ goes_on reader.stage reader.at held before (reader.kept.items ++ more)

-- A unit was refused: however the bytes go on, this is the verdict.
pub record IsRefused (bytes : List ℕ) (refused : ReadFault) : Type 0 where
  pub why : Refusal
  pub told : List Item
  pub is : refused ≡ fault_of why
  pub goes : (more : List ℕ) → verdict (bytes ++ more) ≡ Bad why told

-- A reader that was fed these bytes goes on, or has refused them so.
abbrev pub HasJudged : {T : Type 0} → (T → List Item → Type 0) → List ℕ → ObjectReader T → Option ReadFault → Type 0
HasJudged Tells bytes reader None = GoesOn Tells bytes reader
HasJudged Tells bytes reader (Some refused) = IsRefused bytes refused

-- The reader was fed these bytes, in whatever pieces.
abbrev pub HasRead : {T : Type 0} → (T → List Item → Type 0) → List ℕ → ObjectReader T → Type 0
HasRead Tells bytes reader = HasJudged Tells bytes reader reader.fault

-- The items by which there are more now are those that are told.
pub record GivesTold {T : Type 0} (Tells : T → List Item → Type 0) (earlier later : List Item) (told : T) : Type 0 where
  pub found : List Item
  pub more : later ≡ earlier ++ found
  pub tells : Tells told found

-- After these bytes more were read: so many items more are told, and this is answered.
pub record Takes {T : Type 0} (Tells : T → List Item → Type 0) (bytes more : List ℕ) (answer : Result (Unit {0}) ReadFault) (reader : ObjectReader T) (told : T) : Type 0 where
  pub read : HasRead Tells (bytes ++ more) reader
  pub answered : answer ≡ answer_of (verdict (bytes ++ more))
  pub gives : GivesTold Tells (items_of (verdict bytes)) (items_of (verdict (bytes ++ more))) told
