-- What a session's stream and the rows of a program's threads know of each other (this project's profile).
use Rattle.std.specs.Prelude.{◌≡◌, ◌≢◌, ℕ, ◌+◌, ◌<◌, ◌≤◌, ◌&&◌, ◌==◌, if◌then◌else◌, List, Option, length, IsTrue, ◌↔◌}
use Rattle.std.specs.List.{All, sum_by}
use Rattle.std.specs.Option.{ForSome}
use Rattle.ep_defs.specs.declared.event.EventDef.{EventDef}
use Rattle.ep_defs.specs.declared.session.Config.{Config}
use Rattle.ep_defs.specs.declared.session.Marks.{Marks}
use Rattle.ep_defs.specs.declared.session.Write.{Write}
use Rattle.ep_defs.specs.Session.{fits}
use Rattle.ep_chunk.specs.Record.{Record}
use Rattle.ep_slot.specs.Slot.{AreRising}
use Rattle.ep_slot.specs.Hand.{HandState}
use Rattle.ep_row.specs.AtRest.{write_of}

-- ---- tables by row and slot

-- Rows are numbered from 1.
abbrev pub IsRow : ℕ → ℕ → Type 0
IsRow count row = (0 < row) × (row ≤ count)

-- The second table has this value for a row and slot, and what the first has for all others.
abbrev pub IsSetAt : {A : Type 0} → ℕ → ℕ → A → (ℕ → ℕ → A) → (ℕ → ℕ → A) → Type 0
IsSetAt row slot value old new = (r s : ℕ) → new r s ≡ (if (r == row) && (s == slot) then value else old r s)

-- The second table has what the first has.
abbrev pub IsSame : {A : Type 0} → (ℕ → ℕ → A) → (ℕ → ℕ → A) → Type 0
IsSame old new = (r s : ℕ) → new r s ≡ old r s

-- ---- hands

-- The hand of a session that was just opened on a thread that has made so many writes.
abbrev pub first_hand : ℕ → ℕ → ℕ → HandState
first_hand session thread from =
    record { session = session; thread = thread; from = from; taken = 0; last = 0; stolen = 0 }

-- The hand after a batch of so many records and chunks.
abbrev pub hand_after : HandState → ℕ → ℕ → ℕ → HandState
hand_after hand records last chunks =
    record hand { taken = hand.taken + records; last = last; stolen = hand.stolen + chunks }

-- ---- tests

-- Both tests on records say the same of each: of a configuration, a thread, the number of its writes at the opening, the
-- record's number and its write.
abbrev pub TestsRecordsAs : (Config → ℕ → ℕ → ℕ → Write → Type 0) → (Config → ℕ → ℕ → ℕ → Write → Type 0) → Type 0
TestsRecordsAs old new =
    (config : Config) (thread from number : ℕ) (write : Write) → new config thread from number write ↔ old config thread from number write

-- Both tests on hands say the same of each, for each row.
abbrev pub TestsHandsAs : (ℕ → HandState → Type 0) → (ℕ → HandState → Type 0) → Type 0
TestsHandsAs old new = (row : ℕ) (hand : HandState) → new row hand ↔ old row hand

-- Both tests on marks say the same of each, for each configuration.
abbrev pub TestsMarksAs : (Config → Marks → Type 0) → (Config → Marks → Type 0) → Type 0
TestsMarksAs old new = (config : Config) (marks : Marks) → new config marks ↔ old config marks

-- What can be opened in a slot with a configuration still can.
abbrev pub StillAttaches : (ℕ → Config → Type 0) → (ℕ → Config → Type 0) → Type 0
StillAttaches old new = (slot : ℕ) (config : Config) → old slot config → new slot config

-- ---- what was refused

-- The row set counts, if it does, what these marks tell as refused.
abbrev pub CountsRefused : Option ℕ → List Marks → Type 0
CountsRefused refused marks = ForSome refused (λ count. count ≡ sum_by (λ m. m.refused) marks)

-- ---- what stays

-- What a row set has of no session stays: how many rows there are, the definitions, what can be opened there, and the tests.
pub record KeepsSet {R : Type 0} (count : R → ℕ) (definitions : R → List EventDef) (can_attach : R → ℕ → Config → Type 0) (tests_record : R → Config → ℕ → ℕ → ℕ → Write → Type 0) (tests_hand : R → ℕ → HandState → Type 0) (tests_marks : R → Config → Marks → Type 0) (old new : R) : Type 0 where
  pub count_is : count new ≡ count old
  pub definitions_are : definitions new ≡ definitions old
  pub attaches : StillAttaches (can_attach old) (can_attach new)
  pub records : TestsRecordsAs (tests_record old) (tests_record new)
  pub hands : TestsHandsAs (tests_hand old) (tests_hand new)
  pub marks : TestsMarksAs (tests_marks old) (tests_marks new)

-- What a row set has of the sessions in other slots stays.
pub record KeepsSlots {R : Type 0} (expected : R → ℕ → ℕ → Option HandState) (configured : R → ℕ → ℕ → Option Config) (out : R → ℕ → ℕ) (slot : ℕ) (old new : R) : Type 0 where
  pub hands : (r s : ℕ) → s ≢ slot → expected new r s ≡ expected old r s
  pub configs : (r s : ℕ) → s ≢ slot → configured new r s ≡ configured old r s
  pub chunks : (s : ℕ) → s ≢ slot → out new s ≡ out old s

-- ---- batches

-- The record's event is one of the program's.
abbrev pub IsDefined : List EventDef → Record → Type 0
IsDefined events r = (0 < r.event) × (r.event ≤ length events)

-- Records that are taken with a hand: they are its thread's, their numbers lie above its last one and at most at the
-- batch's, and each is of a write that a thread can make.
pub record IsBatch (events : List EventDef) (hand : HandState) (records : List Record) (last : ℕ) : Type 0 where
  pub of_thread : All (λ r. r.thread ≡ hand.thread) records
  pub rising : AreRising hand.last last records
  pub defined : All (IsDefined events) records
  pub fit : All (λ r. IsTrue (fits (write_of r))) records

-- What the session had of the hand's thread once these records are taken with it.
pub record IsMarked (hand : HandState) (records : List Record) (last : ℕ) (marks : Marks) : Type 0 where
  pub thread : marks.thread ≡ hand.thread
  pub from : marks.from ≡ hand.from
  pub taken : marks.taken ≡ hand.taken + length records
  -- the other numbers that were used are those of refused writes
  pub refused : marks.taken + marks.refused ≡ last
