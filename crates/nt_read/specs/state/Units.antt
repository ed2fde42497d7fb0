-- For private functions: what judging a unit answers.
use Rattle.std.specs.Prelude.{◌≡◌, ℕ, ◌+◌, ◌*◌, ◌<◌, List, [], ◌++◌, length, Result, Ok, Err}
use Rattle.ep_defs.specs.declared.item.Item.{Item}
use Rattle.nt_object.specs.declared.head.ObjectKind.{ObjectKind}
use Rattle.nt_object.specs.declared.head.ObjectKind.TheVariants as object
use Rattle.nt_blocks.specs.declared.take.BodyFault.{BodyFault}
use Rattle.nt_blocks.specs.declared.take.BodyFault.TheVariants as body
use Rattle.nt_blocks.specs.Refusals.{Refusal}
use Rattle.nt_blocks.specs.Verdict.{Bad}
use Rattle.nt_read.specs.declared.fault.ReadFault.{ReadFault}
use Rattle.nt_read.specs.declared.fault.ReadKind.TheVariants as kind
use Rattle.nt_read.specs.declared.fault.ReadFault.TheVariants as fault
use Rattle.nt_read.specs.declared.stage.Stage.{Stage}
use Rattle.nt_read.specs.declared.stage.Stage.TheVariants as stage
use Rattle.nt_read.specs.Answers.{fault_of}
use Rattle.nt_read.specs.Stages.{goes_on}

-- A unit of this stage may have no bytes, and this many others may follow at once.
abbrev pub turns_left : Stage → ℕ
turns_left stage.Head = 0
turns_left (stage.Tag has_trace) = 0
turns_left (stage.Begun has_trace) = 0
turns_left (stage.Name has_trace n version least) = 0
turns_left stage.Trace = 0
turns_left (stage.Size kind) = 0
turns_left (stage.Padding kind size) = 2
turns_left (stage.Body kind size) = 1
turns_left stage.Close = 0
turns_left stage.Ended = 0

-- A unit of this stage tells nothing.
abbrev pub IsPlain : Stage → Type 0
IsPlain stage.Head = Unit {0}
IsPlain (stage.Tag has_trace) = Unit {0}
IsPlain (stage.Begun has_trace) = Unit {0}
IsPlain (stage.Name has_trace n version least) = Unit {0}
IsPlain stage.Trace = ⊥
IsPlain (stage.Size kind) = Unit {0}
IsPlain (stage.Padding kind size) = Unit {0}
IsPlain (stage.Body kind size) = ⊥
IsPlain stage.Close = Unit {0}
IsPlain stage.Ended = Unit {0}

-- The items that are given once a unit of this stage was read, where the open object's are these.
abbrev pub given : Stage → List Item → List Item
given stage.Head pending = []
given (stage.Tag has_trace) pending = []
given (stage.Begun has_trace) pending = []
given (stage.Name has_trace n version least) pending = []
given stage.Trace pending = []
given (stage.Size kind) pending = []
given (stage.Padding kind size) pending = []
given (stage.Body kind size) pending = []
given stage.Close pending = pending
given stage.Ended pending = []

-- The items of the open object that are left then.
abbrev pub left : Stage → List Item → List Item
left stage.Head pending = pending
left (stage.Tag has_trace) pending = pending
left (stage.Begun has_trace) pending = pending
left (stage.Name has_trace n version least) pending = pending
left stage.Trace pending = pending
left (stage.Size kind) pending = pending
left (stage.Padding kind size) pending = pending
left (stage.Body kind size) pending = pending
left stage.Close pending = []
left stage.Ended pending = pending

-- The payload of an object of this kind begins with this unit.
abbrev pub payload_stage : ObjectKind → Stage
payload_stage object.Trace = stage.Trace
payload_stage (object.Block block) = stage.Size block

-- The unit is whole: the verdict from it on is that from the next stage on. The open object's items are `before` before
-- it and `after` behind it.
pub record Turns (stage : Stage) (at : ℕ) (before : List Item) (unit : List ℕ) (next : Stage) (after : List Item) : Type 0 where
  pub falls : turns_left next < 3 * length unit + turns_left stage
  pub goes : (told : List Item) (more : List ℕ) → goes_on stage at before told (unit ++ more) ≡ goes_on next (at + length unit) (left stage after) (told ++ given stage after) more

-- The unit is refused, whatever follows it.
pub record Refuses (stage : Stage) (at : ℕ) (before : List Item) (unit : List ℕ) (refused : ReadFault) : Type 0 where
  pub why : Refusal
  pub is : refused ≡ fault_of why
  pub goes : (told : List Item) (more : List ℕ) → goes_on stage at before told (unit ++ more) ≡ Bad why told

-- A fault is a refusal, or memory ran out.
abbrev pub Faults : Stage → ℕ → List Item → List ℕ → ReadFault → Type 0
Faults stage at before unit (fault.Bad place kind) = Refuses stage at before unit (fault.Bad place kind)
Faults stage at before unit fault.OutOfMemory = Unit {0}

-- A whole unit is taken and the reader comes to the next stage, or it is refused.
abbrev pub Judges : Stage → ℕ → List Item → List ℕ → Result Stage ReadFault → List Item → Type 0
Judges stage at before unit (Ok next) after = Turns stage at before unit next after
Judges stage at before unit (Err refused) after = Faults stage at before unit refused

-- The fault of a body that begins at this offset.
abbrev pub body_fault : ℕ → BodyFault → ReadFault
body_fault at (body.BadBlock place) = fault.Bad (at + place) kind.BadBlock
body_fault at (body.BadHead place) = fault.Bad (at + place) kind.BadHead
body_fault at (body.BadMeta place) = fault.Bad (at + place) kind.BadMeta
body_fault at (body.Uncompressed place) = fault.Bad (at + place) kind.Uncompressed
body_fault at body.OutOfMemory = fault.OutOfMemory
