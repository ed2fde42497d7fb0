-- What is put behind some bytes.
use Rattle.std.specs.Prelude.{◌≡◌, ℕ, List, ◌++◌}
use Rattle.ep_defs.specs.Entry.{EventEntry}
use Rattle.pt_lines.specs.declared.line.EventLine.{EventLine}
use Rattle.pt_lines.specs.declared.origin.Origin.{Origin}

-- The bytes have grown by a text of which this holds.
abbrev pub Appends : (List ℕ → Type 0) → List ℕ → List ℕ → Type 0
Appends IsText old new = (text : List ℕ) × IsText text × (new ≡ old ++ text)

-- What is said of an event is what the entry tells, with these numbers beside it.
pub record Tells (line : EventLine) (from : Origin) (core id : ℕ) (event : EventEntry) : Type 0 where
  pub origin : line.origin ≡ from
  pub processor : line.processor ≡ core
  pub thread_id : line.thread_id ≡ id
  pub stamp : line.stamp ≡ event.stamp
  pub thread : line.thread ≡ event.thread
  pub number : line.number ≡ event.number
  pub def : line.def.now ≡ event.def
  pub activity : line.activity.now ≡ event.activity
  pub related : line.related.now ≡ event.related
  pub stack : line.stack.now ≡ event.stack
  pub payload : line.payload.now ≡ event.payload
