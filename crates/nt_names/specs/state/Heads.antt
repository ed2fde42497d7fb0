-- For private functions: what is read of a header.
use Rattle.std.specs.Prelude.{◌≡◌, ℕ, ◌≤◌, Bool, List, length, drop, Option, Ok, Err}
use Rattle.std.specs.Option.{option_map_or}
use Rattle.pt_num.specs.Fields.{Fault, Field}
use Rattle.nt_object.specs.declared.object.BlockKind.TheVariants as block
use Rattle.nt_head.specs.declared.head.HeadState.{HeadState}
use Rattle.nt_head.specs.Head as head
use Rattle.nt_head.specs.Reading.{head_at, if_set, sequence_at}
use Rattle.nt_blocks.specs.state.Taken.{ReadsHead}
use Rattle.nt_check.specs.declared.checker.EventNames.{EventNames}
use Rattle.nt_names.specs.declared.head.Head.{Head}
use Rattle.nt_names.specs.declared.head.Sequence.{Sequence}

-- What is kept of what a header says.
abbrev pub head_of : HeadState → Head
head_of state =
    record {
      names = record { metadata = state.metadata; number = state.number; capture = state.capture; stack = state.stack };
      size = state.size;
    }

-- No such field stands at the place.
abbrev pub Cuts : {A : Type 0} → (List ℕ → Field A) → List ℕ → ℕ → Type 0
Cuts field bytes start = (why : Fault) × (field (drop start bytes) ≡ Err why)

-- No header stands at the front of the bytes, whatever was said before.
abbrev pub CutsHead : List ℕ → Type 0
CutsHead bytes = (before : HeadState) → (why : Fault) × (head_at before bytes ≡ Err why)

-- A field that may be absent stands between two places.
pub record Passes {A : Type 0} (there : Bool) (field : List ℕ → Field A) (bytes : List ℕ) (start end : ℕ) : Type 0 where
  pub said : Option A
  pub within : end ≤ length bytes
  pub read : if_set there field (drop start bytes) ≡ Ok (said, drop end bytes)

-- The fields of the sequence, which may be absent, give this number and this thread in place of the previous ones.
pub record SkimsSequence (there : Bool) (bytes : List ℕ) (start end metadata : ℕ) (previous : EventNames) (now : Sequence) : Type 0 where
  pub said : Option head.Sequence
  pub within : end ≤ length bytes
  pub read : if_set there sequence_at (drop start bytes) ≡ Ok (said, drop end bytes)
  pub number : now.number ≡ head.number_after metadata previous.number said
  pub capture : now.capture ≡ option_map_or (λ s. s.capture) said previous.capture

-- A header of this many bytes stands at the front, after one of which that was kept, and this is kept of it.
pub record SkimsAfter (before : HeadState) (bytes : List ℕ) (used : ℕ) (now : Head) : Type 0 where
  pub state : HeadState
  pub kept : head_of state ≡ now
  pub read : head_at before bytes ≡ Ok (state, drop used bytes)

-- The same, after any header of which that was kept.
pub record SkimsHead (previous : Head) (bytes : List ℕ) (used : ℕ) (now : Head) : Type 0 where
  pub within : used ≤ length bytes
  pub after : (before : HeadState) → head_of before ≡ previous → SkimsAfter before bytes used now

-- An event's header, before a payload that is there.
pub record SkimsEvent (before : HeadState) (bytes : List ℕ) (now : Head) (used : ℕ) : Type 0 where
  pub state : HeadState
  pub kept : head_of state ≡ now
  pub reads : ReadsHead block.Event before bytes state used

-- The same, after any header of which that was kept.
abbrev pub SkimsBlob : Head → List ℕ → Head → ℕ → Type 0
SkimsBlob previous bytes now used = (before : HeadState) → head_of before ≡ previous → SkimsEvent before bytes now used
