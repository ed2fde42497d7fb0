-- The header at the front of some bytes (the NetTrace format document of PerfView (version 4), "compressed header";
-- what is refused is this project's profile).
use Rattle.std.specs.Prelude.{◌≡◌, ℕ, ◌≤◌, ◌/◌, ◌%◌, Bool, true, false, List, length, drop, Option, Some, None, Ok, Err, ◌==◌}
use Rattle.std.specs.Int.{w8, w32, w64}
use Rattle.nt_head.specs.declared.flags.TheConstants.{ACTIVITY, METADATA, RELATED, SEQUENCE, SIZE, SORTED, STACK, THREAD}
use Rattle.nt_head.specs.declared.head.HeadState.{HeadState}
use Rattle.nt_head.specs.declared.take.TakenHead.{TakenHead}
use Rattle.nt_head.specs.declared.take.TakenHead.TheVariants as taken
use Rattle.nt_head.specs.declared.limits.TheConstants.{ID_BYTES}
use Rattle.pt_num.specs.Steps.{◌>>=◌}
use Rattle.pt_num.specs.Fields.{Field, Short, TooWide, bytes_at, fixed_at, var_at}
use Rattle.nt_head.specs.Head.{HeadFields, Sequence, state_after}

-- A field that a flag announces.
abbrev pub if_set : {A : Type 0} → Bool → (List ℕ → Field A) → List ℕ → Field (Option A)
if_set true field bytes = field bytes >>= λ x. Ok (Some x.0, x.1)
if_set false field bytes = Ok (None, bytes)

-- The bit of a flag byte that is worth this much.
abbrev pub has_flag : ℕ → ℕ → Bool
has_flag worth flags = flags / worth % 2 == 1

-- The sequence fields at the front of some bytes.
abbrev pub sequence_at : List ℕ → Field Sequence
sequence_at bytes = do
  increment ← var_at w32 bytes
  capture ← var_at w64 increment.1
  processor ← var_at w32 capture.1
  Ok (record { increment = increment.0; capture = capture.0; processor = processor.0 }, processor.1)

-- The flag byte, and then the fields in their order, up to the first that is cut or too wide.
unfoldable pub fields_at : List ℕ → Field HeadFields
fields_at bytes = do
  flags ← fixed_at w8 bytes
  metadata ← if_set (has_flag METADATA flags.0) (var_at w32) flags.1
  sequence ← if_set (has_flag SEQUENCE flags.0) sequence_at metadata.1
  thread ← if_set (has_flag THREAD flags.0) (var_at w64) sequence.1
  stack ← if_set (has_flag STACK flags.0) (var_at w32) thread.1
  stamp ← var_at w64 stack.1
  activity ← if_set (has_flag ACTIVITY flags.0) (bytes_at ID_BYTES) stamp.1
  related ← if_set (has_flag RELATED flags.0) (bytes_at ID_BYTES) activity.1
  size ← if_set (has_flag SIZE flags.0) (var_at w32) related.1
  Ok (
    record {
      metadata = metadata.0;
      sequence = sequence.0;
      thread = thread.0;
      stack = stack.0;
      stamp_increment = stamp.0;
      activity = activity.0;
      related = related.0;
      sorted = has_flag SORTED flags.0;
      size = size.0;
    },
    size.1,
  )

-- What the header at the front of the bytes says, after a blob that said that, and the bytes after it.
abbrev pub head_at : HeadState → List ℕ → Field HeadState
head_at before bytes = fields_at bytes >>= λ fields. Ok (state_after before fields.0, fields.1)

-- The answer is what stands at the front of the bytes. A varuint that is too wide stands at its offset in them.
abbrev pub TakesHead : Field HeadState → List ℕ → TakenHead → Type 0
TakesHead field bytes (taken.Head state used) = (used ≤ length bytes) × (field ≡ Ok (state, drop used bytes))
TakesHead field bytes taken.Short = field ≡ Err Short
TakesHead field bytes (taken.BadVar at) = (at ≤ length bytes) × (field ≡ Err (TooWide (drop at bytes)))

-- What holds of a state and of the number of its header's bytes.
abbrev pub IfHead : TakenHead → (HeadState → ℕ → Type 0) → Type 0
IfHead (taken.Head state used) P = P state used
IfHead taken.Short P = Unit {0}
IfHead (taken.BadVar at) P = Unit {0}
