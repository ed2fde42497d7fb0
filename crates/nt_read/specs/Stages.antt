-- The verdict from any unit of a stream on: what is left of its definition there.
use Rattle.std.specs.Prelude.{ℕ, ◌+◌, Bool, true, false, ◌&&◌, List, [], ◌∷◌, ◌++◌, length, take, drop, Result, Ok, Err, nat_eq, ◌==◌, if◌then◌else◌}
use Rattle.std.specs.Cmp.Lexicographic.{pointwise}
use Rattle.ep_defs.specs.declared.item.Item.{Item}
use Rattle.pt_num.specs.Steps.{◌>>=◌, check, or_fault}
use Rattle.nt_object.specs.declared.object.BlockKind.{BlockKind}
use Rattle.nt_object.specs.declared.head.ObjectKind.TheVariants as kind
use Rattle.nt_object.specs.declared.limits.TheConstants.{HEAD_BYTES}
use Rattle.nt_object.specs.Object.{to_multiple_of_4}
use Rattle.nt_object.specs.Stream.{stream_head}
use Rattle.nt_object.specs.Reading.{kind_named, version_of}
use Rattle.nt_blocks.specs.Refusals.{BadMagic, BadObject, BadVersion, refusal, body_at}
use Rattle.nt_blocks.specs.Verdict.{Object, Stop, Verdict, Bad, Good, More, closed, may_stand, object_at, objects_at, or_refused, payload_at, refused, stopped, unit}
use Rattle.nt_read.specs.declared.stage.Stage.{Stage}
use Rattle.nt_read.specs.declared.stage.Stage.TheVariants as stage
use Rattle.nt_read.specs.declared.stage.Version.{Version}
use Rattle.nt_read.specs.declared.limits.TheConstants.{TAG_BYTES, BEGUN_BYTES, INFO_BYTES, SIZE_BYTES}

-- How many bytes the unit has that begins at this offset.
abbrev pub needs : Stage → ℕ → ℕ
needs stage.Head at = HEAD_BYTES
needs (stage.Tag has_trace) at = TAG_BYTES
needs (stage.Begun has_trace) at = BEGUN_BYTES
needs (stage.Name has_trace n version least) at = n + TAG_BYTES
needs stage.Trace at = INFO_BYTES
needs (stage.Size kind) at = SIZE_BYTES
needs (stage.Padding kind size) at = to_multiple_of_4 at
needs (stage.Body kind size) at = size
needs stage.Close at = TAG_BYTES
needs stage.Ended at = TAG_BYTES

-- ---- an object from a unit within it on

-- A body of this size, and the object's end.
abbrev pub body_on : BlockKind → ℕ → ℕ → List ℕ → Result Object Stop
body_on kind size at bytes = do
  body ← unit size bytes
  items ← or_refused (body_at kind at body.0)
  closed items (at + length body.0) body.1

-- The padding before a body of this size, and what follows it.
abbrev pub padding_on : BlockKind → ℕ → ℕ → List ℕ → Result Object Stop
padding_on kind size at bytes = do
  padding ← unit (to_multiple_of_4 at) bytes
  body_on kind size (at + length padding.0) padding.1

-- The name of this many bytes, and what follows it. The versions stood before it.
abbrev pub name_on : Bool → ℕ → Version → Version → ℕ → List ℕ → Result Object Stop
name_on has_trace n version least at bytes = do
  name ← unit (n + 1) bytes
  object ← or_fault (kind_named (take n name.0)) (refused at BadObject)
  ended ← check (pointwise nat_eq (drop n name.0) (6 ∷ []) && may_stand has_trace object) (refused at BadObject)
  version_is ← check (version.number == version_of object) (refused version.at BadVersion)
  least_is ← check (least.number == version_of object) (refused least.at BadVersion)
  payload_at object (at + n + 1) name.1

-- ---- a stream from a unit on

-- What follows an object, after the items that were told before it.
abbrev pub objects_after : List Item → Result Object Stop → Verdict
objects_after told (Ok object) = objects_at (length object.rest) true (told ++ object.items) object.next object.rest
objects_after told (Err stop) = stopped stop told

-- What follows the first 32 bytes, if they are those of the head.
abbrev pub after_magic : Bool → ℕ → List Item → List ℕ → Verdict
after_magic false at told bytes = Bad (refusal at BadMagic) told
after_magic true at told bytes = objects_at (length bytes) false told (at + 32) bytes

-- What follows the stream's head.
abbrev pub after_head : ℕ → List Item → Result (List ℕ × List ℕ) Stop → Verdict
after_head at told (Ok head) = after_magic (pointwise nat_eq head.0 stream_head) at told head.1
after_head at told (Err stop) = stopped stop told

-- The verdict on these bytes, of which the first belongs to the unit of this stage and stands at this offset. `pending`
-- are the items of the object that isn't closed, `told` those of the objects before it.
abbrev pub goes_on : Stage → ℕ → List Item → List Item → List ℕ → Verdict
goes_on stage.Head at pending told bytes = after_head at told (unit 32 bytes)
goes_on (stage.Tag has_trace) at pending told bytes = objects_at (length bytes) has_trace told at bytes
goes_on (stage.Begun has_trace) at pending told bytes = objects_after told (object_at has_trace at bytes)
goes_on (stage.Name has_trace n version least) at pending told bytes = objects_after told (name_on has_trace n version least at bytes)
goes_on stage.Trace at pending told bytes = objects_after told (payload_at kind.Trace at bytes)
goes_on (stage.Size block) at pending told bytes = objects_after told (payload_at (kind.Block block) at bytes)
goes_on (stage.Padding block size) at pending told bytes = objects_after told (padding_on block size at bytes)
goes_on (stage.Body block size) at pending told bytes = objects_after told (body_on block size at bytes)
goes_on stage.Close at pending told bytes = objects_after told (closed pending at bytes)
goes_on stage.Ended at pending told bytes = if length bytes == 0 then Good told else Bad (refusal at BadObject) told

-- The verdict where no more bytes are there than part of the unit.
abbrev pub waiting : Stage → List Item → Verdict
waiting stage.Head told = More told
waiting (stage.Tag has_trace) told = More told
waiting (stage.Begun has_trace) told = More told
waiting (stage.Name has_trace n version least) told = More told
waiting stage.Trace told = More told
waiting (stage.Size kind) told = More told
waiting (stage.Padding kind size) told = More told
waiting (stage.Body kind size) told = More told
waiting stage.Close told = More told
waiting stage.Ended told = Good told
