-- What is found in the bytes of a stream, whole or not (the NetTrace format document of PerfView (version 4); what is
-- refused, and where, is this project's profile).
use Rattle.std.specs.Prelude.{ℕ, zero, suc, ◌+◌, Bool, true, false, ◌&&◌, not, List, [], ◌∷◌, ◌++◌, length, take, drop, slice_index, Result, Ok, Err, nat_eq, nat_lt, nat_le, ◌==◌, if◌then◌else◌}
use Rattle.std.specs.Cmp.Lexicographic.{pointwise}
use Rattle.byteorder.specs.Endian.{little_number}
use Rattle.ep_defs.specs.declared.session.TraceInfo.{TraceInfo}
use Rattle.ep_defs.specs.declared.item.Item.{Item}
use Rattle.ep_defs.specs.declared.item.ItemKind.TheVariants as item
use Rattle.ep_defs.specs.Text.{units_in}
use Rattle.pt_num.specs.Steps.{◌>>=◌, check, or_fault}
use Rattle.nt_object.specs.declared.head.ObjectKind.{ObjectKind}
use Rattle.nt_object.specs.declared.head.ObjectKind.TheVariants as kind
use Rattle.nt_object.specs.Object.{to_multiple_of_4}
use Rattle.nt_object.specs.Stream.{stream_head}
use Rattle.nt_object.specs.Reading.{number_in, version_of, is_name_length, kind_named}
use Rattle.nt_blocks.specs.declared.limits.TheConstants.{READ_BYTES}
use Rattle.nt_blocks.specs.Refusals.{Reason, BadMagic, BadObject, BadVersion, TooLarge, Refusal, refusal, body_at}

-- Why reading stops: the bytes end within a unit, or a unit is refused.
pub data Stop : Type 0 where
  Cut : Stop
  Refused : (refusal : Refusal) → Stop

-- The reading stops where something is wrong.
abbrev pub refused : ℕ → Reason → Stop
refused at reason = Refused (refusal at reason)

-- A unit of this many bytes, and what follows it. It is judged when all its bytes are there.
abbrev pub unit : ℕ → List ℕ → Result (List ℕ × List ℕ) Stop
unit n bytes = if nat_lt (length bytes) n then Err Cut else Ok (take n bytes, drop n bytes)

-- What is refused in a body stops reading.
abbrev pub or_refused : {A : Type 0} → Result A Refusal → Result A Stop
or_refused (Ok x) = Ok x
or_refused (Err refusal) = Err (Refused refusal)

-- What an object tells, the offset after it, and the bytes after it.
pub record Object : Type 0 where
  pub items : List Item
  pub next : ℕ
  pub rest : List ℕ

-- The last unit of an object is one byte 6.
abbrev pub closed : List Item → ℕ → List ℕ → Result Object Stop
closed items at bytes = do
  tag ← unit 1 bytes
  ended ← check (slice_index tag.0 0 == 6) (refused at BadObject)
  Ok (record { items = items; next = at + 1; rest = tag.1 })

-- The 48 bytes of a Trace object's payload.
abbrev pub info_in : List ℕ → TraceInfo
info_in payload =
    record {
      date = units_in (take 16 payload);
      sync = little_number 8 (drop 16 payload);
      frequency = little_number 8 (drop 24 payload);
      pointer_size = number_in payload 32;
      process_id = number_in payload 36;
      processors = number_in payload 40;
      rate = number_in payload 44;
    }

-- The payload of an object of this kind, and the object's end: a Trace object's 48 bytes, or a block's size, padding
-- and body.
abbrev pub payload_at : ObjectKind → ℕ → List ℕ → Result Object Stop
payload_at kind.Trace at bytes = do
  payload ← unit 48 bytes
  closed (record { at = at; kind = item.Trace (info_in payload.0) } ∷ []) (at + 48) payload.1
payload_at (kind.Block block) at bytes = do
  size ← unit 4 bytes
  fits ← check (nat_le (number_in size.0 0) READ_BYTES) (refused at (TooLarge (number_in size.0 0)))
  padding ← unit (to_multiple_of_4 (at + 4)) size.1
  body ← unit (number_in size.0 0) padding.1
  items ← or_refused (body_at block (at + 4 + length padding.0) body.0)
  closed items (at + 4 + length padding.0 + length body.0) body.1

-- The object is the Trace object.
abbrev pub is_trace : ObjectKind → Bool
is_trace kind.Trace = true
is_trace (kind.Block block) = false

-- Trace is the first object, and stands once.
abbrev pub may_stand : Bool → ObjectKind → Bool
may_stand has_trace object = if has_trace then not (is_trace object) else is_trace object

-- The name of this many bytes and the tag after it, and the object's payload; the versions, which stand before the
-- name, are judged in between.
abbrev pub named_at : Bool → ℕ → ℕ → List ℕ → List ℕ → Result Object Stop
named_at has_trace n at head bytes = do
  name ← unit (n + 1) bytes
  object ← or_fault (kind_named (take n name.0)) (refused (at + 14) BadObject)
  ended ← check (pointwise nat_eq (drop n name.0) (6 ∷ []) && may_stand has_trace object) (refused (at + 14) BadObject)
  version ← check (number_in head 2 == version_of object) (refused (at + 2) BadVersion)
  least ← check (number_in head 6 == version_of object) (refused (at + 6) BadVersion)
  payload_at object (at + 14 + n + 1) name.1

-- An object from its second byte on, after a Trace object or before it.
abbrev pub object_at : Bool → ℕ → List ℕ → Result Object Stop
object_at has_trace at bytes = do
  head ← unit 14 bytes
  begun ← check (pointwise nat_eq (take 2 head.0) (5 ∷ 1 ∷ []) && is_name_length (number_in head.0 10)) (refused at BadObject)
  named_at has_trace (number_in head.0 10) at head.0 head.1

-- What was found: a refusal, a whole stream, or the beginning of one; and the items of the whole objects before that
-- place.
pub data Verdict : Type 0 where
  Bad : (refusal : Refusal) → (items : List Item) → Verdict
  Good : (items : List Item) → Verdict
  More : (items : List Item) → Verdict

-- What is found in a stream whose reading stops so, after these items.
abbrev pub stopped : Stop → List Item → Verdict
stopped Cut items = More items
stopped (Refused refusal) items = Bad refusal items

-- The byte 1 ends a stream that has its Trace object. Nothing may follow.
abbrev pub end_at : Bool → ℕ → List Item → ℕ → List ℕ → Verdict
end_at has_trace at items tag rest =
    if (tag == 1) && has_trace
    then (if length rest == 0 then Good items else Bad (refusal (at + 1) BadObject) items)
    else Bad (refusal at BadObject) items

-- The objects from this offset on, after these items. The first number bounds how many there can be.
unfoldable pub objects_at : ℕ → Bool → List Item → ℕ → List ℕ → Verdict
objects_at zero has_trace items at bytes = More items
objects_at (suc more) has_trace items at [] = More items
objects_at (suc more) has_trace items at (tag ∷ bytes) = elim (tag == 5) [
  | false ↦ end_at has_trace at items tag bytes
  | true ↦ elim (object_at has_trace (at + 1) bytes) [
    | Ok object ↦ objects_at more true (items ++ object.items) object.next object.rest
    | Err stop ↦ stopped stop items
  ]
]

-- What is found in these bytes.
abbrev pub verdict : List ℕ → Verdict
verdict bytes = elim (unit 32 bytes) [
  | Err stop ↦ stopped stop []
  | Ok head ↦ elim (pointwise nat_eq head.0 stream_head) [
    | false ↦ Bad (refusal 0 BadMagic) []
    | true ↦ objects_at (length bytes) false [] 32 head.1
  ]
]
