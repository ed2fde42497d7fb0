-- What an object's head is taken as, from its first tag up to the tag after its type's name (the NetTrace format
-- document of PerfView (version 4), the objects of "FastSerialization"; what is refused, and where, is this project's
-- profile).
use Rattle.std.specs.Prelude.{ℕ, ◌+◌, Bool, ◌&&◌, ◌||◌, not, List, take, drop, length, slice_index, nat_eq, nat_lt, ◌==◌, codes, if◌then◌else◌, Option, Some, None}
use Rattle.std.specs.Cmp.Lexicographic.{pointwise}
use Rattle.nt_object.specs.declared.object.BlockKind.TheVariants as block
use Rattle.nt_object.specs.declared.head.ObjectKind.{ObjectKind}
use Rattle.nt_object.specs.declared.head.ObjectKind.TheVariants as kind
use Rattle.nt_object.specs.declared.head.ObjectHead.{ObjectHead}
use Rattle.nt_object.specs.declared.head.ObjectHead.TheVariants as head
use Rattle.nt_object.specs.declared.limits.TheConstants.{TRACE_VERSION, BLOCK_VERSION}
use Rattle.byteorder.specs.Endian.{little_number}
use Rattle.nt_object.specs.Object.{block_name}

-- The number of four bytes at this place, the low byte first.
abbrev pub number_in : List ℕ → ℕ → ℕ
number_in bytes place = little_number 4 (drop place bytes)

-- The name of an object's type.
abbrev pub name_of : ObjectKind → List ℕ
name_of kind.Trace = codes "Trace"
name_of (kind.Block k) = block_name k

-- Both versions of an object.
abbrev pub version_of : ObjectKind → ℕ
version_of kind.Trace = TRACE_VERSION
version_of (kind.Block k) = BLOCK_VERSION

-- The lengths of the five names.
abbrev pub is_name_length : ℕ → Bool
is_name_length n = (n == 5) || (n == 7) || (n == 10) || (n == 13)

-- The object whose type has this name.
abbrev pub kind_named : List ℕ → Option ObjectKind
kind_named name =
    if pointwise nat_eq name (name_of kind.Trace) then Some kind.Trace
    else if pointwise nat_eq name (name_of (kind.Block block.Event)) then Some (kind.Block block.Event)
    else if pointwise nat_eq name (name_of (kind.Block block.Metadata)) then Some (kind.Block block.Metadata)
    else if pointwise nat_eq name (name_of (kind.Block block.Stack)) then Some (kind.Block block.Stack)
    else if pointwise nat_eq name (name_of (kind.Block block.Point)) then Some (kind.Block block.Point)
    else None

-- The versions are judged once the name is known: each has a field of its own.
abbrev pub versions_at : ObjectKind → ℕ → List ℕ → ObjectHead
versions_at k used bytes =
    if not (number_in bytes 3 == version_of k) then head.BadVersion 3
    else if not (number_in bytes 7 == version_of k) then head.BadVersion 7
    else head.Head k used

-- After a known name stands the tag that ends the type.
abbrev pub after_name : Option ObjectKind → ℕ → List ℕ → ObjectHead
after_name None n bytes = head.BadObject 15
after_name (Some k) n bytes =
    if not (slice_index bytes (15 + n) == 6) then head.BadObject 15 else versions_at k (16 + n) bytes

-- A name of this length after 15 bytes.
abbrev pub named_at : ℕ → List ℕ → ObjectHead
named_at n bytes = after_name (kind_named (take n (drop 15 bytes))) n bytes

-- Two tags, two versions and the name's length after the first tag.
abbrev pub begins_well : List ℕ → Bool
begins_well bytes = (slice_index bytes 1 == 5) && (slice_index bytes 2 == 1) && is_name_length (number_in bytes 11)

-- The head is judged a unit at a time, each when all its bytes are there: one byte, 14 bytes, the name and a tag.
abbrev pub object_head_at : List ℕ → ObjectHead
object_head_at bytes =
    if nat_lt (length bytes) 1 then head.Short
    else if not (slice_index bytes 0 == 5) then head.BadObject 0
    else if nat_lt (length bytes) 15 then head.Short
    else if not (begins_well bytes) then head.BadObject 1
    else if nat_lt (length bytes) (16 + number_in bytes 11) then head.Short
    else named_at (number_in bytes 11) bytes
