-- Objects of a stream (the NetTrace format document of PerfView (version 4), the objects of "FastSerialization").
use Rattle.std.specs.Prelude.{◌≡◌, ℕ, ◌+◌, ◌-◌, ◌%◌, ◌^◌, ◌<◌, List, [], ◌∷◌, ◌++◌, length, codes, replicate}
use Rattle.std.specs.List.{flat_map}
use Rattle.std.specs.Int.{w16, w32, w64}
use Rattle.ep_defs.specs.declared.session.TraceInfo.{TraceInfo}
use Rattle.nt_object.specs.declared.object.BlockKind.{BlockKind}
use Rattle.nt_object.specs.declared.object.BlockKind.TheVariants as kind
use Rattle.nt_object.specs.declared.limits.TheConstants.{BLOCK_BYTES}
use Rattle.pt_num.specs.Numbers.{fixed}

-- Tags: 5 begins an object or its type, 1 is the null reference, 6 ends an object.
abbrev pub object : ℕ → List ℕ → List ℕ → List ℕ
object version name payload =
    5 ∷ 5 ∷ 1 ∷ []
    ++ fixed w32 version
    ++ fixed w32 version
    ++ fixed w32 (length name)
    ++ name
    ++ 6 ∷ payload
    ++ 6 ∷ []

-- What the Trace object holds: the date, the clock, the size of a pointer, the process, the processors and the sampling
-- rate.
abbrev pub trace_payload : TraceInfo → List ℕ
trace_payload info =
    flat_map (fixed w16) info.date
    ++ fixed w64 info.sync
    ++ fixed w64 info.frequency
    ++ fixed w32 info.pointer_size
    ++ fixed w32 info.process_id
    ++ fixed w32 info.processors
    ++ fixed w32 info.rate

-- The Trace object, of version 4.
abbrev pub trace_object : TraceInfo → List ℕ
trace_object info = object 4 (codes "Trace") (trace_payload info)

-- The name of a block's type.
abbrev pub block_name : BlockKind → List ℕ
block_name kind.Event = codes "EventBlock"
block_name kind.Metadata = codes "MetadataBlock"
block_name kind.Stack = codes "StackBlock"
block_name kind.Point = codes "SPBlock"

-- A block by its contents: what pads it, and its body.
pub record Block : Type 0 where
  pub kind : BlockKind
  pub padding : List ℕ
  pub body : List ℕ

-- A block, of version 2: the size of its body, padding, and the body.
abbrev pub block_bytes : Block → List ℕ
block_bytes block =
    object 2 (block_name block.kind) (fixed w32 (length block.body) ++ block.padding ++ block.body)

-- How many bytes bring an offset to the next one that 4 divides.
abbrev pub to_multiple_of_4 : ℕ → ℕ
to_multiple_of_4 at = (4 - at % 4) % 4

-- Where the padding of a block begins: after three tags, three numbers, the name, the tag and the size.
abbrev pub padding_begins : ℕ → BlockKind → ℕ
padding_begins at kind = at + 3 + 12 + length (block_name kind) + 1 + 4

-- How many bytes a block takes that is to stand at this offset and has a body of this length.
abbrev pub block_len : ℕ → BlockKind → ℕ → ℕ
block_len at kind body = BLOCK_BYTES + length (block_name kind) + to_multiple_of_4 (padding_begins at kind) + body

-- The block may stand at this offset of a stream.
pub record CanStand (at : ℕ) (block : Block) : Type 0 where
  pub padding : length block.padding ≡ to_multiple_of_4 (padding_begins at block.kind)
  pub size : length block.body < 2 ^ 32

-- A block that is to stand at this offset, padded by zeros (that they are zeros is this project's profile).
abbrev pub padded : ℕ → BlockKind → List ℕ → Block
padded at kind body =
    record { kind = kind; padding = replicate (to_multiple_of_4 (padding_begins at kind)) 0; body = body }
