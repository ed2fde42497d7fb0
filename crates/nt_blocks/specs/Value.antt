-- What contracts see of a body of blobs in the making.
use Rattle.std.specs.Prelude.{◌≡◌, ℕ, ◌+◌, ◌≤◌, ◌⊎◌, List, [], ◌∷◌, length}
use Rattle.std.specs.List.{flat_map}
use Rattle.ep_defs.specs.declared.item.ItemKind.{ItemKind}
use Rattle.nt_object.specs.declared.object.BlockKind.{BlockKind}
use Rattle.nt_object.specs.declared.object.BlockKind.TheVariants as block
use Rattle.nt_head.specs.declared.head.HeadState.{HeadState}
use Rattle.nt_head.specs.Head.{zero_state}
use Rattle.nt_blocks.specs.Bodies.{AreChained, Blob, HoldsEvent, HoldsMeta, blob_bytes}
use Rattle.nt_blocks.specs.declared.limits.TheConstants.{HEADER_BYTES, WRITTEN_BYTES}

-- The kind of the block, the bytes of the blobs so far, what the header of the last one said, and the least and the
-- greatest of their stamps, 0 where there are none.
pub record Making : Type 0 where
  pub kind : BlockKind
  pub bytes : List ℕ
  pub last : HeadState
  pub least : ℕ
  pub greatest : ℕ

-- A header without a sequence.
pub record IsQuiet (state : HeadState) : Type 0 where
  pub number : state.number ≡ 0
  pub capture : state.capture ≡ 0
  pub processor : state.processor ≡ 0

-- What a blob of a block of this kind holds.
abbrev pub HoldsIn : BlockKind → Blob → ItemKind → Type 0
HoldsIn block.Event blob kind = HoldsEvent blob kind
HoldsIn block.Metadata blob kind = HoldsMeta blob kind
HoldsIn block.Stack blob kind = ⊥
HoldsIn block.Point blob kind = ⊥

-- Each of the blobs holds something, as a blob of a block of this kind.
abbrev pub EachHolds : BlockKind → List Blob → Type 0
EachHolds kind [] = Unit {0}
EachHolds kind (blob ∷ blobs) = ((held : ItemKind) × HoldsIn kind blob held) × EachHolds kind blobs

-- What the header of the last blob says, or this before the first.
abbrev pub last_head : HeadState → List Blob → HeadState
last_head before [] = before
last_head before (blob ∷ blobs) = last_head blob.state blobs

-- The bytes are blobs one after another, each of which holds an item.
pub record AreBlobs (kind : BlockKind) (bytes : List ℕ) (last : HeadState) : Type 0 where
  pub blobs : List Blob
  pub spelled : bytes ≡ flat_map blob_bytes blobs
  pub chained : AreChained zero_state blobs
  pub latest : last ≡ last_head zero_state blobs
  pub hold : EachHolds kind blobs

-- The body is no greater than those that are written, in a metadata block no header has a sequence, and the bytes are
-- blobs.
pub record IsBounded (kind : BlockKind) (bytes : List ℕ) (last : HeadState) : Type 0 where
  pub few : HEADER_BYTES + length bytes ≤ WRITTEN_BYTES
  pub quiet : kind ≡ block.Metadata → IsQuiet last
  pub of_blobs : (kind ≡ block.Event) ⊎ (kind ≡ block.Metadata)
  pub whole : AreBlobs kind bytes last
