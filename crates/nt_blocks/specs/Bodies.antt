-- The bodies of blocks and the items that they hold (the NetTrace format document of PerfView (version 4)).
use Rattle.std.specs.Prelude.{◌≡◌, ℕ, ◌+◌, ◌%◌, ◌^◌, ◌<◌, List, [], ◌∷◌, ◌++◌, length}
use Rattle.std.specs.List.{concat, flat_map, AllByRecursion}
use Rattle.std.specs.Int.{w16, w32, w64}
use Rattle.ep_defs.specs.Ranges.{AreBytes}
use Rattle.ep_defs.specs.declared.event.EventDef.{EventDef}
use Rattle.ep_defs.specs.declared.item.Item.{Item}
use Rattle.ep_defs.specs.declared.item.ItemKind.{ItemKind}
use Rattle.ep_defs.specs.declared.item.ItemKind.TheVariants as item
use Rattle.nt_object.specs.declared.object.BlockKind.{BlockKind}
use Rattle.nt_object.specs.declared.object.BlockKind.TheVariants as block
use Rattle.nt_head.specs.declared.head.HeadState.{HeadState}
use Rattle.nt_head.specs.Head.{IsHead, zero_state}
use Rattle.nt_meta.specs.Meta.{IsMeta}
use Rattle.pt_num.specs.Numbers.{fixed}

-- ---- blobs

-- A blob: the bytes of its header, what the header says, and the payload.
pub record Blob : Type 0 where
  pub head : List ℕ
  pub state : HeadState
  pub payload : List ℕ

-- A blob as bytes.
abbrev pub blob_bytes : Blob → List ℕ
blob_bytes blob = blob.head ++ blob.payload

-- Each header is read after that of the blob before it.
abbrev pub AreChained : HeadState → List Blob → Type 0
AreChained before [] = Unit {0}
AreChained before (blob ∷ blobs) =
    IsHead before blob.state blob.head × (length blob.payload ≡ blob.state.size) × AreChained blob.state blobs

-- An event's blob names the event's definition, which is never 0.
abbrev pub HoldsEvent : Blob → ItemKind → Type 0
HoldsEvent blob kind =
    (0 < blob.state.metadata)
    × (kind ≡ item.Event blob.state.metadata blob.state.number blob.state.capture blob.state.processor blob.state.thread
    blob.state.stack blob.state.stamp blob.state.activity blob.state.related blob.payload)

-- The header of a metadata blob may say anything (this project's profile).
abbrev pub HoldsMeta : Blob → ItemKind → Type 0
HoldsMeta blob kind = (id : ℕ) × (def : EventDef) × IsMeta id def blob.payload × (kind ≡ item.Meta id def)

-- One item for each blob, at the blob's first byte.
abbrev pub AreItems : (Blob → ItemKind → Type 0) → ℕ → List Blob → List Item → Type 0
AreItems Holds at [] items = items ≡ []
AreItems Holds at (blob ∷ blobs) items =
    (kind : ItemKind)
    × (rest : List Item)
    × Holds blob kind
    × AreItems Holds (at + length (blob_bytes blob)) blobs rest
    × (items ≡ record { at = at; kind = kind } ∷ rest)

-- A body of blobs with compressed headers: its own header, of 20 bytes or more, and then the blobs.
-- The stamps in the body's header are not checked (this project's profile).
pub record IsBlobBody (Holds : Blob → ItemKind → Type 0) (at : ℕ) (items : List Item) (bytes : List ℕ) : Type 0 where
  pub flags : ℕ
  pub least : ℕ
  pub greatest : ℕ
  pub more : List ℕ
  pub blobs : List Blob
  pub spelled : bytes
      ≡ concat
      (fixed w16 (20 + length more) ∷ fixed w16 flags ∷ fixed w64 least ∷ fixed w64 greatest ∷ more ∷ flat_map blob_bytes blobs ∷ [])
  pub size_fits : 20 + length more < 2 ^ 16
  pub flags_fit : flags < 2 ^ 16
  pub compressed : flags % 2 ≡ 1
  pub chained : AreChained zero_state blobs
  pub hold : AreItems Holds (at + (20 + length more)) blobs items
  pub bytes_fit : AreBytes bytes

-- ---- stacks

-- A stack as bytes: its size, then its addresses.
abbrev pub stack_bytes : List ℕ → List ℕ
stack_bytes stack = fixed w32 (length stack) ++ stack

-- The body of stacks: the first id, how many there are, then each of them.
abbrev pub stack_body : ℕ → List (List ℕ) → List ℕ
stack_body first stacks = fixed w32 first ++ fixed w32 (length stacks) ++ flat_map stack_bytes stacks

-- Ids are consecutive. A stack's item is at its size.
abbrev pub stack_items : ℕ → ℕ → List (List ℕ) → List Item
stack_items at id [] = []
stack_items at id (stack ∷ stacks) =
    record { at = at; kind = item.Stack id stack } ∷ stack_items (at + length (stack_bytes stack)) (id + 1) stacks

-- The bytes are the body of stacks, which have their ids in a row and these items.
pub record IsStackBody (at : ℕ) (items : List Item) (bytes : List ℕ) : Type 0 where
  pub first : ℕ
  pub stacks : List (List ℕ)
  pub spelled : bytes ≡ stack_body first stacks
  pub first_fits : first < 2 ^ 31
  pub count_fits : length stacks < 2 ^ 31
  pub sizes_fit : AllByRecursion (λ stack. length stack < 2 ^ 32) stacks
  pub hold : items ≡ stack_items (at + 8) first stacks
  pub bytes_fit : AreBytes bytes

-- ---- points

-- A thread of a point as bytes: its id, then its last number.
abbrev pub thread_bytes : ℕ × ℕ → List ℕ
thread_bytes thread = fixed w64 thread.0 ++ fixed w32 thread.1

-- The body of a point: its stamp, how many threads there are, then each of them.
abbrev pub point_body : ℕ → List (ℕ × ℕ) → List ℕ
point_body stamp threads = fixed w64 stamp ++ fixed w32 (length threads) ++ flat_map thread_bytes threads

-- The bytes are the body of a point, which is this one item.
pub record IsPointBody (at : ℕ) (items : List Item) (bytes : List ℕ) : Type 0 where
  pub stamp : ℕ
  pub threads : List (ℕ × ℕ)
  pub spelled : bytes ≡ point_body stamp threads
  pub stamp_fits : stamp < 2 ^ 64
  pub count_fits : length threads < 2 ^ 31
  pub threads_fit : AllByRecursion (λ thread. (thread.0 < 2 ^ 64) × (thread.1 < 2 ^ 32)) threads
  pub hold : items ≡ record { at = at; kind = item.Point stamp threads } ∷ []
  pub bytes_fit : AreBytes bytes

-- ---- any body

-- The bytes, which stand at this offset, are a body of this kind, and hold these items.
abbrev pub IsBody : BlockKind → ℕ → List Item → List ℕ → Type 0
IsBody block.Event at items bytes = IsBlobBody HoldsEvent at items bytes
IsBody block.Metadata at items bytes = IsBlobBody HoldsMeta at items bytes
IsBody block.Stack at items bytes = IsStackBody at items bytes
IsBody block.Point at items bytes = IsPointBody at items bytes
