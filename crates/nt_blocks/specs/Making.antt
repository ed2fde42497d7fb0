-- A body of blobs in the making, and what may be added to it.
use Rattle.std.specs.Prelude.{◌≡◌, ℕ, ◌<◌, List, [], ◌∷◌}
use Rattle.ep_defs.specs.declared.event.EventDef.{EventDef}
use Rattle.nt_object.specs.declared.object.BlockKind.{BlockKind}
use Rattle.nt_object.specs.declared.object.BlockKind.TheVariants as block
use Rattle.nt_head.specs.declared.head.HeadState.{HeadState}
use Rattle.nt_head.specs.Head.{zero_state}
use Rattle.nt_meta.specs.Meta.{IsMeta}
use Rattle.nt_blocks.specs.Value.{Making, IsQuiet}
use Rattle.nt_blocks.specs.Drafts.{Draft, drafts_bytes, stamps, least, greatest}

-- The kinds of blocks whose bodies hold blobs.
abbrev pub HoldsBlobs : BlockKind → Type 0
HoldsBlobs block.Event = Unit {0}
HoldsBlobs block.Metadata = Unit {0}
HoldsBlobs block.Stack = ⊥
HoldsBlobs block.Point = ⊥

-- What the last of the blobs said, or this before the first.
abbrev pub last_state : HeadState → List Draft → HeadState
last_state before [] = before
last_state before (draft ∷ drafts) = last_state draft.state drafts

-- The block holds these blobs, and knows what the next one needs.
pub record IsMaking (drafts : List Draft) (making : Making) : Type 0 where
  pub bytes : making.bytes ≡ drafts_bytes zero_state drafts
  pub last : making.last ≡ last_state zero_state drafts
  pub least_stamp : making.least ≡ least (stamps drafts)
  pub greatest_stamp : making.greatest ≡ greatest (stamps drafts)

-- A header under the metadata id 0 and without a sequence, and a payload that defines an event.
pub record IsDefinition (head : HeadState) (payload : List ℕ) : Type 0 where
  pub id : ℕ
  pub def : EventDef
  pub meta : IsMeta id def payload
  pub none : head.metadata ≡ 0
  pub quiet : IsQuiet head

-- An event's header names its definition; in a metadata block each blob defines an event.
abbrev pub MayAdd : BlockKind → HeadState → List ℕ → Type 0
MayAdd block.Event head payload = 0 < head.metadata
MayAdd block.Metadata head payload = IsDefinition head payload
MayAdd block.Stack head payload = ⊥
MayAdd block.Point head payload = ⊥
