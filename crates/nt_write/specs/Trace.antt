-- The items of a whole stream (the NetTrace format document of PerfView (version 4)).
use Rattle.std.specs.Prelude.{◌≡◌, ℕ, ◌+◌, ◌≤◌, List, [], ◌∷◌, ◌++◌, length}
use Rattle.std.specs.List.{AllByRecursion}
use Rattle.ep_defs.specs.declared.session.TraceInfo.{TraceInfo}
use Rattle.ep_defs.specs.declared.item.Item.{Item}
use Rattle.ep_defs.specs.declared.item.ItemKind.TheVariants as item
use Rattle.nt_object.specs.Object.{Block, block_bytes, padding_begins}
use Rattle.nt_object.specs.Stream.{start_len, IsStream}
use Rattle.nt_blocks.specs.declared.limits.TheConstants.{READ_BYTES}
use Rattle.nt_blocks.specs.Bodies.{IsBody}

-- Where the body of a block begins that stands at this offset.
abbrev pub body_begins : ℕ → Block → ℕ
body_begins at block = padding_begins at block.kind + length block.padding

-- The items of the blocks, the first of which stands at this offset.
abbrev pub BlocksHold : ℕ → List Block → List Item → Type 0
BlocksHold at [] items = items ≡ []
BlocksHold at (block ∷ blocks) items =
    (first rest : List Item)
    × IsBody block.kind (body_begins at block) first block.body
    × BlocksHold (at + length (block_bytes block)) blocks rest
    × (items ≡ first ++ rest)

-- The Trace item is at the payload of the Trace object, after 32 bytes of head, three tags, three numbers, the name and
-- a tag.
abbrev pub trace_item : TraceInfo → Item
trace_item info = record { at = 32 + 3 + 12 + 5 + 1; kind = item.Trace info }

-- The bytes are a stream that holds these items.
pub record IsTrace (info : TraceInfo) (items : List Item) (bytes : List ℕ) : Type 0 where
  pub blocks : List Block
  pub others : List Item
  pub stream : IsStream info blocks bytes
  pub bodies : BlocksHold start_len blocks others
  pub not_large : AllByRecursion (λ block. length block.body ≤ READ_BYTES) blocks
  pub hold : items ≡ trace_item info ∷ others
