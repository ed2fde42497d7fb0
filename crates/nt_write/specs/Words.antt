-- The canonical stream in words: what holds of its blocks, each a sentence of this project's profile.
use Rattle.std.specs.Prelude.{◌≡◌, ℕ, ◌+◌, ◌<◌, ◌≤◌, false, not, List, [], ◌∷◌, ◌++◌, length, is_some, ◌==◌}
use Rattle.std.specs.List.{AllByRecursion}
use Rattle.std.specs.Str.{bytes_eq}
use Rattle.ep_defs.specs.declared.event.EventDef.{EventDef}
use Rattle.ep_defs.specs.declared.session.TraceInfo.{TraceInfo}
use Rattle.nt_object.specs.declared.object.BlockKind.{BlockKind}
use Rattle.nt_object.specs.declared.object.BlockKind.TheVariants as block
use Rattle.nt_object.specs.Object.{Block}
use Rattle.nt_object.specs.Stream.{stream_start, blocks_bytes}
use Rattle.nt_head.specs.declared.head.HeadState.{HeadState}
use Rattle.nt_head.specs.Fewest.{has_sequence, fewest_fields}
use Rattle.nt_blocks.specs.declared.limits.TheConstants.{WRITTEN_BYTES}
use Rattle.nt_blocks.specs.Bodies.{stack_body, point_body}
use Rattle.nt_blocks.specs.Drafts.{Draft, blob_body, meta_drafts}

-- An event names a definition and a stack that have ids by then, was written by its own thread, on processor 0, and
-- does not count as sorted.
pub record IsPlainDraft (definitions stacks : ℕ) (draft : Draft) : Type 0 where
  pub some : 0 < draft.state.metadata
  pub defined : draft.state.metadata ≤ definitions
  pub stacked : draft.state.stack ≤ stacks
  pub own : draft.state.capture ≡ draft.state.thread
  pub processor : draft.state.processor ≡ 0
  pub unsorted : draft.state.sorted ≡ false
  pub size : draft.state.size ≡ length draft.payload

-- A body, where this many definitions have ids before it, and this many stacks since the last point, and this many
-- after it. No body is empty. New definitions and new stacks have the next ids. A point begins the ids of stacks anew.
abbrev pub GoesOn : BlockKind → List ℕ → ℕ → ℕ → ℕ → ℕ → Type 0
GoesOn block.Metadata body definitions stacks all_definitions all_stacks =
    (new : List EventDef)
    × (0 < length new)
    × (body ≡ blob_body (meta_drafts (definitions + 1) new))
    × (all_definitions ≡ definitions + length new)
    × (all_stacks ≡ stacks)
GoesOn block.Stack body definitions stacks all_definitions all_stacks =
    (new : List (List ℕ))
    × (0 < length new)
    × (body ≡ stack_body (stacks + 1) new)
    × (all_definitions ≡ definitions)
    × (all_stacks ≡ stacks + length new)
GoesOn block.Event body definitions stacks all_definitions all_stacks =
    (events : List Draft)
    × (0 < length events)
    × AllByRecursion (IsPlainDraft definitions stacks) events
    × (body ≡ blob_body events)
    × (all_definitions ≡ definitions)
    × (all_stacks ≡ stacks)
GoesOn block.Point body definitions stacks all_definitions all_stacks =
    (stamp : ℕ)
    × (threads : List (ℕ × ℕ))
    × (body ≡ point_body stamp threads)
    × (all_definitions ≡ definitions)
    × (all_stacks ≡ 0)

-- No body but a point's passes 102,400 bytes.
abbrev pub IsSmallBody : BlockKind → List ℕ → Type 0
IsSmallBody block.Metadata body = length body ≤ WRITTEN_BYTES
IsSmallBody block.Stack body = length body ≤ WRITTEN_BYTES
IsSmallBody block.Event body = length body ≤ WRITTEN_BYTES
IsSmallBody block.Point body = Unit {0}

-- Blocks one after another, with this many ids before and after them.
abbrev pub GoOn : ℕ → ℕ → List Block → ℕ → ℕ → Type 0
GoOn definitions stacks [] all_definitions all_stacks = (all_definitions ≡ definitions) × (all_stacks ≡ stacks)
GoOn definitions stacks (block ∷ blocks) all_definitions all_stacks =
    (next_definitions next_stacks : ℕ)
    × GoesOn block.kind block.body definitions stacks next_definitions next_stacks
    × GoOn next_definitions next_stacks blocks all_definitions all_stacks

-- The bytes are the start, blocks, and the null reference.
pub record AreInWords (info : TraceInfo) (bytes : List ℕ) : Type 0 where
  pub blocks : List Block
  pub spelled : bytes ≡ (stream_start info ++ blocks_bytes blocks) ++ 1 ∷ []
  -- padding is zero
  pub padding : AllByRecursion (λ block. AllByRecursion (λ byte. byte ≡ 0) block.padding) blocks
  -- bodies are flushed before they grow too large
  pub small : AllByRecursion (λ block. IsSmallBody block.kind block.body) blocks
  -- ids are given in order, from 1 on, and each is defined before its use
  pub definitions : ℕ
  pub stacks : ℕ
  pub order : GoOn 0 0 blocks definitions stacks

-- A flag of a blob's header stands exactly where the value differs from the one before; that of the sequence where the
-- number is not the next one, or where the thread or the processor differs.
pub record FlagsStand (before now : HeadState) : Type 0 where
  pub metadata : is_some (fewest_fields before now).metadata ≡ not (before.metadata == now.metadata)
  pub sequence : is_some (fewest_fields before now).sequence ≡ has_sequence before now
  pub thread : is_some (fewest_fields before now).thread ≡ not (before.thread == now.thread)
  pub stack : is_some (fewest_fields before now).stack ≡ not (before.stack == now.stack)
  pub activity : is_some (fewest_fields before now).activity ≡ not (bytes_eq before.activity now.activity)
  pub related : is_some (fewest_fields before now).related ≡ not (bytes_eq before.related now.related)
  pub size : is_some (fewest_fields before now).size ≡ not (before.size == now.size)
