-- What a flush does to a layout, and to what a writer keeps of it.
use Rattle.std.proofs.Common.{◌≡◌, ℕ, ◌+◌, ◌-◌, ◌≤◌, Bool, true, false, List, [], ◌++◌, length, Option, Some, refl, ap, sym, ◌∙◌, subst, arith}
use Rattle.std.proofs.lemmas.List.{drop_all, length-drop}
use Rattle.ep_defs.specs.declared.limits.TheConstants.{PAYLOAD_BYTES}
use Rattle.pt_io.specs.Taken.{IsPrefix}
use Rattle.nt_object.specs.declared.object.BlockKind.{BlockKind}
use Rattle.nt_object.specs.declared.object.BlockKind.TheVariants as block
use Rattle.nt_object.specs.Object.{Block}
use Rattle.nt_object.specs.Stream.{blocks_bytes}
use Rattle.nt_blocks.specs.declared.limits.TheConstants.{WRITTEN_BYTES}
use Rattle.nt_blocks.specs.Bodies.{stack_body, point_body}
use Rattle.nt_blocks.specs.Drafts.{Draft, meta_drafts, blob_body}
use Rattle.nt_blocks.specs.Making.{IsMaking}
use Rattle.nt_write.specs.declared.limits.TheConstants.{STACK_BYTES}
use Rattle.nt_write.specs.declared.pending.Pending.{Pending}
use Rattle.nt_write.specs.declared.pending.Arrival.{Arrival}
use Rattle.nt_write.specs.Value.{StacksSeen}
use Rattle.nt_write.specs.Layout.{Layout, new_metas, new_stacks, new_stack_body, with_block_of, flushed}
use Rattle.nt_write.specs.Arriving.{CanFlush, IsAtMost, flushed_if}
use Rattle.nt_write.specs.Writing.{IsPending, IsEmptied, IsSmall, HasRoom, KeepsStacks}
use Rattle.nt_write.proofs.BlockSteps.{stack_body-len-none}
use Rattle.nt_write.proofs.Prefixes.{prefix-longer, prefix-same}
use Rattle.nt_write.proofs.Placing.{with_block_of-extends}

-- The blocks after the definitions of a flush.
abbrev pub with_metas : Layout → List Block
with_metas layout = with_block_of block.Metadata (new_metas layout) (blob_body (new_metas layout)) layout.blocks

-- The blocks after the stacks of a flush.
abbrev pub with_stacks : Layout → List Block
with_stacks layout = with_block_of block.Stack (new_stacks layout) (new_stack_body layout) (with_metas layout)

-- The stream goes on where the stacks of a flush were written.
pub stacks-extend : (layout : Layout) → IsPrefix (blocks_bytes (with_stacks layout)) (blocks_bytes (flushed layout).blocks)
stacks-extend layout = with_block_of-extends block.Event layout.events (blob_body layout.events) (with_stacks layout)

-- It goes on where the definitions were written.
pub metas-extend : (layout : Layout) → IsPrefix (blocks_bytes (with_metas layout)) (blocks_bytes (flushed layout).blocks)
metas-extend layout =
    prefix-longer (blocks_bytes (with_metas layout)) (blocks_bytes (with_stacks layout)) (blocks_bytes (flushed layout).blocks)
    (with_block_of-extends block.Stack (new_stacks layout) (new_stack_body layout) (with_metas layout))
    (stacks-extend layout)

-- A flush keeps what was flushed before.
pub flushed-extends : (layout : Layout) → IsPrefix (blocks_bytes layout.blocks) (blocks_bytes (flushed layout).blocks)
flushed-extends layout =
    prefix-longer (blocks_bytes layout.blocks) (blocks_bytes (with_metas layout)) (blocks_bytes (flushed layout).blocks)
    (with_block_of-extends block.Metadata (new_metas layout) (blob_body (new_metas layout)) layout.blocks)
    (metas-extend layout)

-- The same of a flush that may be none.
pub flushed_if-extends : (full : Bool) (layout : Layout) → IsPrefix (blocks_bytes layout.blocks) (blocks_bytes (flushed_if full layout).blocks)
flushed_if-extends true layout = flushed-extends layout
flushed_if-extends false layout = prefix-same (blocks_bytes layout.blocks)

-- A flush keeps the definitions.
pub flushed_if-definitions : (full : Bool) (layout : Layout) → (flushed_if full layout).definitions ≡ layout.definitions
flushed_if-definitions true layout = refl
flushed_if-definitions false layout = refl

-- And the stacks.
pub flushed_if-stacks : (full : Bool) (layout : Layout) → (flushed_if full layout).stacks ≡ layout.stacks
flushed_if-stacks true layout = refl
flushed_if-stacks false layout = refl

-- No more is flushed than there is.
pub flushed_if-flushes : (full : Bool) (layout : Layout) → CanFlush layout → CanFlush (flushed_if full layout)
flushed_if-flushes true layout h = record { definitions = omega arith; stacks = omega arith }
flushed_if-flushes false layout h = h

-- ---- what is pending

-- After a flush no definition is new.
pub no_new_metas : (layout : Layout) → new_metas (flushed layout) ≡ []
no_new_metas layout =
    ap (meta_drafts (length layout.definitions + 1)) (drop_all (length layout.definitions) layout.definitions (omega arith))

-- Nor is a stack.
no_new_stacks : (layout : Layout) → new_stacks (flushed layout) ≡ []
no_new_stacks layout = drop_all (length layout.stacks) layout.stacks (omega arith)

-- What is pending after a flush.
pub flush-pending : (layout : Layout) (old new : Pending) → IsPending layout old → CanFlush layout → IsMaking [] new.metadata → IsMaking [] new.events → new.stacks ≡ record old.stacks { first = old.stacks.first + length old.stacks.fresh; fresh = [] } → IsPending (flushed layout) new
flush-pending layout old new h can metadata events stacks =
    record {
      metadata = subst (λ (ds : List Draft). IsMaking ds new.metadata) (sym (no_new_metas layout)) metadata;
      events = events;
      first = ap (λ (s : StacksSeen). s.first) stacks ∙ next old.stacks.first (length old.stacks.fresh) layout.stacks_flushed (length layout.stacks) h.first (ap (λ (ss : List (List ℕ)). length ss) h.stacks ∙ length-drop layout.stacks_flushed layout.stacks) can.stacks;
      stacks = ap (λ (s : StacksSeen). s.fresh) stacks ∙ sym (no_new_stacks layout);
    }
  where
    next : (first fresh flushed all : ℕ) → first ≡ flushed + 1 → fresh ≡ all - flushed → flushed ≤ all → first + fresh ≡ all + 1
    next first fresh flushed all e f le = omega arith

-- The stacks that have ids stay.
pub flush-keeps : (old new : Pending) → new.stacks ≡ record old.stacks { first = old.stacks.first + length old.stacks.fresh; fresh = [] } → KeepsStacks old new
flush-keeps old new stacks =
    record {
      known = ap (λ (s : StacksSeen). s.known) stacks;
      framed = ap (λ (s : StacksSeen). s.framed) stacks;
      next = ap (λ (s : StacksSeen). s.first + length s.fresh) stacks ∙ none (old.stacks.first + length old.stacks.fresh);
    }
  where
    none : (n : ℕ) → n + 0 ≡ n
    none n = omega arith

-- Nothing is pending.
pub flush-empties : (old new : Pending) → IsMaking [] new.metadata → IsMaking [] new.events → new.stacks ≡ record old.stacks { first = old.stacks.first + length old.stacks.fresh; fresh = [] } → IsEmptied new
flush-empties old new metadata events stacks =
    record { metadata = metadata.bytes; events = events.bytes; stacks = ap (λ (s : StacksSeen). s.fresh) stacks }

-- A size that there is.
at-most : (most : ℕ) (o : Option ℕ) (size : ℕ) → IsAtMost most o → o ≡ Some size → size ≤ most
at-most most o size h is = subst (λ (p : Option ℕ). IsAtMost most p) is h

-- There is room for any event then.
pub emptied-room : (arrival : Arrival) (pending : Pending) → IsSmall arrival → IsEmptied pending → HasRoom arrival pending
emptied-room arrival pending small h =
    record {
      payload = blobs (length pending.events.bytes) arrival.payload (ap (λ (bytes : List ℕ). length bytes) h.events) small.payload;
      meta = λ size is. blobs (length pending.metadata.bytes) size (ap (λ (bytes : List ℕ). length bytes) h.metadata) (at-most PAYLOAD_BYTES arrival.meta size small.meta is);
      stack = λ size is.
          stacks (length (stack_body pending.stacks.first pending.stacks.fresh)) size
          (ap (λ (ss : List (List ℕ)). length (stack_body pending.stacks.first ss)) h.stacks ∙ stack_body-len-none pending.stacks.first)
          (at-most STACK_BYTES arrival.stack size small.stack is);
    }
  where
    blobs : (n size : ℕ) → n ≡ 0 → size ≤ PAYLOAD_BYTES → 20 + n + 88 + size ≤ WRITTEN_BYTES
    blobs n size e h = omega arith

    stacks : (n size : ℕ) → n ≡ 8 → size ≤ STACK_BYTES → n + (4 + size) ≤ WRITTEN_BYTES
    stacks n size e h = omega arith

-- ---- points

-- The body that was put together is that of the point.
pub point-put : (d items cleared : List ℕ) (stamp : ℕ) (threads : List (ℕ × ℕ)) → d ≡ items → items ≡ cleared ++ point_body stamp threads → cleared ≡ [] → d ≡ point_body stamp threads
point-put d items cleared stamp threads e put cleared-is =
    e ∙ put ∙ ap (λ (x : List ℕ). x ++ point_body stamp threads) cleared-is

-- ---- what is written

-- The blocks with those of the definitions that are pending.
pub metas-written : (layout : Layout) (kind : BlockKind) → kind ≡ block.Metadata → with_block_of kind (new_metas layout) (blob_body (new_metas layout)) layout.blocks ≡ with_metas layout
metas-written layout kind is = ap (λ (k : BlockKind). with_block_of k (new_metas layout) (blob_body (new_metas layout)) layout.blocks) is

-- With those of the stacks.
pub stacks-written : (layout : Layout) (pending : Pending) → IsPending layout pending → with_block_of block.Stack pending.stacks.fresh (stack_body pending.stacks.first pending.stacks.fresh) (with_metas layout) ≡ with_stacks layout
stacks-written layout pending h =
    let W : ℕ → List (List ℕ) → List Block = λ first fresh. with_block_of block.Stack fresh (stack_body first fresh) (with_metas layout) in
    ap (λ (first : ℕ). W first pending.stacks.fresh) h.first ∙ ap (λ (fresh : List (List ℕ)). W (layout.stacks_flushed + 1) fresh) h.stacks

-- With those of the events.
pub events-written : (layout : Layout) (kind : BlockKind) → kind ≡ block.Event → with_block_of kind layout.events (blob_body layout.events) (with_stacks layout) ≡ (flushed layout).blocks
events-written layout kind is = ap (λ (k : BlockKind). with_block_of k layout.events (blob_body layout.events) (with_stacks layout)) is
