-- Of which kinds the items of a stream are.
use Rattle.std.proofs.Common.{◌≡◌, ℕ, ◌+◌, true, false, List, [], ◌∷◌, ◌++◌, length, refl, ap, sym, subst}
use Rattle.std.proofs.lemmas.List.{map-append}
use Rattle.std.specs.List.{AllByRecursion}
use Rattle.ep_defs.specs.declared.event.EventDef.{EventDef}
use Rattle.ep_defs.specs.declared.item.Item.{Item}
use Rattle.ep_defs.specs.declared.item.ItemKind.{ItemKind}
use Rattle.ep_defs.specs.declared.session.TraceInfo.{TraceInfo}
use Rattle.nt_object.specs.declared.object.BlockKind.{BlockKind}
use Rattle.nt_object.specs.declared.object.BlockKind.TheVariants as block
use Rattle.nt_object.specs.Object.{Block, block_bytes}
use Rattle.nt_object.specs.Stream.{start_len}
use Rattle.nt_write.specs.Trace.{body_begins, BlocksHold, IsTrace}
use Rattle.nt_blocks.specs.Bodies.{Blob, blob_bytes, HoldsEvent, HoldsMeta, AreItems, IsBody, stack_bytes, stack_items}
use Rattle.nt_blocks.specs.Ordered.{kinds_of}
use Rattle.nt_write.specs.Canonical.{is_trace, is_plain}
use Rattle.nt_write.proofs.BlobBodies.{meta_kinds}
use Rattle.nt_write.proofs.BlockSteps.{stack_kinds}

-- What holds of the members of two lists holds of those of both together.
pub all-append : {A : Type 0} (P : A → Type 0) (xs ys : List A) → AllByRecursion P xs → AllByRecursion P ys → AllByRecursion P (xs ++ ys)
all-append P [] ys h g = g
all-append P (x ∷ xs) ys h g = (h.0, all-append P xs ys h.1 g)

-- ---- one Trace

-- None of the kinds is that of the Trace object.
abbrev pub HaveNoTrace : List ItemKind → Type 0
HaveNoTrace kinds = AllByRecursion (λ kind. is_trace kind ≡ false) kinds

-- Blobs that hold no Trace have no item of one.
blobs-no-trace : (Holds : Blob → ItemKind → Type 0) → ((blob : Blob) (kind : ItemKind) → Holds blob kind → is_trace kind ≡ false) → (at : ℕ) (blobs : List Blob) (items : List Item) → AreItems Holds at blobs items → HaveNoTrace (kinds_of items)
blobs-no-trace Holds none at [] items h = subst (λ (is : List Item). HaveNoTrace (kinds_of is)) (sym h) tt
blobs-no-trace Holds none at (blob ∷ blobs) items h =
    subst (λ (is : List Item). HaveNoTrace (kinds_of is)) (sym h.4) (none blob h.0 h.2, blobs-no-trace Holds none (at + length (blob_bytes blob)) blobs h.1 h.3)

-- Nor have stacks.
stacks-no-trace : (at id : ℕ) (stacks : List (List ℕ)) → HaveNoTrace (kinds_of (stack_items at id stacks))
stacks-no-trace at id [] = tt
stacks-no-trace at id (stack ∷ stacks) = (refl, stacks-no-trace (at + length (stack_bytes stack)) (id + 1) stacks)

-- Nor has any body.
body-no-trace : (kind : BlockKind) (at : ℕ) (items : List Item) (bytes : List ℕ) → IsBody kind at items bytes → HaveNoTrace (kinds_of items)
body-no-trace block.Event at items bytes h = blobs-no-trace HoldsEvent (λ blob kind e. ap is_trace e.1) (at + (20 + length h.more)) h.blobs items h.hold
body-no-trace block.Metadata at items bytes h = blobs-no-trace HoldsMeta (λ blob kind e. ap is_trace e.3) (at + (20 + length h.more)) h.blobs items h.hold
body-no-trace block.Stack at items bytes h = subst (λ (is : List Item). HaveNoTrace (kinds_of is)) (sym h.hold) (stacks-no-trace (at + 8) h.first h.stacks)
body-no-trace block.Point at items bytes h = subst (λ (is : List Item). HaveNoTrace (kinds_of is)) (sym h.hold) (refl, tt)

-- Nor have blocks, one after another.
blocks-no-trace : (at : ℕ) (blocks : List Block) (items : List Item) → BlocksHold at blocks items → HaveNoTrace (kinds_of items)
blocks-no-trace at [] items h = subst (λ (is : List Item). HaveNoTrace (kinds_of is)) (sym h) tt
blocks-no-trace at (block ∷ blocks) items h =
    subst (λ (is : List Item). HaveNoTrace (kinds_of is)) (sym h.4)
    (subst HaveNoTrace (sym (map-append (λ (i : Item). i.kind) h.0 h.1))
    (all-append (λ (kind : ItemKind). is_trace kind ≡ false) (kinds_of h.0) (kinds_of h.1)
    (body-no-trace block.kind (body_begins at block) h.0 block.body h.2)
    (blocks-no-trace (at + length (block_bytes block)) blocks h.1 h.3)))

-- No other item is.
pub no_other_trace : (info : TraceInfo) (items : List Item) (bytes : List ℕ) → (h : IsTrace info items bytes) → HaveNoTrace (kinds_of h.others)
no_other_trace info items bytes h = blocks-no-trace start_len h.blocks h.others h.bodies

-- ---- plain events

-- The events among the kinds are those of the threads that wrote them, on processor 0.
abbrev pub ArePlain : List ItemKind → Type 0
ArePlain kinds = AllByRecursion (λ kind. is_plain kind ≡ true) kinds

-- There are no events among definitions.
pub metas-plain : (id : ℕ) (defs : List EventDef) → ArePlain (meta_kinds id defs)
metas-plain id [] = tt
metas-plain id (def ∷ defs) = (refl, metas-plain (id + 1) defs)

-- Nor among stacks.
pub stacks-plain : (id : ℕ) (stacks : List (List ℕ)) → ArePlain (stack_kinds id stacks)
stacks-plain id [] = tt
stacks-plain id (stack ∷ stacks) = (refl, stacks-plain (id + 1) stacks)
