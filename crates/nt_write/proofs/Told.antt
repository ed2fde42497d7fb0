-- What the blocks of a flush and of a point tell, after those before them.
use Rattle.std.proofs.Common.{◌≡◌, ℕ, true, ◌+◌, ◌^◌, ◌<◌, ◌≤◌, List, [], ◌∷◌, ◌++◌, length, Some, refl, ap, sym, ◌∙◌, arith, subst, length-append}
use Rattle.std.proofs.lemmas.List.{append-nil, map-append}
use Rattle.std.proofs.lemmas.Bool.{eq-eqb}
use Rattle.std.specs.Prelude.{map}
use Rattle.std.specs.List.{AllByRecursion}
use Rattle.ep_defs.specs.declared.event.EventDef.{EventDef}
use Rattle.ep_defs.specs.declared.item.Item.{Item}
use Rattle.ep_defs.specs.declared.item.ItemKind.{ItemKind}
use Rattle.ep_defs.specs.declared.item.ItemKind.TheVariants as item
use Rattle.nt_object.specs.declared.object.BlockKind.{BlockKind}
use Rattle.nt_object.specs.declared.object.BlockKind.TheVariants as block
use Rattle.nt_head.specs.Head.{zero_state}
use Rattle.nt_object.specs.Object.{Block}
use Rattle.nt_blocks.specs.declared.limits.TheConstants.{READ_BYTES, WRITTEN_BYTES}
use Rattle.nt_blocks.specs.Bodies.{HoldsEvent, HoldsMeta, IsBody, stack_body, stack_items, point_body}
use Rattle.ep_defs.specs.Entry.{EventEntry, PointEntry, Entry, Event, Point}
use Rattle.nt_blocks.specs.Ordered.{Names, no_names, stack_of, kinds_of}
use Rattle.nt_blocks.specs.Drafts.{Draft, blob_body, meta_drafts}
use Rattle.nt_write.specs.Layout.{event_draft, with_block, with_block_of}
use Rattle.nt_write.specs.Writable.{CanDefine, IsStack, CanWrite, CanPoint}
use Rattle.nt_write.proofs.Bytes.{low-of}
use Rattle.nt_write.specs.Canonical.{is_plain}
use Rattle.nt_write.proofs.BlobBodies.{blobs_of, items_at, kinds-at, blob_body-is, event_kind, IsEventDraft, events-chain, events-low, events-hold, meta_kinds, metas-chain, metas-low, metas-hold}
use Rattle.nt_write.proofs.BlockSteps.{AreBlocks, next_body, block-more, point-len, point-is, stack_kinds, stack-kinds, stacks-are}
use Rattle.nt_write.proofs.Names.{Tells, tells-append, named, named-append, no_more, metas-tell, stacks-tell, event-tells, IsNumbered}
use Rattle.nt_write.proofs.Items.{all-append, ArePlain, metas-plain, stacks-plain}

-- The blocks can stand at the start of a stream, and tell these entries; what was named stands for this.
pub record AreTold (blocks : List Block) (told : List Entry) (names : Names) : Type 0 where
  pub items : List Item
  pub are : AreBlocks blocks items
  pub tells : Tells no_names (kinds_of items) told names
  pub plain : ArePlain (kinds_of items)

-- A block more tells what its items tell.
pub block-told : (kind : BlockKind) (body : List ℕ) (blocks : List Block) (told more_told : List Entry) (names left : Names) (more : List Item) (kinds : List ItemKind) → AreTold blocks told names → length body ≤ READ_BYTES → IsBody kind (next_body kind blocks) more body → kinds_of more ≡ kinds → Tells names kinds more_told left → ArePlain kinds → AreTold (with_block kind body blocks) (told ++ more_told) left
block-told kind body blocks told more_told names left more kinds h small is e tells plain = record {
  items = h.items ++ more;
  are = block-more kind body blocks h.items more h.are small is;
  tells = subst (λ (ks : List ItemKind). Tells no_names ks (told ++ more_told) left) (sym (map-append (λ (i : Item). i.kind) h.items more))
      (tells-append no_names (kinds_of h.items) (kinds_of more) told more_told names left h.tells (subst (λ (ks : List ItemKind). Tells names ks more_told left) (sym e) tells));
  plain = subst ArePlain (sym (map-append (λ (i : Item). i.kind) h.items more))
      (all-append (λ (kind : ItemKind). is_plain kind ≡ true) (kinds_of h.items) (kinds_of more) h.plain (subst ArePlain (sym e) plain));
}

-- ---- definitions

-- The next id, in two spellings.
one_more : (n : ℕ) → n + 1 ≡ 1 + n
one_more n = omega arith

-- New names begin behind the old ones.
named-next : {A : Type 0} (old new : List A) → named 1 (old ++ new) [] ≡ named (length old + 1) new (named 1 old [])
named-next old new = named-append 1 old new [] ∙ ap (λ (n : ℕ). named n new (named 1 old [])) (sym (one_more (length old)))

-- A block of the new definitions, where there are any, names them.
pub metas-told : (old new : List EventDef) (stacks : List (ℕ × List ℕ)) (blocks : List Block) (told : List Entry) → AreTold blocks told (record { definitions = named 1 old []; stacks = stacks }) → AllByRecursion CanDefine new → length (old ++ new) < 2 ^ 31 → length (blob_body (meta_drafts (length old + 1) new)) ≤ WRITTEN_BYTES → AreTold (with_block_of block.Metadata (meta_drafts (length old + 1) new) (blob_body (meta_drafts (length old + 1) new)) blocks) told (record { definitions = named 1 (old ++ new) []; stacks = stacks })
metas-told old [] stacks blocks told h can few fits =
    subst (λ (defs : List EventDef). AreTold blocks told (record { definitions = named 1 defs []; stacks = stacks })) (sym (append-nil old)) h
metas-told old (def ∷ new) stacks blocks told h can few fits =
    let id : ℕ = length old + 1 in
    let drafts : List Draft = meta_drafts id (def ∷ new) in
    let at : ℕ = next_body block.Metadata blocks in
    let kinds : List ItemKind = meta_kinds id (def ∷ new) in
    let hold = metas-hold zero_state id (def ∷ new) (omega arith) (omega (arith, few, length-append old (def ∷ new))) can in
    subst (λ (es : List Entry). AreTold (with_block_of block.Metadata drafts (blob_body drafts) blocks) es (record { definitions = named 1 (old ++ def ∷ new) []; stacks = stacks })) (append-nil told)
    (block-told block.Metadata (blob_body drafts) blocks told [] (record { definitions = named 1 old []; stacks = stacks }) (record { definitions = named 1 (old ++ def ∷ new) []; stacks = stacks })
    (items_at (at + 20) (blobs_of zero_state drafts) kinds) kinds h (omega (arith, fits))
    (blob_body-is HoldsMeta at drafts kinds (metas-chain zero_state id (def ∷ new) refl refl can) (metas-low id (def ∷ new)) hold)
    (kinds-at HoldsMeta (at + 20) (blobs_of zero_state drafts) kinds hold)
    (subst (λ (ds : List (ℕ × EventDef)). Tells (record { definitions = named 1 old []; stacks = stacks }) kinds [] (record { definitions = ds; stacks = stacks })) (sym (named-next old (def ∷ new)))
    (metas-tell id (def ∷ new) (named 1 old []) stacks (λ i le. no_more 1 old i (omega arith))))
    (metas-plain id (def ∷ new)))

-- ---- stacks

-- A block of the new stacks, where there are any, names them.
pub stacks-told : (old new : List (List ℕ)) (definitions : List (ℕ × EventDef)) (blocks : List Block) (told : List Entry) → AreTold blocks told (record { definitions = definitions; stacks = named 1 old [] }) → AllByRecursion IsStack new → length (old ++ new) < 2 ^ 31 → length (stack_body (length old + 1) new) ≤ WRITTEN_BYTES → AreTold (with_block_of block.Stack new (stack_body (length old + 1) new) blocks) told (record { definitions = definitions; stacks = named 1 (old ++ new) [] })
stacks-told old [] definitions blocks told h can few fits =
    subst (λ (stacks : List (List ℕ)). AreTold blocks told (record { definitions = definitions; stacks = named 1 stacks [] })) (sym (append-nil old)) h
stacks-told old (stack ∷ new) definitions blocks told h can few fits =
    let id : ℕ = length old + 1 in
    let at : ℕ = next_body block.Stack blocks in
    subst (λ (es : List Entry). AreTold (with_block_of block.Stack (stack ∷ new) (stack_body id (stack ∷ new)) blocks) es (record { definitions = definitions; stacks = named 1 (old ++ stack ∷ new) [] })) (append-nil told)
    (block-told block.Stack (stack_body id (stack ∷ new)) blocks told [] (record { definitions = definitions; stacks = named 1 old [] }) (record { definitions = definitions; stacks = named 1 (old ++ stack ∷ new) [] })
    (stack_items (at + 8) id (stack ∷ new)) (stack_kinds id (stack ∷ new)) h (omega (arith, fits))
    (stacks-are at id (stack ∷ new) (omega arith) (omega (arith, few, length-append old (stack ∷ new))) (omega arith) can)
    (stack-kinds (at + 8) id (stack ∷ new))
    (subst (λ (ss : List (ℕ × List ℕ)). Tells (record { definitions = definitions; stacks = named 1 old [] }) (stack_kinds id (stack ∷ new)) [] (record { definitions = definitions; stacks = ss })) (sym (named-next old (stack ∷ new)))
    (stacks-tell id (stack ∷ new) definitions (named 1 old []) (λ i le. no_more 1 old i (omega arith))))
    (stacks-plain id (stack ∷ new)))

-- ---- events

-- An event that is not flushed, with the ids of its definition and its stack.
pub record Pending : Type 0 where
  pub metadata : ℕ
  pub stack : ℕ
  pub event : EventEntry

-- Its draft.
abbrev pub draft_of : Pending → Draft
draft_of p = event_draft p.metadata p.stack p.event

-- Its entry.
abbrev pub entry_of : Pending → Entry
entry_of p = Event p.event

-- The id stands for this stack, whatever the definitions are.
pub record IsStacked (stacks : List (List ℕ)) (id : ℕ) (stack : List ℕ) : Type 0 where
  pub few : id ≤ length stacks
  pub found : (definitions : List (ℕ × EventDef)) → stack_of (record { definitions = definitions; stacks = named 1 stacks [] }) id ≡ Some stack

-- The event can be written, and its ids stand for its definition and its stack.
pub record IsPending (definitions : List EventDef) (stacks : List (List ℕ)) (p : Pending) : Type 0 where
  pub can : CanWrite p.event
  pub def : IsNumbered definitions p.metadata p.event.def
  pub stack : IsStacked stacks p.stack p.event.stack

-- An event that waits makes a blob.
pub pending-draft : (definitions : List EventDef) (stacks : List (List ℕ)) (p : Pending) → length definitions < 2 ^ 31 → length stacks < 2 ^ 31 → IsPending definitions stacks p → IsEventDraft (draft_of p)
pending-draft definitions stacks p few few_stacks h = record {
  fits = record {
    ids = record {
      metadata = omega (arith, h.def.few);
      number = h.can.number;
      processor = omega arith;
      stack = omega (arith, h.stack.few);
      size = omega (arith, h.can.short);
    };
    capture = h.can.thread;
    thread = h.can.thread;
    stamp = h.can.stamp;
    activity = h.can.activity.long;
    related = h.can.related.long;
  };
  some = h.def.some;
  size = refl;
  low = record {
    activity = low-of p.event.activity h.can.activity.bytes;
    related = low-of p.event.related h.can.related.bytes;
    payload = low-of p.event.payload h.can.payload;
  };
}

-- So do all that wait.
pending-drafts : (definitions : List EventDef) (stacks : List (List ℕ)) (ps : List Pending) → length definitions < 2 ^ 31 → length stacks < 2 ^ 31 → AllByRecursion (IsPending definitions stacks) ps → AllByRecursion IsEventDraft (map draft_of ps)
pending-drafts definitions stacks [] few few_stacks h = tt
pending-drafts definitions stacks (p ∷ ps) few few_stacks h = (pending-draft definitions stacks p few few_stacks h.0, pending-drafts definitions stacks ps few few_stacks h.1)

-- Events whose ids are known tell their entries.
events-tell : (definitions : List EventDef) (stacks : List (List ℕ)) (ps : List Pending) → AllByRecursion (IsPending definitions stacks) ps → Tells (record { definitions = named 1 definitions []; stacks = named 1 stacks [] }) (map event_kind (map draft_of ps)) (map entry_of ps) (record { definitions = named 1 definitions []; stacks = named 1 stacks [] })
events-tell definitions stacks [] h = (refl, refl)
events-tell definitions stacks (p ∷ ps) h = (
  entry_of p ∷ [],
  map entry_of ps,
  event-tells (record { definitions = named 1 definitions []; stacks = named 1 stacks [] }) p.metadata p.stack p.event h.0.def.found (h.0.stack.found (named 1 definitions [])),
  events-tell definitions stacks ps h.1,
  refl,
)

-- Each of them is its thread's own, on processor 0.
events-plain : (ps : List Pending) → ArePlain (map event_kind (map draft_of ps))
events-plain [] = tt
events-plain (p ∷ ps) = (rw (eq-eqb p.event.thread p.event.thread refl) refl, events-plain ps)

-- A block of the events that wait, where there are any, tells them.
pub events-told : (definitions : List EventDef) (stacks : List (List ℕ)) (ps : List Pending) (blocks : List Block) (told : List Entry) → AreTold blocks told (record { definitions = named 1 definitions []; stacks = named 1 stacks [] }) → AllByRecursion (IsPending definitions stacks) ps → length definitions < 2 ^ 31 → length stacks < 2 ^ 31 → length (blob_body (map draft_of ps)) ≤ WRITTEN_BYTES → AreTold (with_block_of block.Event (map draft_of ps) (blob_body (map draft_of ps)) blocks) (told ++ map entry_of ps) (record { definitions = named 1 definitions []; stacks = named 1 stacks [] })
events-told definitions stacks [] blocks told h pending few few_stacks fits =
    subst (λ (es : List Entry). AreTold blocks es (record { definitions = named 1 definitions []; stacks = named 1 stacks [] })) (sym (append-nil told)) h
events-told definitions stacks (p ∷ ps) blocks told h pending few few_stacks fits =
    let drafts : List Draft = map draft_of (p ∷ ps) in
    let at : ℕ = next_body block.Event blocks in
    let are : AllByRecursion IsEventDraft drafts = pending-drafts definitions stacks (p ∷ ps) few few_stacks pending in
    let hold = events-hold zero_state drafts are in
    let names : Names = record { definitions = named 1 definitions []; stacks = named 1 stacks [] } in
    block-told block.Event (blob_body drafts) blocks told (map entry_of (p ∷ ps)) names names
    (items_at (at + 20) (blobs_of zero_state drafts) (map event_kind drafts)) (map event_kind drafts) h (omega (arith, fits))
    (blob_body-is HoldsEvent at drafts (map event_kind drafts) (events-chain zero_state drafts (omega arith) are) (events-low drafts are) hold)
    (kinds-at HoldsEvent (at + 20) (blobs_of zero_state drafts) (map event_kind drafts) hold)
    (events-tell definitions stacks (p ∷ ps) pending)
    (events-plain (p ∷ ps))

-- ---- points

-- A block of a point tells it, and forgets the stacks.
pub point-told : (point : PointEntry) (names : Names) (blocks : List Block) (told : List Entry) → AreTold blocks told names → CanPoint point → AreTold (with_block block.Point (point_body point.stamp point.threads) blocks) (told ++ Point point ∷ []) (record names { stacks = [] })
point-told point names blocks told h can =
    let at : ℕ = next_body block.Point blocks in
    block-told block.Point (point_body point.stamp point.threads) blocks told (Point point ∷ []) names (record names { stacks = [] })
    (record { at = at; kind = item.Point point.stamp point.threads } ∷ []) (item.Point point.stamp point.threads ∷ []) h
    (omega (arith, point-len point.stamp point.threads, can.few))
    (point-is at point can) refl
    (Point point ∷ [], [], refl, (refl, refl), refl)
    (refl, tt)

-- Its item is the last one.
pub point-last : (point : PointEntry) (names : Names) (blocks : List Block) (told : List Entry) → (h : AreTold blocks told names) → (can : CanPoint point) → (before : List ItemKind) × (kinds_of (point-told point names blocks told h can).items ≡ before ++ item.Point point.stamp point.threads ∷ [])
unfolding point-told block-told
point-last point names blocks told h can =
    (kinds_of h.items, map-append (λ (i : Item). i.kind) h.items (record { at = next_body block.Point blocks; kind = item.Point point.stamp point.threads } ∷ []))
