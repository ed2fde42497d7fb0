-- What is laid out is as the words say.
use Rattle.std.proofs.Common.{◌≡◌, ℕ, zero, suc, ◌+◌, ◌-◌, ◌^◌, ◌<◌, ◌≤◌, Bool, true, false, cond, List, [], ◌∷◌, ◌++◌, length, drop, refl, sym, subst, arith, append_assoc}
use Rattle.std.proofs.lemmas.List.{length-drop, drop_at, append-nil}
use Rattle.std.specs.Prelude.{replicate, not, nat_eq}
use Rattle.std.specs.Cmp.Lexicographic.{pointwise}
use Rattle.nt_head.specs.declared.head.HeadState.{HeadState}
use Rattle.nt_head.specs.Fewest.{has_sequence, sequence_of}
use Rattle.nt_head.proofs.PutHeads.{is_some-then_some}
use Rattle.std.specs.List.{AllByRecursion}
use Rattle.ep_defs.specs.declared.event.EventDef.{EventDef}
use Rattle.ep_defs.specs.declared.session.TraceInfo.{TraceInfo}
use Rattle.ep_defs.specs.Event.{is_same_text, is_same_event}
use Rattle.ep_defs.specs.Entry.{EventEntry, PointEntry, Entry, Event, Point}
use Rattle.nt_object.specs.declared.object.BlockKind.{BlockKind}
use Rattle.nt_object.specs.declared.object.BlockKind.TheVariants as block
use Rattle.nt_object.specs.Object.{Block, padded, padding_begins, to_multiple_of_4}
use Rattle.nt_object.specs.Stream.{start_len, blocks_bytes}
use Rattle.nt_blocks.specs.declared.limits.TheConstants.{WRITTEN_BYTES}
use Rattle.nt_blocks.specs.Bodies.{stack_body, point_body}
use Rattle.nt_blocks.specs.Drafts.{Draft, blob_body, meta_drafts}
use Rattle.nt_stacks.specs.Stacks.{with_stack, stack_id}
use Rattle.nt_write.specs.Layout.{Layout, empty_layout, with_member, new_metas, new_stacks, new_stack_body, with_block, with_block_of, flushed, needs_flush, with_event, with_point, with_entry, with_entries}
use Rattle.nt_write.specs.Canonical.{IsCanonical}
use Rattle.nt_write.specs.Words.{IsPlainDraft, IsSmallBody, GoesOn, GoOn, AreInWords, FlagsStand}
use Rattle.nt_write.specs.Writable.{CanTell, StacksFit}
use Rattle.nt_write.proofs.BlockSteps.{all-more}
use Rattle.nt_write.proofs.Laid.{member-stays, Parts, IsLaid, laid-entry, laid-empty, all-definitions-stay}
use Rattle.nt_write.proofs.Names.{members}
use Rattle.nt_write.proofs.Sameness.{text_sameness, event_sameness}

-- ---- a block more

-- One that goes on stands at the end.
go-more : (d s : ℕ) (blocks : List Block) (kind : BlockKind) (padding body : List ℕ) (d1 s1 d2 s2 : ℕ) → GoOn d s blocks d1 s1 → GoesOn kind body d1 s1 d2 s2 → GoOn d s (blocks ++ record { kind = kind; padding = padding; body = body } ∷ []) d2 s2
go-more d s [] kind padding body d1 s1 d2 s2 h g =
    (d2, s2, subst (λ (n : ℕ). GoesOn kind body d n d2 s2) h.1 (subst (λ (n : ℕ). GoesOn kind body n s1 d2 s2) h.0 g), (refl, refl))
go-more d s (b ∷ blocks) kind padding body d1 s1 d2 s2 h g =
    (h.0, h.1, h.2, go-more h.0 h.1 blocks kind padding body d1 s1 d2 s2 h.3 g)

-- Blocks padded by zeros.
abbrev ArePadded : List Block → Type 0
ArePadded blocks = AllByRecursion (λ (block : Block). AllByRecursion (λ byte. byte ≡ 0) block.padding) blocks

zeros : (n : ℕ) → AllByRecursion {X = ℕ} (λ (byte : ℕ). byte ≡ 0) (replicate n 0)
zeros zero = tt
zeros (suc n) = (refl, zeros n)

-- The blocks so far.
record AreSaid (blocks : List Block) (d s : ℕ) : Type 0 where
  order : GoOn 0 0 blocks d s
  padding : ArePadded blocks
  small : AllByRecursion (λ (block : Block). IsSmallBody block.kind block.body) blocks

said-more : (kind : BlockKind) (body : List ℕ) (blocks : List Block) (d s d2 s2 : ℕ) → AreSaid blocks d s → IsSmallBody kind body → GoesOn kind body d s d2 s2 → AreSaid (with_block kind body blocks) d2 s2
said-more kind body blocks d s d2 s2 h small g =
    let at : ℕ = start_len + length (blocks_bytes blocks) in
    record {
      order = go-more 0 0 blocks kind (replicate (to_multiple_of_4 (padding_begins at kind)) 0) body d s d2 s2 h.order g;
      padding = all-more (λ (block : Block). AllByRecursion (λ byte. byte ≡ 0) block.padding) blocks (padded at kind body) h.padding (zeros (to_multiple_of_4 (padding_begins at kind)));
      small = all-more (λ (block : Block). IsSmallBody block.kind block.body) blocks (padded at kind body) h.small small;
    }

-- ---- a flush

metas-said : (new : List EventDef) (blocks : List Block) (d s n : ℕ) → n ≡ d + length new → length (blob_body (meta_drafts (d + 1) new)) ≤ WRITTEN_BYTES → AreSaid blocks d s → AreSaid (with_block_of block.Metadata (meta_drafts (d + 1) new) (blob_body (meta_drafts (d + 1) new)) blocks) n s
metas-said [] blocks d s n e small h = subst (λ (k : ℕ). AreSaid blocks k s) (same d n e) h
  where
    same : (d n : ℕ) → n ≡ d + 0 → d ≡ n
    same d n e = omega arith
metas-said (def ∷ new) blocks d s n e small h =
    said-more block.Metadata (blob_body (meta_drafts (d + 1) (def ∷ new))) blocks d s n s h small (def ∷ new, omega arith, refl, e, refl)

stacks-said : (new : List (List ℕ)) (blocks : List Block) (d s n : ℕ) → n ≡ s + length new → length (stack_body (s + 1) new) ≤ WRITTEN_BYTES → AreSaid blocks d s → AreSaid (with_block_of block.Stack new (stack_body (s + 1) new) blocks) d n
stacks-said [] blocks d s n e small h = subst (λ (k : ℕ). AreSaid blocks d k) (same s n e) h
  where
    same : (s n : ℕ) → n ≡ s + 0 → s ≡ n
    same s n e = omega arith
stacks-said (stack ∷ new) blocks d s n e small h =
    said-more block.Stack (stack_body (s + 1) (stack ∷ new)) blocks d s d n h small (stack ∷ new, omega arith, refl, refl, e)

events-said : (events : List Draft) (blocks : List Block) (d s : ℕ) → AllByRecursion (IsPlainDraft d s) events → length (blob_body events) ≤ WRITTEN_BYTES → AreSaid blocks d s → AreSaid (with_block_of block.Event events (blob_body events) blocks) d s
events-said [] blocks d s plain small h = h
events-said (draft ∷ events) blocks d s plain small h =
    said-more block.Event (blob_body (draft ∷ events)) blocks d s d s h small (draft ∷ events, omega arith, plain, refl, refl, refl)

-- The layout is as the words say, and what waits will be.
record IsSaid (layout : Layout) : Type 0 where
  blocks : AreSaid layout.blocks layout.definitions_flushed layout.stacks_flushed
  events : AllByRecursion (IsPlainDraft (length layout.definitions) (length layout.stacks)) layout.events
  definitions_few : layout.definitions_flushed ≤ length layout.definitions
  stacks_few : layout.stacks_flushed ≤ length layout.stacks

-- Those behind so many, with those.
left : (flushed all rest : ℕ) → flushed ≤ all → rest ≡ all - flushed → all ≡ flushed + rest
left flushed all rest h e = omega arith

-- The bodies in the making are small.
record AreRoomy (layout : Layout) : Type 0 where
  events : length (blob_body layout.events) ≤ WRITTEN_BYTES
  metas : length (blob_body (new_metas layout)) ≤ WRITTEN_BYTES
  stacks : length (new_stack_body layout) ≤ WRITTEN_BYTES

-- They are wherever entries were laid out.
laid-roomy : (layout : Layout) (entries : List Entry) → IsLaid layout entries → AreRoomy layout
laid-roomy layout entries h =
    let p : Parts = h.parts in
    subst (λ (l : Layout). AreRoomy l) (sym h.is)
    (record {
      events = h.sound.small.events;
      metas = subst (λ (new : List EventDef). length (blob_body (meta_drafts (length p.old_definitions + 1) new)) ≤ WRITTEN_BYTES) (sym (drop_at p.old_definitions p.new_definitions (length p.old_definitions) refl)) h.sound.small.metas;
      stacks = subst (λ (new : List (List ℕ)). length (stack_body (length p.old_stacks + 1) new) ≤ WRITTEN_BYTES) (sym (drop_at p.old_stacks p.new_stacks (length p.old_stacks) refl)) h.sound.small.stacks;
    })

said-flushed : (layout : Layout) → IsSaid layout → AreRoomy layout → IsSaid (flushed layout)
said-flushed layout h room =
    let d : ℕ = length layout.definitions in
    let s : ℕ = length layout.stacks in
    let metas : List Block = with_block_of block.Metadata (new_metas layout) (blob_body (new_metas layout)) layout.blocks in
    let stacks : List Block = with_block_of block.Stack (new_stacks layout) (new_stack_body layout) metas in
    let first : AreSaid metas d layout.stacks_flushed = metas-said (drop layout.definitions_flushed layout.definitions) layout.blocks layout.definitions_flushed layout.stacks_flushed d (left layout.definitions_flushed d (length (drop layout.definitions_flushed layout.definitions)) h.definitions_few (length-drop layout.definitions_flushed layout.definitions)) room.metas h.blocks in
    let second : AreSaid stacks d s = stacks-said (new_stacks layout) metas d layout.stacks_flushed s (left layout.stacks_flushed s (length (new_stacks layout)) h.stacks_few (length-drop layout.stacks_flushed layout.stacks)) room.stacks first in
    record {
      blocks = events-said layout.events stacks d s h.events room.events second;
      events = tt;
      definitions_few = omega arith;
      stacks_few = omega arith;
    }

-- ---- an event

-- More ids leave the events before them.
plain-more : (d s d2 s2 : ℕ) (events : List Draft) → d ≤ d2 → s ≤ s2 → AllByRecursion (IsPlainDraft d s) events → AllByRecursion (IsPlainDraft d2 s2) events
plain-more d s d2 s2 [] le lf h = tt
plain-more d s d2 s2 (draft ∷ events) le lf h = (
  record {
    some = h.0.some;
    defined = omega (arith, h.0.defined);
    stacked = omega (arith, h.0.stacked);
    own = h.0.own;
    processor = h.0.processor;
    unsorted = h.0.unsorted;
    size = h.0.size;
  },
  plain-more d s d2 s2 events le lf h.1,
)

-- A stack's id is none above those that there are, and no stack goes.
record IsStackNumber (stacks : List (List ℕ)) (stack : List ℕ) : Type 0 where
  id : stack_id (with_stack stacks stack) stack ≤ length (with_stack stacks stack)
  longer : length stacks ≤ length (with_stack stacks stack)

stack-number : (stacks : List (List ℕ)) (stack : List ℕ) → IsStackNumber stacks stack
stack-number stacks [] = record { id = omega arith; longer = omega arith }
stack-number stacks (b ∷ bytes) =
    record { id = (members is_same_text text_sameness stacks (b ∷ bytes)).numbered.few; longer = member-stays is_same_text stacks (b ∷ bytes) }

said-event : (layout : Layout) (event : EventEntry) → IsSaid layout → IsSaid (with_event layout event)
said-event layout event h =
    let m = members is_same_event event_sameness layout.definitions event.def in
    let n = stack-number layout.stacks event.stack in
    let longer : length layout.definitions ≤ length (with_member is_same_event layout.definitions event.def) = member-stays is_same_event layout.definitions event.def in
    let d : ℕ = length (with_member is_same_event layout.definitions event.def) in
    let s : ℕ = length (with_stack layout.stacks event.stack) in
    record {
      blocks = h.blocks;
      events = all-more (IsPlainDraft d s) layout.events _ (plain-more (length layout.definitions) (length layout.stacks) d s layout.events longer n.longer h.events)
          (record { some = m.numbered.some; defined = m.numbered.few; stacked = n.id; own = refl; processor = refl; unsorted = refl; size = refl });
      definitions_few = omega (arith, h.definitions_few, longer);
      stacks_few = omega (arith, h.stacks_few, n.longer);
    }

-- ---- a point

said-point : (layout : Layout) (point : PointEntry) → IsSaid layout → AreRoomy layout → IsSaid (with_point layout point)
said-point layout point h room =
    let before : IsSaid (flushed layout) = said-flushed layout h room in
    record {
      blocks = said-more block.Point (point_body point.stamp point.threads) (flushed layout).blocks (length layout.definitions) (length layout.stacks) (length layout.definitions) 0 before.blocks tt (point.stamp, point.threads, refl, refl, refl);
      events = tt;
      definitions_few = omega arith;
      stacks_few = omega arith;
    }

-- ---- all entries

said-entry : (layout : Layout) (entry : Entry) → IsSaid layout → AreRoomy layout → IsSaid (with_entry layout entry)
said-entry layout (Event event) h room = by_test (needs_flush layout event)
  where
    by_test : (needed : Bool) → IsSaid (with_event (cond needed (flushed layout) layout) event)
    by_test true = said-event (flushed layout) event (said-flushed layout h room)
    by_test false = said-event layout event h
said-entry layout (Point point) h room = said-point layout point h room

-- What was laid out is as the words say.
record IsLaidInWords (layout : Layout) (entries : List Entry) : Type 0 where
  laid : IsLaid layout entries
  said : IsSaid layout

laid-in-words : (layout : Layout) (before entries : List Entry) → IsLaidInWords layout before → AllByRecursion CanTell entries → length (with_entries layout entries).definitions < 2 ^ 31 → StacksFit layout entries → IsLaidInWords (with_entries layout entries) (before ++ entries)
laid-in-words layout before [] h can few stacks = subst (λ (es : List Entry). IsLaidInWords layout es) (sym (append-nil before)) h
laid-in-words layout before (entry ∷ entries) h can few stacks =
    let next : Layout = with_entry layout entry in
    let few_next = first (length next.definitions) (length (with_entries next entries).definitions) (all-definitions-stay next entries) few in
    let one : IsLaidInWords next (before ++ entry ∷ []) = record { laid = laid-entry layout before entry h.laid can.0 few_next stacks.0; said = said-entry layout entry h.said (laid-roomy layout before h.laid) } in
    subst (λ (es : List Entry). IsLaidInWords (with_entries next entries) es) (append_assoc before (entry ∷ []) entries)
    (laid-in-words next (before ++ entry ∷ []) entries one can.1 few stacks.1)
  where
    first : (a b : ℕ) → a ≤ b → b < 2 ^ 31 → a < 2 ^ 31
    first a b h g = omega arith

-- Canonical bytes of entries that can be written are as the words say.
pub in_words : (info : TraceInfo) (entries : List Entry) (bytes : List ℕ) → AllByRecursion CanTell entries → length (with_entries empty_layout entries).definitions < 2 ^ 31 → StacksFit empty_layout entries → IsCanonical info entries bytes → AreInWords info bytes
in_words info entries bytes can few fit canonical =
    let none : IsLaidInWords empty_layout [] = record {
      laid = laid-empty;
      said = record { blocks = record { order = (refl, refl); padding = tt; small = tt }; events = tt; definitions_few = omega arith; stacks_few = omega arith };
    } in
    let layout : Layout = with_entries empty_layout entries in
    let all : IsLaidInWords layout entries = laid-in-words empty_layout [] entries none can few fit in
    let last : IsSaid (flushed layout) = said-flushed layout all.said (laid-roomy layout entries all.laid) in
    record {
      blocks = (flushed layout).blocks;
      spelled = canonical.written;
      padding = last.blocks.padding;
      small = last.blocks.small;
      definitions = length layout.definitions;
      stacks = length layout.stacks;
      order = last.blocks.order;
    }

-- ---- headers

-- Each flag stands where its value differs.
pub flags-stand : (before now : HeadState) → FlagsStand before now
flags-stand before now = record {
  metadata = is_some-then_some (not (nat_eq before.metadata now.metadata)) now.metadata;
  sequence = is_some-then_some (has_sequence before now) (sequence_of before now);
  thread = is_some-then_some (not (nat_eq before.thread now.thread)) now.thread;
  stack = is_some-then_some (not (nat_eq before.stack now.stack)) now.stack;
  activity = is_some-then_some (not (pointwise nat_eq before.activity now.activity)) now.activity;
  related = is_some-then_some (not (pointwise nat_eq before.related now.related)) now.related;
  size = is_some-then_some (not (nat_eq before.size now.size)) now.size;
}
