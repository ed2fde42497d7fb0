-- How entries are laid out in blocks: what a writer chooses where the format leaves a choice (this project's profile).
use Rattle.std.specs.Prelude.{ℕ, ◌+◌, Bool, false, ◌&&◌, ◌||◌, List, [], ◌∷◌, ◌++◌, length, drop, nat_lt, ◌==◌, if◌then◌else◌, unwrap_or}
use Rattle.std.specs.List.{position_from}
use Rattle.ep_defs.specs.declared.event.EventDef.{EventDef}
use Rattle.ep_defs.specs.Event.{is_same_event}
use Rattle.ep_defs.specs.Entry.{EventEntry, PointEntry, Entry, Event, Point}
use Rattle.nt_object.specs.declared.object.BlockKind.{BlockKind}
use Rattle.nt_object.specs.declared.object.BlockKind.TheVariants as block
use Rattle.nt_object.specs.Object.{Block, padded}
use Rattle.nt_object.specs.Stream.{start_len, blocks_bytes}
use Rattle.nt_head.specs.declared.limits.TheConstants.{HEAD_BYTES}
use Rattle.nt_meta.specs.Meta.{meta_payload}
use Rattle.nt_blocks.specs.declared.limits.TheConstants.{WRITTEN_BYTES}
use Rattle.nt_blocks.specs.Bodies.{stack_body, point_body}
use Rattle.nt_blocks.specs.Drafts.{Draft, blob_body, meta_drafts}
use Rattle.nt_stacks.specs.Stacks.{with_stack, stack_id}
use Rattle.nt_write.specs.declared.limits.TheConstants.{SIZE_BYTES}

-- ---- layout

-- Where the entries so far have come to. Definitions and stacks have the ids 1, 2, 3, .. in their order.
pub record Layout : Type 0 where
  -- the blocks that are flushed
  pub blocks : List Block
  -- the definitions of the stream, and how many of them are flushed
  pub definitions : List EventDef
  pub definitions_flushed : ℕ
  -- the stacks since the last point, and how many of them are flushed
  pub stacks : List (List ℕ)
  pub stacks_flushed : ℕ
  -- the events that are not flushed
  pub events : List Draft

-- The layout before the first entry.
abbrev pub empty_layout : Layout
empty_layout =
    record { blocks = []; definitions = []; definitions_flushed = 0; stacks = []; stacks_flushed = 0; events = [] }

-- The id of a member of the list, and 0 of what is no member.
abbrev pub id_in : {A : Type 0} → (A → A → Bool) → A → List A → ℕ
id_in same x xs = unwrap_or (position_from (λ y. same x y) 1 xs) 0

-- The list with this member at its end, unless it is there.
abbrev pub with_member : {A : Type 0} → (A → A → Bool) → List A → A → List A
with_member same xs x = if id_in same x xs == 0 then xs ++ x ∷ [] else xs

-- The definitions that are not flushed, as blobs.
abbrev pub new_metas : Layout → List Draft
new_metas layout = meta_drafts (layout.definitions_flushed + 1) (drop layout.definitions_flushed layout.definitions)

-- The stacks that no block has yet.
abbrev pub new_stacks : Layout → List (List ℕ)
new_stacks layout = drop layout.stacks_flushed layout.stacks

-- The body that the new stacks make.
abbrev pub new_stack_body : Layout → List ℕ
new_stack_body layout = stack_body (layout.stacks_flushed + 1) (new_stacks layout)

-- The blocks with one more at their end.
abbrev pub with_block : BlockKind → List ℕ → List Block → List Block
with_block kind body blocks = blocks ++ padded (start_len + length (blocks_bytes blocks)) kind body ∷ []

-- The same, where the list that the body is made of holds something.
abbrev pub with_block_of : {A : Type 0} → BlockKind → List A → List ℕ → List Block → List Block
with_block_of kind [] body blocks = blocks
with_block_of kind (x ∷ xs) body blocks = with_block kind body blocks

-- A flush writes the new definitions, the new stacks, and then the events. All names stay known.
abbrev pub flushed : Layout → Layout
flushed layout =
    record layout {
      blocks =
          with_block_of block.Event layout.events (blob_body layout.events)
          (with_block_of block.Stack (new_stacks layout) (new_stack_body layout)
          (with_block_of block.Metadata (new_metas layout) (blob_body (new_metas layout)) layout.blocks));
      definitions_flushed = length layout.definitions;
      stacks_flushed = length layout.stacks;
      events = [];
    }

-- A body would pass 102,400 bytes by this many more.
abbrev pub passes : List ℕ → ℕ → Bool
passes body more = nat_lt WRITTEN_BYTES (length body + more)

-- A new blob counts as 88 bytes and its payload, a new stack as 4 bytes and its own.
abbrev pub needs_flush : Layout → EventEntry → Bool
needs_flush layout event =
    let id = id_in is_same_event event.def layout.definitions in
    let next = length layout.definitions + 1 in
    let is_new_stack = nat_lt (length layout.stacks) (length (with_stack layout.stacks event.stack)) in
    passes (blob_body layout.events) (HEAD_BYTES + length event.payload)
    || ((id == 0) && passes (blob_body (new_metas layout)) (HEAD_BYTES + length (meta_payload next event.def)))
    || (is_new_stack && passes (new_stack_body layout) (SIZE_BYTES + length event.stack))

-- What the header of an event's blob says: one thread wrote it, on processor 0.
abbrev pub event_draft : ℕ → ℕ → EventEntry → Draft
event_draft metadata stack event =
    record {
      state =
          record {
            metadata = metadata;
            number = event.number;
            capture = event.thread;
            processor = 0;
            thread = event.thread;
            stack = stack;
            stamp = event.stamp;
            activity = event.activity;
            related = event.related;
            sorted = false;
            size = length event.payload;
          };
      payload = event.payload;
    }

-- The layout with an event that the bodies have room for.
abbrev pub with_event : Layout → EventEntry → Layout
with_event layout event =
    let definitions = with_member is_same_event layout.definitions event.def in
    let stacks = with_stack layout.stacks event.stack in
    let draft = event_draft (id_in is_same_event event.def definitions) (stack_id stacks event.stack) event in
    record layout { definitions = definitions; stacks = stacks; events = layout.events ++ draft ∷ [] }

-- A point flushes, and forgets the stacks.
abbrev pub with_point : Layout → PointEntry → Layout
with_point layout point =
    let before = flushed layout in
    record before {
      blocks = with_block block.Point (point_body point.stamp point.threads) before.blocks;
      stacks = [];
      stacks_flushed = 0;
    }

-- One entry more.
abbrev pub with_entry : Layout → Entry → Layout
with_entry layout (Event event) = with_event (if needs_flush layout event then flushed layout else layout) event
with_entry layout (Point point) = with_point layout point

-- The layout once these entries were added, one after another.
abbrev pub with_entries : Layout → List Entry → Layout
with_entries layout [] = layout
with_entries layout (entry ∷ entries) = with_entries (with_entry layout entry) entries
