-- What is read in the body of a block: its items, or the first thing that is wrong with it (this project's profile says
-- what is refused, and where; the NetTrace format document of PerfView (version 4) what a body is).
use Rattle.std.specs.Prelude.{ℕ, suc, ◌+◌, ◌-◌, ◌%◌, Bool, true, false, ◌&&◌, List, [], ◌∷◌, length, drop, Result, Ok, Err, nat_lt, nat_le, ◌==◌}
use Rattle.std.specs.Int.{w16, w32, w64}
use Rattle.ep_defs.specs.declared.item.Item.{Item}
use Rattle.ep_defs.specs.declared.item.ItemKind.{ItemKind}
use Rattle.ep_defs.specs.declared.item.ItemKind.TheVariants as item
use Rattle.pt_num.specs.Steps.{◌>>=◌, check, or_else_fault}
use Rattle.pt_num.specs.Fields.{bytes_at, fixed_at}
use Rattle.nt_object.specs.declared.object.BlockKind.{BlockKind}
use Rattle.nt_object.specs.declared.object.BlockKind.TheVariants as block
use Rattle.nt_head.specs.declared.head.HeadState.{HeadState}
use Rattle.nt_head.specs.Head.{zero_state}
use Rattle.nt_head.specs.Reading.{head_at}
use Rattle.nt_meta.specs.Reading.{meta_at}
use Rattle.nt_blocks.specs.declared.limits.TheConstants.{HEADER_BYTES, LAST_COUNT}
use Rattle.nt_blocks.specs.Each.{One, each_at}

-- Why bytes of a stream are refused.
pub data Reason : Type 0 where
  BadMagic : Reason
  BadObject : Reason
  BadVersion : Reason
  BadBlock : Reason
  BadHead : Reason
  BadMeta : Reason
  Uncompressed : Reason
  TooLarge : (size : ℕ) → Reason

-- What is refused, and at which offset of the stream.
pub record Refusal : Type 0 where
  pub at : ℕ
  pub reason : Reason

-- Refused at this place, for this reason.
abbrev pub refusal : ℕ → Reason → Refusal
refusal at reason = record { at = at; reason = reason }

-- ---- blobs

-- Where the next blob begins, and what the header before it said.
pub record BlobPlace : Type 0 where
  pub at : ℕ
  pub before : HeadState

-- An event's header names its definition. In a metadata block every header may be any.
abbrev pub may_head : BlockKind → HeadState → Bool
may_head block.Event state = nat_lt 0 state.metadata
may_head block.Metadata state = true
may_head block.Stack state = false
may_head block.Point state = false

-- What a blob with this header holds. Its payload begins at this offset.
abbrev pub held_at : BlockKind → HeadState → ℕ → List ℕ → Result ItemKind Refusal
held_at block.Event state at payload =
    Ok (item.Event state.metadata state.number state.capture state.processor state.thread state.stack state.stamp state.activity state.related payload)
held_at block.Metadata state at payload = or_else_fault (meta_at payload) (refusal at BadMeta) >>= λ meta. Ok (item.Meta meta.0 meta.1)
held_at block.Stack state at payload = Err (refusal at BadBlock)
held_at block.Point state at payload = Err (refusal at BadBlock)

-- The blob at the front of the bytes: a header, and a payload of the size that it says.
unfoldable pub blob_at : BlockKind → BlobPlace → List ℕ → Result (One BlobPlace Item) Refusal
blob_at kind place bytes = do
  head ← or_else_fault (head_at place.before bytes) (refusal place.at BadHead)
  may ← check (may_head kind head.0) (refusal place.at BadHead)
  payload ← or_else_fault (bytes_at head.0.size head.1) (refusal place.at BadHead)
  held ← held_at kind head.0 (place.at + (length bytes - length head.1)) payload.0
  Ok (record {
    thing = record { at = place.at; kind = held };
    state = record { at = place.at + (length bytes - length payload.1); before = head.0 };
    rest = payload.1;
  })

-- No bytes are left.
abbrev pub at_end : BlobPlace → List ℕ → Bool
at_end place bytes = length bytes == 0

-- The body's own header: its size, and its flags, of which the first says that blobs have compressed headers.
unfoldable pub header_at : ℕ → List ℕ → Result ℕ Refusal
header_at at body = do
  long ← check (nat_le HEADER_BYTES (length body)) (refusal at BadBlock)
  size ← or_else_fault (fixed_at w16 body) (refusal at BadBlock)
  fits ← check (nat_le HEADER_BYTES size.0 && nat_le size.0 (length body)) (refusal at BadBlock)
  flags ← or_else_fault (fixed_at w16 size.1) (refusal at BadBlock)
  compressed ← check (flags.0 % 2 == 1) (refusal (at + 2) Uncompressed)
  Ok size.0

-- After that header the blobs, up to the body's end.
abbrev pub blob_body_at : BlockKind → ℕ → List ℕ → Result (List Item) Refusal
blob_body_at kind at body =
    header_at at body
    >>= λ size. each_at at_end (blob_at kind) (suc (length body)) (record { at = at + size; before = zero_state }) (drop size body)
    >>= λ blobs. Ok blobs.things

-- ---- stacks

-- Where the next stack begins, its id, and how many there are from it on.
pub record StackPlace : Type 0 where
  pub at : ℕ
  pub id : ℕ
  pub left : ℕ

-- The stack at the front of the bytes, in a body that begins at this offset.
unfoldable pub stack_at : ℕ → StackPlace → List ℕ → Result (One StackPlace Item) Refusal
stack_at start place bytes = do
  size ← or_else_fault (fixed_at w32 bytes) (refusal start BadBlock)
  stack ← or_else_fault (bytes_at size.0 size.1) (refusal start BadBlock)
  Ok (record {
    thing = record { at = place.at; kind = item.Stack place.id stack.0 };
    state = record { at = place.at + (length bytes - length stack.1); id = place.id + 1; left = place.left - 1 };
    rest = stack.1;
  })

-- This many stacks with the ids from this one on, the first at this offset, and nothing after them.
unfoldable pub stacks_at : ℕ → ℕ → ℕ → ℕ → List ℕ → Result (List Item) Refusal
stacks_at start at first count bytes =
    each_at (λ place left. place.left == 0) (stack_at start) (suc (length bytes)) (record { at = at; id = first; left = count }) bytes
    >>= λ stacks. check (length stacks.rest == 0) (refusal start BadBlock)
    >>= λ ended. Ok stacks.things

-- The number of the first stack and that of all, and the stacks.
unfoldable pub stack_body_at : ℕ → List ℕ → Result (List Item) Refusal
stack_body_at at body = do
  first ← or_else_fault (fixed_at w32 body) (refusal at BadBlock)
  count ← or_else_fault (fixed_at w32 first.1) (refusal at BadBlock)
  fits ← check (nat_le first.0 LAST_COUNT && nat_le count.0 LAST_COUNT) (refusal at BadBlock)
  stacks_at at (at + 8) first.0 count.0 count.1

-- ---- points

-- A thread and its number, of this many threads that are left.
unfoldable pub thread_at : ℕ → ℕ → List ℕ → Result (One ℕ (ℕ × ℕ)) Refusal
thread_at start left bytes = do
  thread ← or_else_fault (fixed_at w64 bytes) (refusal start BadBlock)
  number ← or_else_fault (fixed_at w32 thread.1) (refusal start BadBlock)
  Ok (record { thing = (thread.0, number.0); state = left - 1; rest = number.1 })

-- This many threads, and nothing after them.
unfoldable pub threads_at : ℕ → ℕ → List ℕ → Result (List (ℕ × ℕ)) Refusal
threads_at start count bytes =
    each_at (λ left more. left == 0) (thread_at start) (suc (length bytes)) count bytes
    >>= λ threads. check (length threads.rest == 0) (refusal start BadBlock)
    >>= λ ended. Ok threads.things

-- The stamp and the number of threads, and the threads.
unfoldable pub point_body_at : ℕ → List ℕ → Result (List Item) Refusal
point_body_at at body = do
  stamp ← or_else_fault (fixed_at w64 body) (refusal at BadBlock)
  count ← or_else_fault (fixed_at w32 stamp.1) (refusal at BadBlock)
  fits ← check (nat_le count.0 LAST_COUNT) (refusal at BadBlock)
  threads ← threads_at at count.0 count.1
  Ok (record { at = at; kind = item.Point stamp.0 threads } ∷ [])

-- ---- any body

-- What is read in a body of this kind that stands at an offset, or the first thing that is wrong in it.
abbrev pub body_at : BlockKind → ℕ → List ℕ → Result (List Item) Refusal
body_at block.Event at body = blob_body_at block.Event at body
body_at block.Metadata at body = blob_body_at block.Metadata at body
body_at block.Stack at body = stack_body_at at body
body_at block.Point at body = point_body_at at body
