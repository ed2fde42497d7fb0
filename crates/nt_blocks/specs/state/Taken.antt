-- For private functions: what one step reads at the front of some bytes.
use Rattle.std.specs.Prelude.{◌≡◌, ℕ, ◌+◌, ◌-◌, ◌<◌, ◌≤◌, true, List, [], ◌∷◌, length, drop, Result, Ok}
use Rattle.ep_defs.specs.declared.item.Item.{Item}
use Rattle.ep_defs.specs.declared.item.ItemKind.TheVariants as item
use Rattle.pt_num.specs.Steps.{◌>>=◌}
use Rattle.nt_object.specs.declared.object.BlockKind.{BlockKind}
use Rattle.nt_head.specs.declared.head.HeadState.{HeadState}
use Rattle.nt_head.specs.Reading.{head_at}
use Rattle.nt_blocks.specs.declared.limits.TheConstants.{LAST_COUNT}
use Rattle.nt_blocks.specs.declared.take.Blob.{Blob}
use Rattle.nt_blocks.specs.Refusals.{Refusal, StackPlace, blob_at, may_head, point_body_at, stack_at, stack_body_at, stacks_at, thread_at, threads_at}

-- A header that a blob of this kind of block may have, of this many bytes, before a payload that is there.
pub record ReadsHead (kind : BlockKind) (before : HeadState) (bytes : List ℕ) (head : HeadState) (used : ℕ) : Type 0 where
  pub some : 0 < used
  pub within : used + head.size ≤ length bytes
  pub read : head_at before bytes ≡ Ok (head, drop used bytes)
  pub may : may_head kind head ≡ true

-- A blob at this place of a body that stands at this offset.
pub record ReadsBlob (kind : BlockKind) (at here : ℕ) (before : HeadState) (bytes : List ℕ) (blob : Blob) : Type 0 where
  pub some : 0 < blob.used
  pub within : blob.used ≤ length bytes
  pub read : blob_at kind (record { at = at + here; before = before }) bytes
      ≡ Ok (record {
        thing = record { at = at + here; kind = blob.kind };
        state = record { at = at + (here + blob.used); before = blob.head };
        rest = drop blob.used bytes;
      })

-- The first id and the number of stacks, which begin after 8 bytes.
pub record CountsStacks (body : List ℕ) (first count : ℕ) : Type 0 where
  pub first_fits : first ≤ LAST_COUNT
  pub count_fits : count ≤ LAST_COUNT
  pub within : 8 ≤ length body
  pub read : (at : ℕ) → stack_body_at at body ≡ stacks_at at (at + 8) first count (drop 8 body)

-- A stack after its size, of 4 bytes.
pub record ReadsStack (bytes stack : List ℕ) : Type 0 where
  pub within : 4 + length stack ≤ length bytes
  pub read : (start : ℕ) (place : StackPlace) → stack_at start place bytes
      ≡ Ok (record {
        thing = record { at = place.at; kind = item.Stack place.id stack };
        state = record { at = place.at + (4 + length stack); id = place.id + 1; left = place.left - 1 };
        rest = drop (4 + length stack) bytes;
      })

-- The one item of a point, from its threads.
abbrev pub point_of : ℕ → ℕ → Result (List (ℕ × ℕ)) Refusal → Result (List Item) Refusal
point_of at stamp threads = threads >>= λ numbers. Ok (record { at = at; kind = item.Point stamp numbers } ∷ [])

-- The stamp of a point and the number of its threads, which begin after 12 bytes.
pub record CountsThreads (body : List ℕ) (stamp count : ℕ) : Type 0 where
  pub within : 12 ≤ length body
  pub read : (at : ℕ) → point_body_at at body ≡ point_of at stamp (threads_at at count (drop 12 body))

-- A thread and its number, of 12 bytes.
pub record ReadsThread (bytes : List ℕ) (thread : ℕ × ℕ) : Type 0 where
  pub within : 12 ≤ length bytes
  pub read : (start left : ℕ) → thread_at start left bytes
      ≡ Ok (record { thing = (thread.0, thread.1); state = left - 1; rest = drop 12 bytes })
