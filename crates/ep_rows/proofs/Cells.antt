-- What is open on a row.
use Rattle.std.proofs.Common.{◌≡◌, ◌≢◌, ℕ, zero, suc, ◌+◌, ◌-◌, ◌<◌, ◌≤◌, Bool, true, false, List, [], ◌∷◌, ◌++◌, Option, None, Some, length, cond, refl, ap, sym, ◌∙◌, arith}
use Rattle.std.specs.Prelude.{slice_index_or, slice_set, option_map, IsSome, if◌then◌else◌}
use Rattle.std.proofs.lemmas.List.{get_or_default}
use Rattle.ep_defs.specs.declared.session.Write.{Write}
use Rattle.ep_model.specs.Budget.{Pending, needs_chunk, record_size}
use Rattle.ep_pool.specs.Counts.{PoolCounts}
use Rattle.ep_slot.specs.Slot.{SlotState, is_refused}
use Rattle.ep_slot.specs.Hand.{HandState, hand_of}
use Rattle.ep_slot.specs.declared.shown.Shown.{Shown}
use Rattle.ep_slot.specs.declared.shown.Batch.{Batch}
use Rattle.ep_row.specs.Row.{RowState}
use Rattle.ep_rows.specs.declared.opened.Open.{Open}
use Rattle.ep_rows.specs.Cells.{cell_at, chunks_in, pending_chunks}
use Rattle.ep_rows.specs.Shows.{ShownIn, StolenIn, shown_slot, chunks_taken}

-- What is open on a row is at the place before its number.
pub cell_at_is : (cells : List (Option Open)) (row : ℕ) → 0 < row → cell_at cells row ≡ slice_index_or cells (row - 1) None
cell_at_is cells zero some = absurd (omega (arith, some))
cell_at_is cells (suc place) some =
    let e : place ≡ suc place - 1 = omega arith in
    ap (λ (p : ℕ). slice_index_or cells p None) e

-- The chunks that are pending, where one slot changes.
pub chunks_set : (cells : List (Option Open)) (place : ℕ) (cell : Option Open) → place < length cells → pending_chunks (slice_set cells place cell) + chunks_in (slice_index_or cells place None) ≡ pending_chunks cells + chunks_in cell
chunks_set [] place cell within = absurd (omega (arith, within))
chunks_set (old ∷ cells) zero cell within = omega arith
chunks_set (old ∷ cells) (suc place) cell within = let e = chunks_set cells place cell (omega (arith, within)) in omega (arith, e)

-- Nothing is pending in a slot that is put down.
pub chunks_put : (cells : List (Option Open)) (place : ℕ) (o : Open) → place < length cells → slice_index_or cells place None ≡ None → o.slot.pending.chunks ≡ 0 → pending_chunks (slice_set cells place (Some o)) ≡ pending_chunks cells
chunks_put cells place o within none empty =
    let e = chunks_set cells place (Some o) within in
    let n : chunks_in (slice_index_or cells place None) ≡ 0 = ap chunks_in none in
    omega (arith, e, n, empty)

-- A longer list without more slots.
pub chunks_longer : (cells : List (Option Open)) → pending_chunks (cells ++ None ∷ []) ≡ pending_chunks cells
chunks_longer [] = refl
chunks_longer (cell ∷ cells) = ap (λ (n : ℕ). chunks_in cell + n) (chunks_longer cells)

index_longer : (cells : List (Option Open)) (place : ℕ) → slice_index_or (cells ++ None ∷ []) place None ≡ slice_index_or cells place None
index_longer [] zero = refl
index_longer [] (suc place) = refl
index_longer (cell ∷ cells) zero = refl
index_longer (cell ∷ cells) (suc place) = index_longer cells place

pub cell_at_longer : (cells : List (Option Open)) (r : ℕ) → cell_at (cells ++ None ∷ []) r ≡ cell_at cells r
cell_at_longer cells zero = refl
cell_at_longer cells (suc place) = index_longer cells place

-- ---- what is pending was taken from the pool

chunks_within : (cells : List (Option Open)) (place : ℕ) → place < length cells → chunks_in (slice_index_or cells place None) ≤ pending_chunks cells
chunks_within [] place within = absurd (omega (arith, within))
chunks_within (cell ∷ cells) zero within = omega arith
chunks_within (cell ∷ cells) (suc place) within = let e = chunks_within cells place (omega (arith, within)) in omega (arith, e)

-- A row's slot and the free chunks are within the pool.
pub free_within : (cells : List (Option Open)) (place : ℕ) (cell : Option Open) (pool : PoolCounts) → place < length cells → cell ≡ slice_index_or cells place cell → pending_chunks cells + pool.free ≤ pool.total
    → pool.free + chunks_in cell ≤ pool.total
free_within cells place cell pool within at held =
    let e = chunks_within cells place within in
    let same : chunks_in cell ≡ chunks_in (slice_index_or cells place None) = ap chunks_in (at ∙ get_or_default cells place cell None within) in
    omega (arith, e, same, held)

-- What a slot has pending, where a write was shown to it.
shown_chunks : (refused : Bool) (buffer : SlotState) (stamp : ℕ) (write : Write) → (shown_slot refused buffer stamp write).pending.chunks ≡ buffer.pending.chunks + chunks_taken refused buffer write
shown_chunks true buffer stamp write = omega arith
shown_chunks false buffer stamp write =
    elim (needs_chunk buffer.pending (record_size write)) as (λ v. (cond {A = Pending} v (record { chunks = buffer.pending.chunks + 1; used = record_size write }) (record { chunks = buffer.pending.chunks; used = buffer.pending.used + record_size write })).chunks ≡ buffer.pending.chunks + (if v then 1 else 0)) [ true ↦ refl | false ↦ omega arith ]

-- After a write was shown, what is pending was taken from the pool.
pub held_shown : (cells : List (Option Open)) (place slot : ℕ) (write : Write) (shown : Shown) (row new_row : RowState) (pool new_pool : PoolCounts) (cell now : Option Open) → place < length cells → cell ≡ slice_index_or cells place cell
    → pending_chunks cells + pool.free ≤ pool.total → ShownIn slot write shown row new_row pool new_pool cell now → pending_chunks (slice_set cells place now) + new_pool.free ≤ new_pool.total
held_shown cells place slot write shown row new_row pool new_pool cell now within at held h =
    let set = chunks_set cells place now within in
    let old : chunks_in (slice_index_or cells place None) ≡ h.opened.slot.pending.chunks = ap chunks_in (sym (at ∙ get_or_default cells place cell None within) ∙ h.was) in
    let new : chunks_in now ≡ h.opened.slot.pending.chunks + chunks_taken (is_refused shown) h.opened.slot write = ap chunks_in h.now ∙ shown_chunks (is_refused shown) h.opened.slot row.stamp write in
    omega (arith, set, old, new, held, h.pool_is.free, h.pool_is.total)

-- The chunks that it took are pending.
pub kept_shown : (cells : List (Option Open)) (place slot : ℕ) (write : Write) (shown : Shown) (row new_row : RowState) (pool new_pool : PoolCounts) (cell now : Option Open) → place < length cells → cell ≡ slice_index_or cells place cell
    → ShownIn slot write shown row new_row pool new_pool cell now → pending_chunks (slice_set cells place now) + new_pool.free ≡ pending_chunks cells + pool.free
kept_shown cells place slot write shown row new_row pool new_pool cell now within at h =
    let set = chunks_set cells place now within in
    let old : chunks_in (slice_index_or cells place None) ≡ h.opened.slot.pending.chunks = ap chunks_in (sym (at ∙ get_or_default cells place cell None within) ∙ h.was) in
    let new : chunks_in now ≡ h.opened.slot.pending.chunks + chunks_taken (is_refused shown) h.opened.slot write = ap chunks_in h.now ∙ shown_chunks (is_refused shown) h.opened.slot row.stamp write in
    omega (arith, set, old, new, h.pool_is.free)

-- What was pending of a row was taken from it.
pub chunks_stolen : (cells : List (Option Open)) (place : ℕ) (hand new_hand : HandState) (batch : Batch) (cell now : Option Open) → place < length cells → cell ≡ slice_index_or cells place cell → StolenIn hand new_hand batch cell now
    → pending_chunks (slice_set cells place now) + length batch.chain ≡ pending_chunks cells
chunks_stolen cells place hand new_hand batch cell now within at h =
    let set = chunks_set cells place now within in
    let old : chunks_in (slice_index_or cells place None) ≡ h.opened.slot.pending.chunks = ap chunks_in (sym (at ∙ get_or_default cells place cell None within) ∙ h.was) in
    let new : chunks_in now ≡ 0 = ap chunks_in h.now in
    omega (arith, set, old, new, h.all.chunks_are)

-- What was open on a row was taken out.
pub chunks_gone : (cells : List (Option Open)) (place : ℕ) (cell : Option Open) (o : Open) → place < length cells → cell ≡ slice_index_or cells place cell → cell ≡ Some o
    → pending_chunks (slice_set cells place None) + o.slot.pending.chunks ≡ pending_chunks cells
chunks_gone cells place cell o within at is =
    let set = chunks_set cells place None within in
    let old : chunks_in (slice_index_or cells place None) ≡ o.slot.pending.chunks = ap chunks_in (sym (at ∙ get_or_default cells place cell None within) ∙ is) in
    omega (arith, set, old)

pub chunks_less : (cells : List (Option Open)) (place : ℕ) → place < length cells → pending_chunks (slice_set cells place None) ≤ pending_chunks cells
chunks_less cells place within = let set = chunks_set cells place None within in omega (arith, set)

-- ---- a row on which something is open has its place

none_past : (cells : List (Option Open)) (place : ℕ) → cell_at cells (suc place) ≢ None → place < length cells
none_past [] place some = absurd (some refl)
none_past (cell ∷ cells) zero some = omega arith
none_past (cell ∷ cells) (suc place) some = let e = none_past cells place some in omega (arith, e)

not_none : (cells : List (Option Open)) (number : ℕ) → cell_at cells number ≢ None → number - 1 < length cells
not_none cells zero some = absurd (some refl)
not_none cells (suc place) some = let e = none_past cells place some in omega (arith, e)

pub some_within : (cells : List (Option Open)) (number : ℕ) → IsSome (cell_at cells number) → number - 1 < length cells
some_within cells number some = not_none cells number (is_some_not (cell_at cells number) some)
  where
    is_some_not : (cell : Option Open) → IsSome cell → cell ≢ None
    is_some_not None some e = cc
    is_some_not (Some o) some e = cc

pub agree_within : (cells : List (Option Open)) (number : ℕ) (hand : HandState) → option_map (λ (o : Open). hand_of o.slot) (cell_at cells number) ≡ Some hand → number - 1 < length cells
agree_within cells number hand agree = not_none cells number (agree_not (cell_at cells number) agree)
  where
    agree_not : (cell : Option Open) → option_map (λ (o : Open). hand_of o.slot) cell ≡ Some hand → cell ≢ None
    agree_not None agree e = cc
    agree_not (Some o) agree e = cc
