use Rattle.std.proofs.Common.{◌≡◌, ℕ, ◌+◌, ◌-◌, ◌<◌, Bool, true, false, Option, ap, sym, ◌∙◌, arith}
use Rattle.std.specs.Prelude.{if◌then◌else◌}
use Rattle.std.specs.Option.{option_map_or}
use Rattle.ep_model.specs.Budget.{Pending, needs_chunk, record_size}
use Rattle.ep_pool.specs.Counts.{PoolCounts}
use Rattle.ep_slot.specs.Asked.{IsAsked}
use Rattle.ep_slot.specs.Slot.{SlotState}
use Rattle.ep_stream_tests.specs.declared.tests.rows.Open.{Open}
use Rattle.ep_stream_tests.proofs.tests.rows.show_in.Goals as goal

-- What is pending and what is free are as many chunks as before.
record Balances (pending after : Pending) (old new : PoolCounts) : Type 0 where
  total : new.total ≡ old.total
  chunks : after.chunks + new.free ≡ pending.chunks + old.free

-- What is pending once a record of this size is, which needs a chunk or not.
abbrev pending_if : Bool → Pending → ℕ → Pending
pending_if needs pending size =
    if needs
    then record { chunks = pending.chunks + 1; used = size }
    else record { chunks = pending.chunks; used = pending.used + size }

balances : (needs : Bool) (pending : Pending) (size : ℕ) (old new : PoolCounts)
    → IsAsked (λ (a b : PoolCounts). (0 < a.free) × (b ≡ record a { free = a.free - 1 })) (λ (a b : PoolCounts). (a.free ≡ 0) × (b ≡ a)) needs false old new
    → Balances pending (pending_if needs pending size) old new
balances true pending size old new h =
    let some : 0 < old.free = h.0 in
    let free : new.free ≡ old.free - 1 = ap (λ (p : PoolCounts). p.free) h.1 in
    record { total = ap (λ (p : PoolCounts). p.total) h.1; chunks = omega (arith, some, free) }
balances false pending size old new h =
    record { total = ap (λ (p : PoolCounts). p.total) h.1; chunks = ap (λ (p : PoolCounts). pending.chunks + p.free) h.1 }

pub returns-in-Written-clause-total : goal.returns-in-Written-clause-total
returns-in-Written-clause-total c =
    let pending = c.in-Some.open.slot.pending in
    let size = record_size c.args.write.now in
    (balances (needs_chunk pending size) pending size c.args.pool.now c.show.new.pool c.in-Written.ensures.purse).total

pub returns-in-Written-clause-chunks : goal.returns-in-Written-clause-chunks
returns-in-Written-clause-chunks c =
    let pending = c.in-Some.open.slot.pending in
    let size = record_size c.args.write.now in
    let new = c.show.new.pool in
    let was : option_map_or (λ (o : Open). o.slot.pending.chunks) c.args.cell.now 0 ≡ pending.chunks =
    ap (λ (cell : Option Open). option_map_or (λ (o : Open). o.slot.pending.chunks) cell 0) c.in-Some.is
    in
    ap (λ (slot : SlotState). slot.pending.chunks + new.free) c.in-Written.ensures.slot
    ∙ (balances (needs_chunk pending size) pending size c.args.pool.now new c.in-Written.ensures.purse).chunks
    ∙ ap (λ (n : ℕ). n + c.args.pool.now.free) (sym was)
