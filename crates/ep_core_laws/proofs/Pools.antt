-- A pool follows each step.
use Rattle.std.proofs.Common.{◌≡◌, ℕ, ◌+◌, ◌≤◌, Bool, true, false, List, [], ◌∷◌, Option, refl, ap, sym, ◌∙◌, arith}
use Rattle.std.specs.Prelude.{◌&&◌, not, min, nat_le, if◌then◌else◌}
use Rattle.std.specs.List.{list_any}
use Rattle.std.specs.Option.{option_map_or}
use Rattle.std.proofs.lemmas.Bool.{eq-eqb, and_from, and_parts, le-leb, leb-true}
use Rattle.std.proofs.Math.Nat.{min-eq_right}
use Rattle.ep_defs.specs.declared.event.EventDef.{EventDef}
use Rattle.ep_defs.specs.declared.session.Config.{Config}
use Rattle.ep_defs.specs.declared.session.Write.{Write}
use Rattle.ep_model.specs.declared.step.Step.{Step}
use Rattle.ep_model.specs.declared.step.Step.TheVariants as step
use Rattle.ep_model.specs.Budget.{Pending, needs_chunk, chunks_begun, record_size}
use Rattle.ep_model.specs.Chunks.{Turn, Written, Taken, Given, takes_from, is_back, held, in_hand, turns, chunks_of, shown_size, is_refused}
use Rattle.ep_model.specs.Fold.{lacks_chunk, budget_of}
use Rattle.ep_model.specs.History.{Past, Begun}
use Rattle.ep_model.specs.Lawful.{IsLawful}
use Rattle.ep_model.proofs.Sessions.{accept_unreached}
use Rattle.ep_model.proofs.Lists.{same_bools}
use Rattle.ep_pool.specs.Counts.{PoolCounts}
use Rattle.ep_slot.specs.declared.shown.Shown.{Shown}
use Rattle.ep_slot.specs.Slot.{SlotState, is_refused as is_shown_refused}
use Rattle.ep_stream.specs.Steps.{given_back}
use Rattle.ep_rows.specs.Shows.{ShowsWrite, chunks_taken}
use Rattle.ep_core_laws.specs.Changes.{changes_pool}
use Rattle.ep_core_laws.specs.Kept.{IsLast, SlotFollows, PoolFollows}
use Rattle.ep_core_laws.proofs.KeptPasts.{none_held}
use Rattle.ep_core_laws.proofs.Elsewhere.{config_kept, held_stays}

-- A refusal comes where the fold lacks a chunk.
abbrev pub IsCounted : ℕ → ℕ → Past → Type 0
IsCounted session thread past = is_refused session thread past ≡ lacks_chunk (budget_of session past) (chunks_of session past) thread (shown_size thread past)

-- ---- a session is accepted

pub pool_accepted : (events : List EventDef) (past : Past) (session : ℕ) (config : Config) → IsLawful events (step.Accept session config ∷ past)
    → PoolFollows (step.Accept session config ∷ past) session (record { total = config.chunks; free = config.chunks })
pool_accepted events past session config lawful =
    let none = none_held events session past lawful.0 (accept_unreached events past session config lawful.1) in
    record {
      total_is = rw (eq-eqb session session refl) refl;
      free_are = omega (arith, none);
    }

-- ---- a write is shown

-- It is refused where the budget lacks a chunk: none is free exactly where as many are held as there are.
pub pool_refuses : (events : List EventDef) (past : Past) (session thread : ℕ) (slot : SlotState) (stamp : ℕ) (write : Write) (shown : Shown) (old new : PoolCounts)
    → IsCounted session thread past → SlotFollows events past session slot → slot.thread ≡ thread → IsLast thread past stamp write
    → PoolFollows past session old → ShowsWrite write shown slot old new → is_shown_refused shown ≡ is_refused session thread past
pool_refuses events past session thread slot stamp write shown old new counted h own begun pool shows =
    let budget = budget_of session past in
    let chunks = chunks_of session past in
    let size : shown_size thread past ≡ record_size write = ap (λ (o : Option Begun). option_map_or (λ b. record_size b.write) o 0) begun in
    let pending : slot.pending ≡ budget.pending thread = h.pending_is ∙ ap (λ t. budget.pending t) own in
    let needs : needs_chunk slot.pending (record_size write) ≡ needs_chunk (budget.pending thread) (shown_size thread past) =
    ap (λ (p : Pending). needs_chunk p (record_size write)) pending ∙ ap (λ n. needs_chunk (budget.pending thread) n) (sym size) in
    same_bools (is_shown_refused shown) (lacks_chunk budget chunks thread (shown_size thread past))
    (λ out.
    let both = shows.refused.0 out in
    and_from (needs_chunk (budget.pending thread) (shown_size thread past)) (nat_le chunks budget.held) (sym needs ∙ both.0)
    (le-leb chunks budget.held (omega (arith, both.1, pool.total_is, pool.free_are))))
    (λ lacks.
    let both = and_parts (needs_chunk (budget.pending thread) (shown_size thread past)) (nat_le chunks budget.held) lacks in
    let most = leb-true chunks budget.held both.1 in
    shows.refused.1 (needs ∙ both.0, omega (arith, most, pool.total_is, pool.free_are)))
    ∙ sym counted

pool_after : (refuses : Bool) (events : List EventDef) (past : Past) (session thread : ℕ) (slot : SlotState) (write : Write) (shown : Shown) (old new : PoolCounts)
    → is_shown_refused shown ≡ refuses → lacks_chunk (budget_of session past) (chunks_of session past) thread (shown_size thread past) ≡ refuses
    → slot.pending ≡ (budget_of session past).pending thread → shown_size thread past ≡ record_size write
    → PoolFollows past session old → ShowsWrite write shown slot old new → PoolFollows (step.Show thread session ∷ past) session new
pool_after true events past session thread slot write shown old new out lacks pending size pool shows =
    let taken : chunks_taken (is_shown_refused shown) slot write ≡ 0 = ap (λ (v : Bool). chunks_taken v slot write) out in
    record {
      total_is = shows.total ∙ pool.total_is;
      free_are = rw (eq-eqb session session refl, lacks) (omega (arith, shows.free, shows.total, pool.free_are, taken));
    }
pool_after false events past session thread slot write shown old new in_room lacks pending size pool shows =
    let budget = budget_of session past in
    let taken : chunks_taken (is_shown_refused shown) slot write ≡ chunks_begun (budget.pending thread) (shown_size thread past) =
    ap (λ (v : Bool). chunks_taken v slot write) in_room
    ∙ ap (λ (p : Pending). chunks_begun p (record_size write)) pending
    ∙ ap (λ n. chunks_begun (budget.pending thread) n) (sym size) in
    record {
      total_is = shows.total ∙ pool.total_is;
      free_are = rw (eq-eqb session session refl, lacks) (omega (arith, shows.free, shows.total, pool.free_are, taken));
    }

pub pool_shown : (events : List EventDef) (past : Past) (session thread : ℕ) (slot : SlotState) (stamp : ℕ) (write : Write) (shown : Shown) (old new : PoolCounts)
    → IsCounted session thread past → SlotFollows events past session slot → slot.thread ≡ thread → IsLast thread past stamp write
    → PoolFollows past session old → ShowsWrite write shown slot old new → PoolFollows (step.Show thread session ∷ past) session new
pool_shown events past session thread slot stamp write shown old new counted h own begun pool shows =
    let refuses = pool_refuses events past session thread slot stamp write shown old new counted h own begun pool shows in
    pool_after (is_refused session thread past) events past session thread slot write shown old new refuses (sym counted)
    (h.pending_is ∙ ap (λ t. (budget_of session past).pending t) own)
    (ap (λ (o : Option Begun). option_map_or (λ b. record_size b.write) o 0) begun) pool shows

-- ---- chunks are given back

hand_part : (begins taken back : Bool) → (if begins && taken && not back then 1 else 0) ≤ (if begins && not back then 1 else 0)
hand_part true true true = omega arith
hand_part true true false = omega arith
hand_part true false true = omega arith
hand_part true false false = omega arith
hand_part false taken back = omega arith

-- What is in hand is held.
hand_held : (turns : List Turn) → in_hand turns ≤ held turns
hand_held [] = omega arith
hand_held (Written t size begins ∷ later) = omega (arith, hand_held later, hand_part begins (list_any (takes_from t) later) (is_back t later))
hand_held (Taken t ∷ later) = hand_held later
hand_held (Given ∷ later) = hand_held later

pool_given : (past : Past) (session : ℕ) (pool : PoolCounts) (hand : ℕ) → (budget_of session past).in_hand ≤ (budget_of session past).held
    → PoolFollows past session pool → hand ≡ (budget_of session past).in_hand → PoolFollows (step.Give session ∷ past) session (given_back pool hand)
pool_given past session pool hand most h is =
    let within : pool.free + hand ≤ pool.total = omega (arith, most, h.free_are, is) in
    let all : min pool.total (pool.free + hand) ≡ pool.free + hand = min-eq_right within in
    record {
      total_is = h.total_is;
      free_are = rw (eq-eqb session session refl) (omega (arith, all, most, h.free_are, is));
    }

-- A give makes free what was in hand, which is held.
pub pool_gives : ((session : ℕ) (past : Past) → in_hand (turns session past) ≡ (budget_of session past).in_hand) → ((session : ℕ) (past : Past) → held (turns session past) ≡ (budget_of session past).held)
    → (past : Past) (session : ℕ) (pool : PoolCounts) (hand : ℕ) → PoolFollows past session pool → hand ≡ (budget_of session past).in_hand → PoolFollows (step.Give session ∷ past) session (given_back pool hand)
pool_gives in_hand_is held_is past session pool hand =
    let most : (budget_of session past).in_hand ≤ (budget_of session past).held = omega (arith, hand_held (turns session past), in_hand_is session past, held_is session past) in
    pool_given past session pool hand most

-- ---- other steps

pub pool_stays : (past : Past) (session : ℕ) (pool : PoolCounts) (step : Step) → changes_pool session step ≡ false → PoolFollows past session pool → PoolFollows (step ∷ past) session pool
pool_stays past session pool s off h =
    record {
      total_is = h.total_is ∙ ap (λ (c : Option Config). option_map_or (λ conf. conf.chunks) c 0) (sym (config_kept session past s off));
      free_are = omega (arith, h.free_are, held_stays session past s off);
    }
