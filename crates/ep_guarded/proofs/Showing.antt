-- What is open in a buffer, once the row's write was shown to it.
use Rattle.std.proofs.Common.{◌≡◌, ℕ, ◌+◌, ◌<◌, ◌≤◌, Bool, true, false, List, Some, refl, ap, sym, ◌∙◌, subst, arith}
use Rattle.std.specs.Prelude.{◌^◌, if◌then◌else◌, IsTrue, slice_set}
use Rattle.std.specs.List.{All}
use Rattle.std.proofs.lemmas.List.Elements.{All-push}
use Rattle.ep_defs.specs.declared.event.EventDef.{EventDef}
use Rattle.ep_defs.specs.declared.session.Write.{Write}
use Rattle.ep_defs.specs.Session.{fits}
use Rattle.ep_model.specs.Budget.{Pending, needs_chunk, chunks_begun, record_size}
use Rattle.ep_pool.specs.Shared.{SeatState}
use Rattle.ep_slot.specs.declared.shown.Shown.{Shown}
use Rattle.ep_slot.specs.Asked.{IsAsked}
use Rattle.ep_slot.specs.Slot.{SlotState, recorded, shown_slot, number_of, is_refused}
use Rattle.ep_defs.specs.declared.session.Config.{Config}
use Rattle.ep_slot.specs.Hand.{HandState, hand_of}
use Rattle.ep_row.specs.Bits.{ClearsBit, one_if}
use Rattle.ep_row.specs.declared.row.Opening.{Opening}
use Rattle.ep_row.specs.Row.{RowState, opening_of, slot_of}
use Rattle.ep_row.specs.AtRest.{SlotAtRest, KeepsRest, KeepsSlotRest, write_of}
use Rattle.ep_guarded.specs.declared.agreed.Agreed.TheVariants as agreed
use Rattle.ep_guarded.proofs.Rows.{due-few, slot-shown}
use Rattle.ep_guarded.specs.declared.agreed.Told.{Told}
use Rattle.ep_guarded.specs.declared.kept.Kept.{Kept}
use Rattle.ep_guarded.specs.Resting.{KeptRests, state_of}
use Rattle.ep_guarded.specs.Tied.{IsAnswered}
use Rattle.std.proofs.lemmas.Bool.{true≢false}
use Rattle.ep_guarded.specs.Calls.{raised, IsDueFor, IsShown}

-- How many chunks the write took.
abbrev pub chunks_for : Bool → SlotState → Write → ℕ
chunks_for refused slot write = if refused then 0 else chunks_begun slot.pending (record_size write)

-- The hand stays.
pub hand-shown : (refused : Bool) (slot : SlotState) (stamp : ℕ) (write : Write) → hand_of (shown_slot refused slot stamp write) ≡ hand_of slot
hand-shown true slot stamp write = refl
hand-shown false slot stamp write = refl

pub opening-shown : (refused : Bool) (slot : SlotState) (told : Told) (stamp : ℕ) (write : Write) → told.opening ≡ opening_of slot → (raised told).opening ≡ opening_of (shown_slot refused slot stamp write)
opening-shown true slot told stamp write is = cc
opening-shown false slot told stamp write is = cc

thread-shown : (refused : Bool) (slot : SlotState) (stamp : ℕ) (write : Write) → (shown_slot refused slot stamp write).thread ≡ slot.thread
thread-shown true slot stamp write = refl
thread-shown false slot stamp write = refl

budget-shown : (refused : Bool) (slot : SlotState) (stamp : ℕ) (write : Write) → (shown_slot refused slot stamp write).chunks ≡ slot.chunks
budget-shown true slot stamp write = refl
budget-shown false slot stamp write = refl

used-shown : (refused : Bool) (slot : SlotState) (stamp : ℕ) (write : Write) → (shown_slot refused slot stamp write).used ≡ slot.used + 1
used-shown true slot stamp write = refl
used-shown false slot stamp write = refl

refused-shown : (refused : Bool) (slot : SlotState) (stamp : ℕ) (write : Write) → (shown_slot refused slot stamp write).refused ≡ slot.refused + one_if refused
refused-shown true slot stamp write = refl
refused-shown false slot stamp write = omega arith

fit-shown : (refused : Bool) (slot : SlotState) (stamp : ℕ) (write : Write) → IsTrue (fits write) → All (λ r. IsTrue (fits (write_of r))) slot.records → All (λ r. IsTrue (fits (write_of r))) (shown_slot refused slot stamp write).records
fit-shown true slot stamp write fit all = all
fit-shown false slot stamp write fit all = All-push (λ r. IsTrue (fits (write_of r))) slot.records (recorded slot stamp write) all fit

-- What is pending once a record of this size is, which needs a chunk or not.
abbrev pending_if : Bool → Pending → ℕ → Pending
pending_if needs pending size =
    if needs
    then record { chunks = pending.chunks + 1; used = size }
    else record { chunks = pending.chunks; used = pending.used + size }

-- How many chunks are pending.
chunks-shown : (refused : Bool) (slot : SlotState) (stamp : ℕ) (write : Write) → (shown_slot refused slot stamp write).stolen + (shown_slot refused slot stamp write).pending.chunks ≡ slot.stolen + slot.pending.chunks + chunks_for refused slot write
chunks-shown true slot stamp write = omega arith
chunks-shown false slot stamp write = by_need (needs_chunk slot.pending (record_size write)) slot.stolen slot.pending (record_size write)
  where
    by_need : (needs : Bool) (stolen : ℕ) (pending : Pending) (size : ℕ) → stolen + (pending_if needs pending size).chunks ≡ stolen + pending.chunks + (if needs then 1 else 0)
    by_need true stolen pending size = omega arith
    by_need false stolen pending size = omega arith

chunks-most : (refused : Bool) (slot : SlotState) (write : Write) → chunks_for refused slot write ≤ 1
chunks-most true slot write = omega arith
chunks-most false slot write =
    elim (needs_chunk slot.pending (record_size write)) as (λ v. (if v then 1 else 0) ≤ 1) [ true ↦ omega arith | false ↦ omega arith ]

-- What a seat has after a write was shown.
abbrev pub seat_after : Bool → SlotState → Write → SeatState → SeatState
seat_after refused slot write seat = record seat { taken = seat.taken + chunks_for refused slot write; dry = seat.dry + one_if refused }

-- A purse over a seat that was asked for a chunk where one was needed.
pub seat-asked : {P : Type 0} (seat : P → SeatState) (got dry : P → P → Type 0) (slot : SlotState) (write : Write) (refused : Bool) (old new : P) → ((a b : P) → got a b → seat b ≡ record (seat a) { taken = (seat a).taken + 1 }) → ((a b : P) → dry a b → seat b ≡ record (seat a) { dry = (seat a).dry + 1 }) → IsAsked got dry (needs_chunk slot.pending (record_size write)) refused old new → seat new ≡ seat_after refused slot write (seat old)
seat-asked {P = P} seat got dry slot write refused old new gives dries = by_need (needs_chunk slot.pending (record_size write)) refused
  where
    same_taken : (s : SeatState) (n : ℕ) → record s { dry = s.dry + n } ≡ record s { taken = s.taken + 0; dry = s.dry + n }
    same_taken s n = ap (λ (k : ℕ). record s { taken = k; dry = s.dry + n }) (omega arith)

    same_dry : (s : SeatState) (n : ℕ) → record s { taken = s.taken + n } ≡ record s { taken = s.taken + n; dry = s.dry + 0 }
    same_dry s n = ap (λ (k : ℕ). record s { taken = s.taken + n; dry = k }) (omega arith)

    same_both : (s : SeatState) → s ≡ record s { taken = s.taken + 0; dry = s.dry + 0 }
    same_both s = ap (λ (k : ℕ). record s { taken = k }) (omega arith) ∙ same_dry s 0

    by_need : (needs refused : Bool) → IsAsked got dry needs refused old new → seat new ≡ record (seat old) { taken = (seat old).taken + (if refused then 0 else if needs then 1 else 0); dry = (seat old).dry + one_if refused }
    by_need true true h = dries old new h ∙ same_taken (seat old) 1
    by_need true false h = gives old new h ∙ same_dry (seat old) 1
    by_need false true h = absurd (true≢false h.0)
    by_need false false h = ap seat h.1 ∙ same_both (seat old)

pub kept-shown : (refused : Bool) (events : List EventDef) (writes : ℕ → List Write) (kept : Kept) (stamp : ℕ) (write : Write) → KeptRests events writes kept → IsTrue (fits write) → kept.slot.used < 4000000000 → SlotAtRest events kept.told.grant.now.config (writes kept.slot.thread) (shown_slot refused kept.slot stamp write) → KeptRests events writes (record { slot = shown_slot refused kept.slot stamp write; seat = seat_after refused kept.slot write kept.seat; told = raised kept.told })
kept-shown refused events writes kept stamp write rests fit few numbered =
    let slot = kept.slot in
    let chunks = chunks-shown refused slot stamp write in
    let most = chunks-most refused slot write in
    let used = used-shown refused slot stamp write in
    record {
      opening = opening-shown refused slot kept.told stamp write rests.opening;
      thread = rests.thread ∙ sym (thread-shown refused slot stamp write);
      budget = budget-shown refused slot stamp write ∙ rests.budget;
      numbered = subst (λ (t : ℕ). SlotAtRest events kept.told.grant.now.config (writes t) (shown_slot refused slot stamp write)) (sym (thread-shown refused slot stamp write)) numbered;
      fit = fit-shown refused slot stamp write fit rests.fit;
      seat_is = rests.seat_is;
      share = rests.share;
      given = rests.given;
      dry = ap (λ (n : ℕ). n + one_if refused) rests.dry ∙ sym (refused-shown refused slot stamp write);
      taken = ap (λ (n : ℕ). n + chunks_for refused slot write) rests.taken ∙ sym chunks;
      chunks = omega (arith, rests.chunks);
      few = omega arith;
    }

-- What became of the write.
is-answered : (stamp : ℕ) (write : Write) (shown : Shown) (kept : Kept) (slot : SlotState) (seat : SeatState) → number_of shown ≡ kept.slot.used + 1 → (IsTrue (is_refused shown) → IsTrue (needs_chunk kept.slot.pending (record_size write))) → slot ≡ shown_slot (is_refused shown) kept.slot stamp write → seat ≡ seat_after (is_refused shown) kept.slot write kept.seat → IsAnswered stamp write shown (state_of kept) (record { slot = slot; seat = seat })
is-answered stamp write shown kept slot seat number needs is seat_is =
    let dry : seat.dry ≡ kept.seat.dry + one_if (is_refused shown) = ap (λ (s : SeatState). s.dry) seat_is in
    record {
      number = number;
      refused = (λ yes. (needs yes, dry ∙ ap (λ (b : Bool). kept.seat.dry + one_if b) yes), λ both. rose (is_refused shown) (sym dry ∙ both.1));
      slot = is;
      seat = seat_is ∙ ap (λ (n : ℕ). record kept.seat { taken = n; dry = kept.seat.dry + one_if (is_refused shown) }) (sym (ap (λ (s : SeatState). s.taken) seat_is));
    }
  where
    rose : (b : Bool) → kept.seat.dry + one_if b ≡ kept.seat.dry + 1 → IsTrue b
    rose true e = refl
    rose false e = absurd (omega (arith, e))

-- All that a show makes.
pub is-shown : (answer : Shown) (events : List EventDef) (writes : ℕ → List Write) (slot : ℕ) (write : Write) (kept : Kept) (row new_row : RowState) (shown : SlotState) (seat : SeatState) → KeptRests events writes kept → IsDueFor events (writes row.thread) slot write row kept.told → slot < 64 → IsTrue (fits write) → number_of answer ≡ kept.slot.used + 1 → (IsTrue (is_refused answer) → IsTrue (needs_chunk kept.slot.pending (record_size write))) → shown ≡ shown_slot (is_refused answer) kept.slot row.stamp write → seat ≡ seat_after (is_refused answer) kept.slot write kept.seat → KeepsSlotRest row slot write kept.slot shown → ClearsBit slot row.due new_row.due → new_row.due < 2 ^ 64 → new_row.slots ≡ slice_set row.slots slot (Some (opening_of shown)) → slot_of new_row slot ≡ Some (opening_of shown) → new_row ≡ record row { due = new_row.due; slots = new_row.slots } → KeepsRest row new_row → IsShown events writes slot write answer row new_row kept (record { slot = shown; seat = seat; told = raised kept.told })
is-shown answer events writes slot write kept row new_row shown seat rests due within fit number needs is seat_is keeps clears bounded slots known others rest =
    let refused : Bool = is_refused answer in
    let d = due.due in
    let threads : row.thread ≡ kept.slot.thread = sym due.thread ∙ rests.thread in
    let shown_few = due-few events d.configs (writes row.thread) row slot kept.told.opening d.over within d.due due.known in
    let used : kept.told.opening.shown ≡ kept.slot.used = ap (λ (o : Opening). o.shown) rests.opening in
    let few : kept.slot.used < 4000000000 = omega arith in
    let before : SlotAtRest events (d.configs slot) (writes row.thread) kept.slot =
    subst (λ (c : Config). SlotAtRest events c (writes row.thread) kept.slot) (sym d.config_is)
    (subst (λ (t : ℕ). SlotAtRest events kept.told.grant.now.config (writes t) kept.slot) (sym threads) rests.numbered)
    in
    let after : SlotAtRest events (d.configs slot) (writes row.thread) shown =
    slot-shown events d.configs (writes row.thread) row slot write kept.slot shown keeps d.over d.begun d.last before
    in
    let numbered : SlotAtRest events kept.told.grant.now.config (writes kept.slot.thread) shown =
    subst (λ (t : ℕ). SlotAtRest events kept.told.grant.now.config (writes t) shown) threads
    (subst (λ (c : Config). SlotAtRest events c (writes row.thread) shown) d.config_is after)
    in
    let opening : (raised kept.told).opening ≡ opening_of shown =
    opening-shown refused kept.slot kept.told row.stamp write rests.opening ∙ ap opening_of (sym is)
    in
    record {
      told = refl;
      held = ap (λ (h : HandState). agreed.Held (record { numbers = h; grant = kept.told.grant })) (ap hand_of is ∙ hand-shown refused kept.slot row.stamp write);
      rests =
          subst (λ (s : SeatState). KeptRests events writes (record { slot = shown; seat = s; told = raised kept.told })) (sym seat_is)
          (subst (λ (s : SlotState). KeptRests events writes (record { slot = s; seat = seat_after refused kept.slot write kept.seat; told = raised kept.told })) (sym is)
          (kept-shown refused events writes kept row.stamp write rests fit few
          (subst (SlotAtRest events kept.told.grant.now.config (writes kept.slot.thread)) is numbered)));
      row_is =
          record {
            due = clears;
            bounded = bounded;
            slots = slots ∙ ap (λ (o : Opening). slice_set row.slots slot (Some o)) (sym opening);
            known = known ∙ ap (λ (o : Opening). Some o) (sym opening);
            others = others;
            rest = rest;
          };
      answers =
          record {
            knew = due.known ∙ ap (λ (o : Opening). Some o) rests.opening;
            answered = is-answered row.stamp write answer kept shown seat number needs is seat_is;
            knows = slots;
          };
    }
