-- A session that is shown a write can take it: what is known of where the two are, and of what is there.
use Rattle.std.proofs.Common.{◌≡◌, ◌≤◌, ◌<◌, ℕ, length, None, Some, IsTrue, refl, ap, sym, ◌∙◌, subst}
use Rattle.std.specs.Prelude.{slice_get}
use Rattle.std.proofs.Props.{props}
use Rattle.std.proofs.Math.Logic.{∥∥₁_elim}
use Rattle.ep_defs.specs.declared.limits.TheConstants.{WRITES}
use Rattle.ep_defs.specs.declared.session.Write.{Write}
use Rattle.ep_defs.specs.Session.{fits}
use Rattle.ep_slot.specs.Slot.{SlotState}
use Rattle.ep_rows.specs.Rows.{told_of, definitions_of}
use Rattle.ep_tables.specs.declared.tables.Present.{Present}
use Rattle.ep_tables.specs.declared.tables.Tables.{Tables}
use Rattle.ep_tables.specs.Can.{HasPlace, HasRow, CanShowTo}
use Rattle.ep_tables.specs.Made.{CanTake, StandsAt}
use Rattle.std.proofs.lemmas.Option.{same_Some}

-- What is there can take the write.
record TakesAt (row : ℕ) (present : Present) (write : Write) (tables : Tables) (buffer : SlotState) : Type 0 where
  few : buffer.used < WRITES
  total : ((told_of tables.rows).pool present.slot).total ≡ buffer.chunks
  event : 0 < write.event
  events : write.event ≤ length (definitions_of tables.rows)
  fit : IsTrue (fits write)

TakesAt-prop : (row : ℕ) (present : Present) (write : Write) (tables : Tables) (buffer : SlotState) → IsProp (TakesAt row present write tables buffer)
TakesAt-prop row present write tables buffer = hlevel props

-- What can take a write is where the thread and the session are.
same_place : (session : ℕ) (tables : Tables) (a b : ℕ) (p q : Present) → StandsAt session tables a p → StandsAt session tables b q → p ≡ q
same_place session tables a b p q at other =
    let same : a ≡ b = same_Some a b (sym at.first ∙ other.first) in
    same_Some p q (sym at.there ∙ ap (slice_get tables.present.items) same ∙ other.there)

pub take_once : (thread session : ℕ) (write : Write) (tables : Tables) → HasPlace tables session (λ present. HasRow tables thread (CanShowTo present)) → ∥ CanTake thread session write tables ∥₁ → CanTake thread session write tables
take_once thread session write tables place can =
    let own = place.holds in
    let at : StandsAt session tables place.place place.present = record { first = place.first; there = place.there } in
    let same_row : (can : CanTake thread session write tables) → can.row ≡ own.row = λ can. same_Some can.row own.row (sym can.own ∙ own.own) in
    let same_present : (can : CanTake thread session write tables) → can.present ≡ place.present = λ can. same_place session tables can.place place.place can.present place.present can.stands at in
    let here : (can : CanTake thread session write tables) → (told_of tables.rows).slot own.row place.present.slot ≡ Some can.buffer =
    λ can. subst (λ (p : Present). (told_of tables.rows).slot own.row p.slot ≡ Some can.buffer) (same_present can)
    (subst (λ (r : ℕ). (told_of tables.rows).slot r can.present.slot ≡ Some can.buffer) (same_row can) can.slot_is) in
    let takes : (buffer : SlotState) → (told_of tables.rows).slot own.row place.present.slot ≡ Some buffer → (can : CanTake thread session write tables) → TakesAt own.row place.present write tables buffer =
    λ buffer is can.
    let same : can.buffer ≡ buffer = same_Some can.buffer buffer (sym (here can) ∙ is) in
    record {
      few = subst (λ (b : SlotState). b.used < WRITES) same can.few;
      total = subst (λ (p : Present). ((told_of tables.rows).pool p.slot).total ≡ buffer.chunks) (same_present can) (can.total ∙ ap (λ (b : SlotState). b.chunks) same);
      event = can.event;
      events = can.events;
      fit = can.fit;
    } in
    elim ((told_of tables.rows).slot own.row place.present.slot) as (λ told. (told_of tables.rows).slot own.row place.present.slot ≡ told → CanTake thread session write tables) [
      | None ↦ λ none. absurd (∥∥₁_elim can (hlevel) (λ can. let clash : None ≡ Some can.buffer = sym none ∙ here can in absurd (cc)))
      | Some buffer ↦ λ is.
          let all = ∥∥₁_elim can (TakesAt-prop own.row place.present write tables buffer) (takes buffer is) in
          record {
            row = own.row;
            own = own.own;
            place = place.place;
            present = place.present;
            stands = at;
            buffer = buffer;
            slot_is = is;
            few = all.few;
            total = all.total;
            event = all.event;
            events = all.events;
            fit = all.fit;
          }
    ] refl
