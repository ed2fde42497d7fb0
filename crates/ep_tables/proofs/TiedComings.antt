-- The first tables are tied, and tables stay so where a session comes or goes.
use Rattle.std.proofs.Common.{◌≡◌, ℕ, zero, suc, length, Bool, true, false, List, ◌∷◌, Option, None, Some, inl, inr, refl, ap, sym, ◌∙◌, subst, suc-le-suc, zero-le, if◌then◌else◌, arith, ◌<◌}
use Rattle.std.specs.Prelude.{◌==◌, ◌||◌, nat_le, option_map, replicate, slice_get}
use Rattle.std.specs.List.{remove, AllByRecursion}
use Rattle.std.specs.BTreeMap.{btree_map_len}
use Rattle.std.proofs.Math.ListN.{length-set}
use Rattle.std.proofs.lemmas.Bool.{eq-eqb, ne_eqb, or_parts, cases_eq, leb-true, leb-false}
use Rattle.ep_defs.specs.declared.limits.TheConstants.{THREADS}
use Rattle.ep_defs.specs.declared.session.Config.{Config}
use Rattle.ep_table.specs.Sessions.{Sessions, holds, is_held, held_count, accepted_by, after_accept, after_free}
use Rattle.ep_table.specs.declared.table.Accepted.TheVariants.{Seat as SeatAt}
use Rattle.ep_table.specs.declared.table.Seat.{Seat as TableSeat}
use Rattle.ep_slot.specs.Hand.{hand_of}
use Rattle.ep_row.specs.Row.{opening_of, slot_of}
use Rattle.ep_stream.specs.declared.session.Seat.{Seat}
use Rattle.ep_stream.specs.Rows.{IsRow, IsSame}
use Rattle.ep_stream.specs.Session.{Rest, rest_of, new_rest, hand_on, opened_count, fault_of}
use Rattle.ep_rows.specs.declared.opened.Open.{Open}
use Rattle.ep_rows.specs.declared.rows.Rows.{Rows}
use Rattle.ep_rows.specs.Rows.{told_of, definitions_of, expected_in, out_in, ClearsSlot}
use Rattle.ep_rows.specs.Told.{open_at, slot_in}
use Rattle.ep_rows.specs.Outside.{none_outside}
use Rattle.ep_tables.specs.declared.tables.Present.{Present}
use Rattle.ep_tables.specs.declared.tables.Tables.{Tables}
use Rattle.ep_tables.specs.Tables.{has_slot}
use Rattle.ep_tables.specs.Tied.{CanBeTold, IsTied, HaveOwnSlots, AreTied}
use Rattle.ep_tables.proofs.Items.{any-remove, length-remove}
use Rattle.ep_tables.proofs.Seats.{free_slot, accept_held, accept_count, accept_seats, slots_distinct, gone_slot, free_held, free_count}
use Rattle.ep_tables.proofs.PresentLists.{has_own, all_others, all_removed, own_removed}
use Rattle.ep_tables.proofs.Ties.{KeepsSlot, tied_stays, none_open}

-- ---- the first tables

pub none_held : (count slot : ℕ) → holds (slice_get (replicate {A = Option TableSeat} count None) slot) ≡ false
none_held zero slot = refl
none_held (suc count) zero = refl
none_held (suc count) (suc slot) = none_held count slot

-- ---- a slot that no session has

-- The rows know of the sessions in other slots what they did.
cleared_others : (old new : Rows) (slot : ℕ) → IsSame (told_of old).slot (told_of new).slot → ClearsSlot slot old new → (s : ℕ) → (s ≡ slot → ⊥) → KeepsSlot s old new
cleared_others old new slot same cleared s other =
    record {
      hands = λ r. ap (option_map hand_of) (same r s);
      configs = λ r. cleared.configs r s;
      out = cleared.out s ∙ ap (λ (b : Bool). if b then 0 else out_in old s) (ne_eqb s slot other);
    }

-- A session that is open on no row has nothing open on any.
pub nowhere_open : (set : Rows) (slot : ℕ) → ((r : ℕ) → IsRow THREADS r → slot_of ((told_of set).row r) slot ≡ None) → (r : ℕ) → (told_of set).slot r slot ≡ None
nowhere_open set slot nowhere zero = none_open ((told_of set).slot zero slot) (none_outside set zero slot (λ is. let below : 0 < 0 = is.0 in omega (arith, below)))
nowhere_open set slot nowhere (suc place) =
    elim (nat_le (suc place) THREADS) as (λ v. nat_le (suc place) THREADS ≡ v → (told_of set).slot (suc place) slot ≡ None) [
      | true ↦ λ is. unopened (open_at set.columns.items (suc place) slot)
          (sym (set.known (suc place) slot).on ∙ nowhere (suc place) (suc-le-suc zero-le, leb-true (suc place) THREADS is))
      | false ↦ λ is. none_open ((told_of set).slot (suc place) slot)
          (none_outside set (suc place) slot (λ row. let above = leb-false (suc place) THREADS is in let most = row.1 in omega (arith, above, most)))
    ]
    refl
  where
    unopened : (cell : Option Open) → option_map (λ (o : Open). opening_of o.slot) cell ≡ None → slot_in cell ≡ None
    unopened None none = refl
    unopened (Some one) none = absurd (cc)

-- ---- a session comes

-- A session that was just started knows of the rows what they know of it: nothing.
pub comer_tied : (old new : Rows) (now : Present) (seat : Seat) (config : Config) → rest_of now.session ≡ new_rest seat config → seat.slot ≡ now.slot → seat.id ≡ now.number
    → ((row : ℕ) → hand_on now.session row ≡ None) → opened_count now.session ≡ 0 → fault_of now.session ≡ None → btree_map_len now.opened ≡ 0
    → ((r : ℕ) → (told_of old).slot r now.slot ≡ None) → IsSame (told_of old).slot (told_of new).slot → ClearsSlot now.slot old new → IsTied new now
comer_tied old new now seat config rest slot id hands count sound len off same cleared =
    let slot_is : (rest_of now.session).seat.slot ≡ now.slot = ap (λ (r : Rest). r.seat.slot) rest ∙ slot in
    record {
      slot = slot_is;
      id = ap (λ (r : Rest). r.seat.id) rest ∙ id;
      rows_are = record {
        hands = λ row. ap (λ (s : ℕ). expected_in new row s) slot_is ∙ ap (option_map hand_of) (same row now.slot ∙ off row) ∙ sym (hands row);
        configs = λ row hand is. let clash : None ≡ Some hand = sym (hands row) ∙ is in absurd (cc);
        chunks = ap (λ (s : ℕ). out_in new s) slot_is ∙ cleared.out now.slot ∙ ap (λ (b : Bool). if b then 0 else out_in old now.slot) (eq-eqb now.slot now.slot refl) ∙ sym (ap (λ (r : Rest). r.in_hand) rest);
      };
      count = count ∙ sym len;
      ever = λ thread was. elim was [
        | inl (row, hand, is, _) ↦ absurd (let clash : None ≡ Some hand = sym (hands row) ∙ is in cc)
        | inr (place, mark, is, _) ↦ absurd (let clash : None ≡ Some mark = sym (ap (λ (r : Rest). slice_get r.marks place) rest) ∙ is in cc)
      ];
      sound = sound;
    }

pub accept_tied : (old new : Tables) (now : Present) (id : ℕ) → accepted_by old.table ≡ SeatAt now.slot id → new.table ≡ after_accept old.table → new.present.items ≡ now ∷ old.present.items
    → new.events.items ≡ old.events.items → definitions_of new.rows ≡ definitions_of old.rows → IsSame (told_of old.rows).slot (told_of new.rows).slot → ClearsSlot now.slot old.rows new.rows
    → IsTied new.rows now → AreTied old → AreTied new
accept_tied old new now id seat table present events known same cleared tied h =
    let unheld : has_slot now.slot old.present.items ≡ false = sym (h.held now.slot) ∙ free_slot old.table now.slot id seat in
    let keeps = cleared_others old.rows new.rows now.slot same cleared in
    record {
      known = known ∙ h.known ∙ sym events;
      can_be_told = subst CanBeTold (sym events) h.can_be_told;
      sessions = subst (AllByRecursion (IsTied new.rows)) (sym present)
          (tied, all_others (IsTied old.rows) (IsTied new.rows) now.slot old.present.items unheld (λ p other t. tied_stays old.rows new.rows p (keeps p.slot other) t) h.sessions);
      own_slots = subst HaveOwnSlots (sym present) (unheld, h.own_slots);
      held = λ s. ap (λ (t : Sessions). is_held t s) table ∙ accept_held old.table now.slot s id seat ∙ ap (λ (b : Bool). (now.slot == s) || b) (h.held s) ∙ sym (ap (has_slot s) present);
      count = ap held_count table ∙ accept_count old.table now.slot id seat ∙ ap suc h.count ∙ sym (ap length present);
      seats = ap (λ (t : Sessions). length t.seats) table ∙ accept_seats old.table now.slot id seat ∙ h.seats;
      off = λ r s absent. same r s ∙ h.off r s (or_parts (now.slot == s) (has_slot s old.present.items) (sym (ap (has_slot s) present) ∙ absent)).1;
    }

-- ---- a session goes

pub finish_tied : (old new : Tables) (place : ℕ) (was : Present) → slice_get old.present.items place ≡ Some was → new.table ≡ after_free old.table was.slot → new.present.items ≡ remove old.present.items place
    → new.events.items ≡ old.events.items → definitions_of new.rows ≡ definitions_of old.rows → IsSame (told_of old.rows).slot (told_of new.rows).slot → ClearsSlot was.slot old.rows new.rows
    → ((r : ℕ) → (told_of old.rows).slot r was.slot ≡ None) → AreTied old → AreTied new
finish_tied old new place was there table present events known same cleared nothing h =
    let rest : List Present = remove old.present.items place in
    let parts : (s : ℕ) → has_slot s old.present.items ≡ ((was.slot == s) || has_slot s rest) = λ s. any-remove (λ (p : Present). p.slot == s) old.present.items place was there in
    let gone = gone_slot was.slot place was old.present.items there refl (slots_distinct old.table old.present.items h.held h.count) in
    let keeps = cleared_others old.rows new.rows was.slot same cleared in
    record {
      known = known ∙ h.known ∙ sym events;
      can_be_told = subst CanBeTold (sym events) h.can_be_told;
      sessions = subst (AllByRecursion (IsTied new.rows)) (sym present)
          (all_removed (IsTied old.rows) (IsTied new.rows) old.present.items place was there h.own_slots (λ p other t. tied_stays old.rows new.rows p (keeps p.slot other) t) h.sessions);
      own_slots = subst HaveOwnSlots (sym present) (own_removed old.present.items place was there h.own_slots);
      held = λ s. ap (λ (t : Sessions). is_held t s) table ∙ free_held old.table was.slot s old.present.items rest h.held parts gone ∙ sym (ap (has_slot s) present);
      count = ap held_count table ∙ free_count old.table was.slot (length rest) (h.held was.slot ∙ has_own old.present.items place was there) (h.count ∙ length-remove old.present.items place was there) ∙ sym (ap length present);
      seats = ap (λ (t : Sessions). length t.seats) table ∙ length-set old.table.seats was.slot None ∙ h.seats;
      off = λ r s absent. same r s ∙ elim (cases_eq s was.slot) [
        | inl here ↦ subst (λ (n : ℕ). (told_of old.rows).slot r n ≡ None) (sym here) (nothing r)
        | inr other ↦ h.off r s (parts s ∙ ap (λ (b : Bool). b || has_slot s rest) (ne_eqb was.slot s (λ e. other (sym e))) ∙ sym (ap (has_slot s) present) ∙ absent)
      ];
    }
