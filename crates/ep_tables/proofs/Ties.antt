-- Sessions and rows that know of each other still do after a step.
use Rattle.std.proofs.Common.{◌≡◌, ℕ, Bool, true, false, List, [], ◌∷◌, length, Option, None, Some, refl, ap, sym, ◌∙◌, subst}
use Rattle.std.specs.Prelude.{◌==◌, ◌&&◌, if◌then◌else◌, option_map, slice_get, slice_set}
use Rattle.std.specs.List.{AllByRecursion}
use Rattle.std.proofs.Math.ListN.{length-set}
use Rattle.std.proofs.lemmas.Bool.{eqb-true}
use Rattle.ep_table.specs.Sessions.{Sessions, is_held, held_count}
use Rattle.ep_slot.specs.Slot.{SlotState}
use Rattle.ep_slot.specs.Hand.{HandState, hand_of}
use Rattle.ep_stream.specs.Rows.{IsSetAt, IsSame, KeepsSlots}
use Rattle.ep_rows.specs.declared.rows.Rows.{Rows}
use Rattle.ep_rows.specs.Rows.{told_of, definitions_of, configured_in, expected_in, out_in, KeepsOpen}
use Rattle.ep_rows.specs.Shows.{shown_slot}
use Rattle.ep_tables.specs.declared.tables.Present.{Present}
use Rattle.ep_tables.specs.declared.tables.Tables.{Tables}
use Rattle.ep_tables.specs.Tables.{has_slot}
use Rattle.ep_tables.specs.Tied.{CanBeTold, IsTied, HaveOwnSlots, AreTied}
use Rattle.ep_tables.proofs.PresentLists.{all_set, has_set, own_set, has_own}

-- What the rows know of the session in a slot stays.
pub record KeepsSlot (slot : ℕ) (old new : Rows) : Type 0 where
  pub hands : (r : ℕ) → expected_in new r slot ≡ expected_in old r slot
  pub configs : (r : ℕ) → configured_in new r slot ≡ configured_in old r slot
  pub out : out_in new slot ≡ out_in old slot

pub tied_stays : (old new : Rows) (p : Present) → KeepsSlot p.slot old new → IsTied old p → IsTied new p
tied_stays old new p k h =
    record {
      slot = h.slot;
      id = h.id;
      rows_are = record {
        hands = λ row. subst (λ (s : ℕ). expected_in new row s ≡ expected_in old row s) (sym h.slot) (k.hands row) ∙ h.rows_are.hands row;
        configs = λ row hand is. subst (λ (s : ℕ). configured_in new row s ≡ configured_in old row s) (sym h.slot) (k.configs row) ∙ h.rows_are.configs row hand is;
        chunks = subst (λ (s : ℕ). out_in new s ≡ out_in old s) (sym h.slot) k.out ∙ h.rows_are.chunks;
      };
      count = h.count;
      ever = h.ever;
      sound = h.sound;
    }

all_tied : (old new : Rows) (ps : List Present) → ((slot : ℕ) → KeepsSlot slot old new) → AllByRecursion (IsTied old) ps → AllByRecursion (IsTied new) ps
all_tied old new [] keeps all = tt
all_tied old new (p ∷ ps) keeps all = (tied_stays old new p (keeps p.slot) all.0, all_tied old new ps keeps all.1)

-- Nothing is open where no hand is expected.
pub none_open : (cell : Option SlotState) → option_map hand_of cell ≡ None → cell ≡ None
none_open None none = refl
none_open (Some slot) none = absurd (cc)

pub off_stays : (old new : Rows) (row slot : ℕ) → KeepsSlot slot old new → (told_of old).slot row slot ≡ None → (told_of new).slot row slot ≡ None
off_stays old new row slot keeps off = none_open ((told_of new).slot row slot) (keeps.hands row ∙ ap (option_map hand_of) off)

-- ---- steps of threads

-- The sessions stay, and the rows know of them what they did.
pub stays_tied : (old new : Tables) → new.events.items ≡ old.events.items → new.present.items ≡ old.present.items → new.table ≡ old.table → definitions_of new.rows ≡ definitions_of old.rows
    → ((slot : ℕ) → KeepsSlot slot old.rows new.rows) → AreTied old → AreTied new
stays_tied old new events present table known keeps h =
    record {
      known = known ∙ h.known ∙ sym events;
      can_be_told = subst CanBeTold (sym events) h.can_be_told;
      sessions = subst (AllByRecursion (IsTied new.rows)) (sym present) (all_tied old.rows new.rows old.present.items keeps h.sessions);
      own_slots = subst HaveOwnSlots (sym present) h.own_slots;
      held = λ slot. ap (λ (t : Sessions). is_held t slot) table ∙ h.held slot ∙ ap (has_slot slot) (sym present);
      count = ap held_count table ∙ h.count ∙ ap length (sym present);
      seats = ap (λ (t : Sessions). length t.seats) table ∙ h.seats;
      off = λ r s absent. off_stays old.rows new.rows r s (keeps s) (h.off r s (ap (has_slot s) (sym present) ∙ absent));
    }

-- Calls of threads that leave all slots as they were.
pub keeps_told : (old new : Rows) → IsSame (told_of old).slot (told_of new).slot → KeepsOpen old new → (slot : ℕ) → KeepsSlot slot old new
keeps_told old new same keeps slot =
    record { hands = λ r. ap (option_map hand_of) (same r slot); configs = λ r. keeps.configs r slot; out = keeps.out slot }

-- A write that is shown is none of the hand's numbers.
hand_shown : (refused : Bool) (buffer : SlotState) (stamp : ℕ) (write : _) → hand_of (shown_slot refused buffer stamp write) ≡ hand_of buffer
hand_shown true buffer stamp write = refl
hand_shown false buffer stamp write = refl

-- A value that a function does not tell apart from the one before.
pub set_kept : {A B : Type 0} (f : A → B) (row slot : ℕ) (value : A) (old new : ℕ → ℕ → A) → IsSetAt row slot value old new → f value ≡ f (old row slot) → (r s : ℕ) → f (new r s) ≡ f (old r s)
set_kept f row slot value old new set same r s =
    elim (r == row) as (λ v. (r == row) ≡ v → new r s ≡ (if v && (s == slot) then value else old r s) → f (new r s) ≡ f (old r s)) [
      | true ↦ λ here is. elim (s == slot) as (λ v. (s == slot) ≡ v → new r s ≡ (if v then value else old r s) → f (new r s) ≡ f (old r s)) [
        | true ↦ λ too is. ap f is ∙ same ∙ ap (λ (n : ℕ). f (old n slot)) (sym (eqb-true r row here)) ∙ ap (λ (n : ℕ). f (old r n)) (sym (eqb-true s slot too))
        | false ↦ λ _ is. ap f is
      ] refl is
      | false ↦ λ _ is. ap f is
    ]
    refl (set r s)

pub keeps_shown : (old new : Rows) (row slot : ℕ) (refused : Bool) (buffer : SlotState) (stamp : ℕ) (write : _) → (told_of old).slot row slot ≡ Some buffer
    → IsSetAt row slot (Some (shown_slot refused buffer stamp write)) (told_of old).slot (told_of new).slot → KeepsOpen old new → (s : ℕ) → KeepsSlot s old new
keeps_shown old new row slot refused buffer stamp write was set keeps s =
    record {
      hands = λ r. set_kept (option_map hand_of) row slot (Some (shown_slot refused buffer stamp write)) (told_of old).slot (told_of new).slot set
          (ap (λ (h : HandState). Some h) (hand_shown refused buffer stamp write) ∙ ap (option_map hand_of) (sym was)) r s;
      configs = λ r. keeps.configs r s;
      out = keeps.out s;
    }

-- ---- steps of a session

-- A session's call leaves the other slots as they were.
pub keeps_others : (old new : Rows) (slot : ℕ) → KeepsSlots expected_in configured_in out_in slot old new → (s : ℕ) → (s ≡ slot → ⊥) → KeepsSlot s old new
keeps_others old new slot keeps s other =
    record { hands = λ r. keeps.hands r s other; configs = λ r. keeps.configs r s other; out = keeps.chunks s other }

-- One session changes, and the rows know of the others what they did.
pub turn_tied : (old new : Tables) (place : ℕ) (was now : Present) → slice_get old.present.items place ≡ Some was → new.present.items ≡ slice_set old.present.items place now → now.slot ≡ was.slot
    → new.events.items ≡ old.events.items → new.table ≡ old.table → definitions_of new.rows ≡ definitions_of old.rows
    → ((s : ℕ) → (s ≡ was.slot → ⊥) → KeepsSlot s old.rows new.rows) → IsTied new.rows now → AreTied old → AreTied new
turn_tied old new place was now there present same events table known keeps tied h =
    let slots : (s : ℕ) → has_slot s new.present.items ≡ has_slot s old.present.items = λ s. ap (has_slot s) present ∙ has_set old.present.items place was now there same s in
    record {
      known = known ∙ h.known ∙ sym events;
      can_be_told = subst CanBeTold (sym events) h.can_be_told;
      sessions = subst (AllByRecursion (IsTied new.rows)) (sym present)
          (all_set (IsTied old.rows) (IsTied new.rows) old.present.items place was now there h.own_slots (λ p other t. tied_stays old.rows new.rows p (keeps p.slot other) t) tied h.sessions);
      own_slots = subst HaveOwnSlots (sym present) (own_set old.present.items place was now there same h.own_slots);
      held = λ slot. ap (λ (t : Sessions). is_held t slot) table ∙ h.held slot ∙ sym (slots slot);
      count = ap held_count table ∙ h.count ∙ sym (ap length present ∙ length-set old.present.items place now);
      seats = ap (λ (t : Sessions). length t.seats) table ∙ h.seats;
      off = λ r s absent. off_stays old.rows new.rows r s
          (keeps s (λ e. let some : has_slot s old.present.items ≡ true = subst (λ (n : ℕ). has_slot n old.present.items ≡ true) (sym e) (has_own old.present.items place was there) in let clash : true ≡ false = sym some ∙ sym (slots s) ∙ absent in cc))
          (h.off r s (sym (slots s) ∙ absent));
    }
