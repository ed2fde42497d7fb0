-- What is at rest with some configurations is so with others that agree on the slots that are on, and over more writes.
use Rattle.std.proofs.Common.{◌≡◌, ℕ, ◌-◌, Bool, true, false, List, ◌++◌, Option, Some, refl, ap, sym, ◌∙◌, if◌then◌else◌, drop, get_or}
use Rattle.std.specs.Prelude.{◌&&◌, filter, is_some, slice_get, slice_index, ◌==◌}
use Rattle.std.specs.Int.{bit_at}
use Rattle.std.specs.Option.{ForSome}
use Rattle.std.proofs.lemmas.Bool.{eqb-true, false≢true}
use Rattle.std.proofs.lemmas.List.Elements.{filter-append}
use Rattle.ep_defs.specs.declared.event.EventDef.{EventDef}
use Rattle.ep_defs.specs.declared.session.Config.{Config}
use Rattle.ep_defs.specs.declared.session.Write.{Write}
use Rattle.ep_model.specs.History.{admits_write}
use Rattle.ep_chunk.specs.Record.{Record}
use Rattle.ep_slot.specs.Slot.{SlotState}
use Rattle.ep_row.specs.Bits.{one_if}
use Rattle.ep_row.specs.Row.{RowState, slot_of, gets}
use Rattle.ep_row.specs.declared.row.Opening.{Opening}
use Rattle.ep_row.specs.AtRest.{RowAtRest, SlotAtRest, OpenAtRest, gets_last, with_config, write_of}
use Rattle.ep_table.proofs.Places.{get-append}
use Rattle.ep_core_laws.proofs.RestLists.{drop-append}

-- ---- the configuration of a slot

-- The configuration of a slot is set to what it was.
pub same_configs : (configs : ℕ → Config) (slot : ℕ) (config : Config) → config ≡ configs slot → with_config configs slot config ≡ configs
same_configs configs slot config is =
    let each : (s : ℕ) → with_config configs slot config s ≡ configs s = λ s.
    elim (s == slot) as (λ v. (s == slot) ≡ v → (if v then config else configs s) ≡ configs s) [
      | true ↦ λ same. is ∙ ap configs (sym (eqb-true s slot same))
      | false ↦ λ _. refl
    ] refl in
    λ i. λ s. each s i

not_both : (b : Bool) (on : Bool) → b ≡ false → (b && on) ≡ b
not_both false on off = refl
not_both true on off = cc

-- Nothing is on in the slot, so a row that is at rest does not look at its configuration.
module _ (events : List EventDef) (configs : ℕ → Config) (slot : ℕ) (config : Config) (writes : List Write) (row : RowState) (off : is_some (slot_of row slot) ≡ false) where
  off_at : (s : ℕ) → (s == slot) ≡ true → is_some (slot_of row s) ≡ false
  off_at s same = ap (λ n. is_some (slot_of row n)) (eqb-true s slot same) ∙ off

  none_for : (P : Opening → Type 0) (cell : Option Opening) → is_some cell ≡ false → ForSome cell P
  none_for P cell none = λ opening is. absurd (false≢true (sym none ∙ ap is_some is))

  pub row_rests_with : RowAtRest events configs writes row → RowAtRest events (with_config configs slot config) writes row
  row_rests_with rest =
      record {
        index = rest.index;
        few = rest.few;
        masks = λ place s within less.
            elim (s == slot) as (λ v. (s == slot) ≡ v → bit_at (slice_index row.masks place) s ≡ one_if (is_some (slot_of row s) && gets events (if v then config else configs s) place)) [
              | true ↦ λ same.
                  rest.masks place s within less
                  ∙ ap one_if (not_both (is_some (slot_of row s)) (gets events (configs s) place) (off_at s same) ∙ sym (not_both (is_some (slot_of row s)) (gets events config place) (off_at s same)))
              | false ↦ λ _. rest.masks place s within less
            ] refl;
        due = λ s less one.
            let was = rest.due s less one in
            elim (s == slot) as (λ v. (s == slot) ≡ v → (row.in_write ≡ true) × (is_some (slot_of row s) ≡ true) × (gets_last events (if v then config else configs s) writes ≡ true)) [
              | true ↦ λ same. absurd (false≢true (sym (off_at s same) ∙ was.1))
              | false ↦ λ _. was
            ] refl;
        slots = λ s less.
            elim (s == slot) as (λ v. (s == slot) ≡ v → ForSome (slot_of row s) (λ opening. OpenAtRest events (if v then config else configs s) writes (bit_at row.due s) opening)) [
              | true ↦ λ same. none_for (λ opening. OpenAtRest events config writes (bit_at row.due s) opening) (slot_of row s) (off_at s same)
              | false ↦ λ _. rest.slots s less
            ] refl;
        left = rest.left;
      }

-- ---- more writes

-- A slot that is at rest stays so when its thread writes more.
pub slot_rests_more : (events : List EventDef) (config : Config) (writes more : List Write) (slot : SlotState) → SlotAtRest events config writes slot → SlotAtRest events config (writes ++ more) slot
slot_rests_more events config writes more slot rest = λ k d within.
    let p : Write → Bool = λ w. admits_write events (Some config) w in
    let behind = drop-append slot.from writes more in
    let all : filter p (drop slot.from (writes ++ more)) ≡ filter p (drop slot.from writes) ++ filter p behind.0 = ap (filter p) behind.1 ∙ filter-append p (drop slot.from writes) behind.0 in
    let r : Record = get_or slot.records k d in
    ap (λ ws. slice_get ws (r.number - 1)) all ∙ get-append (filter p (drop slot.from writes)) (filter p behind.0) (r.number - 1) (write_of r) (rest k d within)
