-- Rows at rest over all writes of their threads.
use Rattle.std.proofs.Common.{◌≡◌, ℕ, ◌-◌, ◌<◌, ◌≤◌, List, length, take, drop, Some, refl, ap, sym, ◌∙◌, subst, arith, get_or, length-drop}
use Rattle.std.specs.Prelude.{slice_get}
use Rattle.std.specs.Int.{bit_at}
use Rattle.std.proofs.lemmas.List.{take-append-drop, get_or-take, length-take}
use Rattle.std.proofs.lemmas.Option.{slice_get_within, slice_get_read, get_or_from_slice_get}
use Rattle.ep_defs.specs.declared.event.EventDef.{EventDef}
use Rattle.ep_defs.specs.declared.session.Config.{Config}
use Rattle.ep_defs.specs.declared.session.Write.{Write}
use Rattle.ep_model.specs.History.{admits_write, admitted_from}
use Rattle.ep_model.proofs.Admitted.{filter-shorter}
use Rattle.ep_slot.specs.Slot.{SlotState}
use Rattle.ep_row.specs.declared.row.Opening.{Opening}
use Rattle.ep_row.specs.Row.{RowState, slot_of}
use Rattle.ep_row.specs.AtRest.{SlotAtRest, KeepsSlotRest}
use Rattle.ep_guarded.specs.Resting.{RowOver}

-- No more writes are admitted than there are.
pub admitted-few : (events : List EventDef) (config : Config) (from : ℕ) (writes : List Write) → length (admitted_from events (Some config) from writes) ≤ length writes
admitted-few events config from writes =
    let less = filter-shorter (λ write. admits_write events (Some config) write) (drop from writes) in
    omega (arith, length-drop from writes)

-- A slot that is due has a number left.
pub due-few : (events : List EventDef) (configs : ℕ → Config) (writes : List Write) (row : RowState) (slot : ℕ) (opening : Opening) → RowOver events configs writes row → slot < 64 → bit_at row.due slot ≡ 1 → slot_of row slot ≡ Some opening → opening.shown < 4000000000
due-few events configs writes row slot opening over within due is =
    let open' = over.rest.slots slot within opening is in
    let few = admitted-few events (configs slot) opening.from (take row.index writes) in
    let shown = open'.shown in
    let index = over.rest.index in
    let most = over.rest.few in
    omega arith

-- One of the first writes.
pub early : (writes : List Write) (n k : ℕ) (write : Write) → k < n → slice_get writes k ≡ Some write → slice_get (take n writes) k ≡ Some write
early writes n k write before is =
    let within = slice_get_within writes k write is in
    let read : get_or (take n writes) k write ≡ write = get_or-take n writes k write before ∙ get_or_from_slice_get writes k write write is in
    slice_get_read (take n writes) (length (take n writes)) k write refl (omega (arith, length-take n writes)) (sym read)

-- The last of the first writes.
last-of : (writes : List Write) (n : ℕ) (write : Write) → 0 < n → n ≡ length (take n writes) → slice_get writes (n - 1) ≡ Some write → slice_get (take n writes) (length (take n writes) - 1) ≡ Some write
last-of writes n write some count is =
    ap (λ (k : ℕ). slice_get (take n writes) (k - 1)) (sym count) ∙ early writes n (n - 1) write (omega arith) is

-- A slot to which the last write was shown stays at rest over all writes.
pub slot-shown : (events : List EventDef) (configs : ℕ → Config) (writes : List Write) (row : RowState) (slot : ℕ) (write : Write) (old new : SlotState) → KeepsSlotRest row slot write old new → RowOver events configs writes row → 0 < row.index → slice_get writes (row.index - 1) ≡ Some write → SlotAtRest events (configs slot) writes old → SlotAtRest events (configs slot) writes new
slot-shown events configs writes row slot write old new keeps over begun last rests =
    let whole = take-append-drop row.index writes in
    subst (λ (ws : List Write). SlotAtRest events (configs slot) ws new) whole
    (keeps events configs (take row.index writes) (drop row.index writes) over.rest (last-of writes row.index write begun over.rest.index last)
    (subst (λ (ws : List Write). SlotAtRest events (configs slot) ws old) (sym whole) rests))
