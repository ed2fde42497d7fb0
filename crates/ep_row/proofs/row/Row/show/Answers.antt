use Rattle.std.proofs.Common.{◌≡◌, ◌∙◌, ◌+◌, ◌<◌, true, false, None, Some, ℕ, Option, length, refl, ap, sym, subst, arith}
use Rattle.std.specs.Prelude.{slice_set}
use Rattle.std.proofs.lemmas.List.{get_or-set_same, get_or_default}
use Rattle.std.specs.Int.{bit_at}
use Rattle.ep_row.specs.contracts.row.Row.{the_view}
use Rattle.ep_row.specs.declared.row.Opening.{Opening}
use Rattle.ep_row.specs.Row.{RowState, slot_of, opening_of, shown_once}
use Rattle.ep_row.specs.AtRest.{RowAtRest}
use Rattle.ep_row.proofs.Resting.{show-rests}
use Rattle.ep_row.proofs.Numbered.{shown-rests}
use Rattle.ep_defs.specs.declared.session.Config.{Config}
use Rattle.ep_defs.specs.declared.session.Write.{Write}
use Rattle.ep_model.specs.History.{admits_write, admitted_from}
use Rattle.ep_slot.specs.Slot.{SlotState}
use Rattle.std.specs.Option.{option_map_or}
use Rattle.ep_row.proofs.row.Row.show.Goals as goal

pub returns-clause-rest : goal.returns-clause-rest
returns-clause-rest g c events configs writes count rest =
    let row : RowState = the_view c.self.inside in
    let view = c.self.view_is in
    let slot = c.args.slot in
    let opening : Opening = opening_of c.args.buffer.now in
    let now : Opening = record opening { shown = opening.shown + 1 } in
    let small : slot < length row.slots = omega (arith, c.requires.within, c.self.invariant) in
    let on : slot_of row slot ≡ Some opening = ap (λ (r : RowState). slot_of r slot) view ∙ c.requires.open.0 in
    let found : c.index_mut.result.now ≡ Some opening =
    c.index_mut.ensures.value ∙ get_or_default row.slots slot c.index_mut.result.now None small ∙ on
    in
    let raised : c.raise.new.slot ≡ Some now = c.raise.ensures ∙ ap shown_once found in
    show-rests events configs writes row slot c.with_bit-self-inside.result _ opening now c.requires.within
    (subst (RowAtRest events configs writes) (sym view) rest)
    (ap (λ (r : RowState). bit_at r.due slot) view ∙ c.requires.due)
    on refl refl c.with_bit-self-inside.ensures
    (ap (λ (x : Option Opening). slice_set row.slots slot x) raised)
    (get_or-set_same row.slots slot c.raise.new.slot None small ∙ raised)

pub returns-clause-numbered : goal.returns-clause-numbered
returns-clause-numbered g c events configs writes more rest last numbered =
    let slot = c.args.slot in
    let buffer : SlotState = c.args.buffer.now in
    let config : Config = configs slot in
    let open' = rest.slots slot c.requires.within (opening_of buffer) c.requires.open.0 in
    let last_got = (rest.due slot c.requires.within c.requires.due).2 in
    let got : admits_write events (Some config) c.args.write.now ≡ true =
    sym (ap (λ (o : Option Write). option_map_or (λ write. admits_write events (Some config) write) o false) last) ∙ last_got
    in
    let count : buffer.used + 1 ≡ length (admitted_from events (Some config) buffer.from writes) =
    ap (λ (n : ℕ). buffer.used + n) (sym c.requires.due) ∙ open'.shown
    in
    let stamp : ℕ = c.self.inside.stamp in
    shown-rests _ events config writes more buffer c.show-shown.new.self stamp c.args.write.now c.show-shown.ensures.slot last got
    open'.from count numbered
