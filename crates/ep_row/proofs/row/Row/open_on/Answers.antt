use Rattle.std.proofs.Common.{◌≡◌, ◌∙◌, ◌<◌, None, Some, ℕ, List, length, refl, ap, sym, subst, arith}
use Rattle.std.proofs.lemmas.List.{with_items_is, get_or-set_same}
use Rattle.ep_row.specs.contracts.row.Row.{the_view}
use Rattle.ep_row.specs.declared.row.Opening.{Opening}
use Rattle.ep_row.specs.Bits.{SetsBits}
use Rattle.ep_row.specs.Row.{RowState, gets}
use Rattle.ep_row.specs.AtRest.{RowAtRest}
use Rattle.ep_row.proofs.Resting.{open-rests}
use Rattle.ep_row.proofs.row.Row.open_on.Goals as goal

pub returns-clause-rest : goal.returns-clause-rest
returns-clause-rest c configs writes rest =
    let row : RowState = the_view c.self.inside in
    let view = c.self.view_is in
    let opening : Opening = record { session = c.args.session; from = c.self.inside.index; chunks = c.args.config.now.chunks; shown = 0 } in
    let now : List ℕ = c.set_masks.new.masks in
    let len : length now ≡ c.self.inside.masks.len = omega (arith, c.set_masks.ensures.count, ap (length {A = ℕ}) c.as_mut_slice.ensures.value) in
    let masks = with_items_is c.self.inside.masks now len in
    let small : c.args.slot < length row.slots = omega (arith, c.requires.within, c.self.invariant) in
    open-rests c.args.events.now configs writes row c.args.slot c.args.config.now _ _ opening c.requires.within
    (c.requires.events ∙ sym (ap (λ (r : RowState). length r.masks) view))
    (subst (RowAtRest c.args.events.now configs writes) (sym view) rest) (ap (λ (r : RowState). r.in_write) view ∙ c.requires.quiet)
    refl refl
    (subst (λ (ms : List ℕ). SetsBits c.args.slot (gets c.args.events.now c.args.config.now) row.masks ms) (sym masks) (subst (λ (ms : List ℕ). SetsBits c.args.slot (gets c.args.events.now c.args.config.now) ms now) c.as_mut_slice.ensures.value c.set_masks.ensures))
    refl (get_or-set_same row.slots c.args.slot (Some opening) None small)
