use Rattle.std.proofs.Common.{◌≡◌, ◌∙◌, ◌<◌, None, Some, ℕ, List, length, refl, ap, sym, subst, arith}
use Rattle.std.proofs.lemmas.List.{with_items_is, get_or-set_same}
use Rattle.ep_row.specs.contracts.row.Row.{the_view}
use Rattle.ep_row.specs.declared.row.Opening.{Opening}
use Rattle.ep_row.specs.Bits.{SetsBits}
use Rattle.ep_row.specs.Row.{RowState, is_admitted}
use Rattle.ep_row.specs.AtRest.{RowAtRest}
use Rattle.ep_row.proofs.Admitted.{length-admitted, sets-gets}
use Rattle.ep_row.proofs.Resting.{open-rests}
use Rattle.ep_row.proofs.row.Row.open_admitted.Goals as goal

pub returns-clause-rest : goal.returns-clause-rest
returns-clause-rest c events config admits configs writes rest =
    let row : RowState = the_view c.self.inside in
    let view = c.self.view_is in
    let admitted = c.args.admitted.now in
    let opening : Opening = record { session = c.args.session; from = c.self.inside.index; chunks = c.args.chunks; shown = 0 } in
    let now : List ℕ = c.set_admitted.new.masks in
    let len : length now ≡ c.self.inside.masks.len = omega (arith, c.set_admitted.ensures.count, ap (length {A = ℕ}) c.as_mut_slice.ensures.value) in
    let masks = with_items_is c.self.inside.masks now len in
    let small : c.args.slot < length row.slots = omega (arith, c.requires.within, c.self.invariant) in
    let old_masks = subst (λ (ms : List ℕ). SetsBits c.args.slot (is_admitted admitted) ms now) c.as_mut_slice.ensures.value c.set_admitted.ensures in
    let sets = subst (λ (ms : List ℕ). SetsBits c.args.slot (is_admitted admitted) row.masks ms) (sym masks) old_masks in
    open-rests events configs writes row c.args.slot config _ _ opening c.requires.within
    (sym (length-admitted events config admitted admits) ∙ c.requires.events ∙ sym (ap (λ (r : RowState). length r.masks) view))
    (subst (RowAtRest events configs writes) (sym view) rest) (ap (λ (r : RowState). r.in_write) view ∙ c.requires.quiet)
    refl refl
    (sets-gets events config admitted c.args.slot row.masks _ admits sets)
    refl (get_or-set_same row.slots c.args.slot (Some opening) None small)
