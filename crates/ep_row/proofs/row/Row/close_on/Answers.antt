use Rattle.std.proofs.Common.{◌≡◌, ◌∙◌, ◌<◌, None, false, ℕ, List, length, refl, ap, sym, subst, arith}
use Rattle.std.proofs.lemmas.List.{with_items_is, get_or-set_same}
use Rattle.ep_row.specs.contracts.row.Row.{the_view}
use Rattle.ep_row.specs.Bits.{SetsBits}
use Rattle.ep_row.specs.Row.{RowState}
use Rattle.ep_row.specs.AtRest.{RowAtRest}
use Rattle.ep_row.proofs.Resting.{close-rests}
use Rattle.ep_row.proofs.row.Row.close_on.Goals as goal

pub returns-clause-rest : goal.returns-clause-rest
returns-clause-rest c events configs writes count rest =
    let row : RowState = the_view c.self.inside in
    let view = c.self.view_is in
    let now : List ℕ = c.clear_masks.new.masks in
    let len : length now ≡ c.self.inside.masks.len = omega (arith, c.clear_masks.ensures.count, ap (length {A = ℕ}) c.as_mut_slice.ensures.value) in
    let masks = with_items_is c.self.inside.masks now len in
    let small : c.args.slot < length row.slots = omega (arith, c.requires.within, c.self.invariant) in
    close-rests events configs writes row c.args.slot _ _ (count ∙ sym (ap (λ (r : RowState). length r.masks) view))
    (subst (RowAtRest events configs writes) (sym view) rest) (ap (λ (r : RowState). r.in_write) view ∙ c.requires.quiet)
    (subst (λ (ms : List ℕ). SetsBits c.args.slot (λ _. false) row.masks ms) (sym masks) (subst (λ (ms : List ℕ). SetsBits c.args.slot (λ _. false) ms now) c.as_mut_slice.ensures.value c.clear_masks.ensures))
    refl (get_or-set_same row.slots c.args.slot None None small)
