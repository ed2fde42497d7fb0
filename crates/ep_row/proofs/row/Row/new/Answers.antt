use Rattle.std.proofs.Common.{◌≡◌, ◌∙◌, ℕ, List, Option, [], ap, sym, subst, length}
use Rattle.std.proofs.lemmas.List.{length-replicate}
use Rattle.ep_row.specs.AtRest.{RowAtRest}
use Rattle.ep_row.proofs.Resting.{new-rests}
use Rattle.ep_row.specs.declared.row.Opening.{Opening}
use Rattle.ep_row.specs.Row.{RowState, new_row}
use Rattle.ep_row.proofs.row.Row.new.Goals as goal

pub returns-clause-row : goal.returns-clause-row
returns-clause-row c =
    let row : RowState = new_row c.args.thread c.args.events in
    ap (λ (masks : List ℕ). record row { masks = masks; slots = c.in_ok-slots.slots.items }) (c.in_ok-masks.ensures.items_if_clones_equal (λ y e. e))
    ∙ ap (λ (slots : List (Option Opening)). record row { slots = slots }) c.in_ok-slots.ensures.items

pub returns-clause-rest : goal.returns-clause-rest
returns-clause-rest c events configs count =
    let row : RowState = new_row c.args.thread c.args.events in
    let masks = c.in_ok-masks.ensures.items_if_clones_equal (λ y e. e) in
    let is : record row { masks = c.in_ok-masks.masks.items; slots = c.in_ok-slots.slots.items } ≡ row =
    ap (λ (masks : List ℕ). record row { masks = masks; slots = c.in_ok-slots.slots.items }) masks
    ∙ ap (λ (slots : List (Option Opening)). record row { slots = slots }) c.in_ok-slots.ensures.items
    in
    let len : length events ≡ c.args.events = count ∙ ap (length {A = ℕ}) masks ∙ length-replicate c.args.events 0 in
    subst (RowAtRest events configs []) (sym is) (new-rests events configs c.args.thread c.args.events len)
