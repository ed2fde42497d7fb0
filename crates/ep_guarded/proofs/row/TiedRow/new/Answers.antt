use Rattle.std.proofs.Common.{◌∙◌, ℕ, ◌+◌, ap, sym}
use Rattle.ep_row.specs.Row.{new_row}
use Rattle.ep_guarded.proofs.Openings.{row-new}
use Rattle.ep_guarded.proofs.row.TiedRow.new.Goals as goal

pub invariant_of-result : goal.invariant_of-result
invariant_of-result g c =
    row-new _ _ _ c.args.number c.args.events c.in_ok-row.row _ _ (c.in_ok-row.ensures.row ∙ ap (λ (n : ℕ). new_row (n + 1) c.args.events) c.from.ensures) c.in_ok-row.ensures.rest c.requires.events c.requires.number (sym c.args.buffers.ok.0 ∙ c.requires.count) c.requires.places c.requires.nothing c.requires.stands
