use Rattle.std.proofs.Common.{◌∙◌, ◌≤◌, ◌<◌, ◌++◌, [], ◌∷◌, ℕ, length, ap, sym, subst, arith}
use Rattle.ep_defs.specs.declared.limits.TheConstants.{WRITES}
use Rattle.ep_row.specs.contracts.row.Row.{the_view}
use Rattle.ep_row.specs.Row.{RowState, with_begin}
use Rattle.ep_row.specs.AtRest.{RowAtRest}
use Rattle.ep_row.proofs.Resting.{begin-rests, mask-is}
use Rattle.ep_row.proofs.row.Row.begin.Goals as goal

pub returns-clause-rest : goal.returns-clause-rest
returns-clause-rest c events configs writes count rest =
    let row : RowState = the_view c.self.inside in
    let view = c.self.view_is in
    let write = c.args.write.now in
    let within : write.event ≤ length row.masks = omega (arith, c.requires.events, ap (λ (r : RowState). length r.masks) view) in
    let few : row.index < WRITES = omega (arith, c.requires.few, ap (λ (r : RowState). r.index) view) in
    let due = mask-is row write.event c.index.result.now c.requires.event within c.index.ensures in
    subst
    (λ (n : ℕ). RowAtRest events configs (writes ++ write ∷ []) (record (with_begin row c.args.stamp write) { due = n }))
    (sym due)
    (begin-rests events configs writes row c.args.stamp write (count ∙ sym (ap (λ (r : RowState). length r.masks) view)) (subst (RowAtRest events configs writes) (sym view) rest) (ap (λ (r : RowState). r.in_write) view ∙ c.requires.quiet) (ap (λ (r : RowState). r.left) view ∙ c.requires.stays) c.requires.event within few)
