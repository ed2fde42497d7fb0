use Rattle.std.proofs.Common.{◌∙◌, ◌<◌, ap, sym, subst, arith, length}
use Rattle.ep_defs.specs.declared.limits.TheConstants.{WRITES}
use Rattle.ep_row.specs.contracts.row.Row.{the_view}
use Rattle.ep_row.specs.Row.{RowState}
use Rattle.ep_row.specs.AtRest.{RowAtRest, IsUnwanted}
use Rattle.ep_row.proofs.Resting.{pass-rests}
use Rattle.ep_row.proofs.row.Row.pass_over.Goals as goal

pub returns-clause-rest : goal.returns-clause-rest
returns-clause-rest c write unwanted events configs writes count rest =
    let row : RowState = the_view c.self.inside in
    let view = c.self.view_is in
    let few : row.index < WRITES = omega (arith, c.requires.few, ap (λ (r : RowState). r.index) view) in
    pass-rests events configs writes row write (count ∙ sym (ap (λ (r : RowState). length r.masks) view)) (subst (RowAtRest events configs writes) (sym view) rest) (ap (λ (r : RowState). r.in_write) view ∙ c.requires.quiet) (ap (λ (r : RowState). r.left) view ∙ c.requires.stays) (subst (IsUnwanted write) (sym view) unwanted) few
