use Rattle.std.proofs.Common.{◌∙◌, ap, sym, subst}
use Rattle.ep_row.specs.contracts.row.Row.{the_view}
use Rattle.ep_row.specs.Row.{RowState}
use Rattle.ep_row.specs.AtRest.{RowAtRest}
use Rattle.ep_row.proofs.Resting.{end-rests}
use Rattle.ep_row.proofs.row.Row.end.Goals as goal

pub returns-clause-rest : goal.returns-clause-rest
returns-clause-rest c events configs writes count rest =
    end-rests events configs writes (the_view c.self.inside) (ap (λ (r : RowState). r.due) c.self.view_is ∙ c.requires.seen)
    (subst (RowAtRest events configs writes) (sym c.self.view_is) rest)
