use Rattle.std.proofs.Common.{◌∙◌, ap, sym, subst}
use Rattle.std.specs.Prelude.{IsNone}
use Rattle.std.specs.List.{All}
use Rattle.ep_row.specs.contracts.row.Row.{the_view}
use Rattle.ep_row.specs.Row.{RowState}
use Rattle.ep_row.specs.AtRest.{RowAtRest}
use Rattle.ep_row.proofs.Resting.{enter-rests}
use Rattle.ep_row.proofs.row.Row.enter.Goals as goal

pub returns-clause-rest : goal.returns-clause-rest
returns-clause-rest c events configs writes count rest =
    enter-rests events configs writes (the_view c.self.inside) c.args.thread (ap (λ (r : RowState). r.left) c.self.view_is ∙ c.requires.left)
    (subst (λ (r : RowState). All IsNone r.slots) (sym c.self.view_is) c.requires.off)
    (subst (RowAtRest events configs writes) (sym c.self.view_is) rest)
