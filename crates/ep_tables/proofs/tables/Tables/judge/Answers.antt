use Rattle.std.proofs.Common.{sym, ◌∙◌}
use Rattle.ep_tables.specs.Can.{CanMake}
use Rattle.ep_tables.proofs.Makes.{can_make, if_made}
use Rattle.ep_tables.proofs.tables.Tables.judge.Goals as goal

pub returns-clause-can : goal.returns-clause-can
returns-clause-can c events past h =
    let tables = c.args.self.now in
    if_made c.judged.result (CanMake c.args.step tables)
    (λ none. can_make events past tables c.args.step (λ session. c.a_budget_can_be_counted.ensures.in_hand session past) h (sym (c.judged.ensures.kind_is events past h) ∙ none))
