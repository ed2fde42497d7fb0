use Rattle.std.proofs.Common.{ap, sym, ◌∙◌}
use Rattle.std.specs.Prelude.{not}
use Rattle.ep_tables.proofs.Found.{row_found, there_found}
use Rattle.ep_tables.proofs.tables.Tables.row_there.Goals as goal

pub returns-then-left-clause-there : goal.returns-then-left-clause-there
returns-then-left-clause-there c events past h =
    ap not (sym c.if-left.true ∙ c.left.ensures)
    ∙ there_found past c.args.self.now c.args.thread c.in_ok-row.row (row_found events past c.args.self.now c.args.thread c.in_ok-row.row h c.in_ok-row.ensures.own)

pub returns-else-left-clause-there : goal.returns-else-left-clause-there
returns-else-left-clause-there c events past h =
    ap not (sym c.if-left.false ∙ c.left.ensures)
    ∙ there_found past c.args.self.now c.args.thread c.in_ok-row.row (row_found events past c.args.self.now c.args.thread c.in_ok-row.row h c.in_ok-row.ensures.own)
