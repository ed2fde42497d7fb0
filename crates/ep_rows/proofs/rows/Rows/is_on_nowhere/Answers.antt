use Rattle.std.proofs.Common.{◌∙◌, sym, arith}
use Rattle.ep_rows.proofs.OneRow.{lent_column}
use Rattle.ep_rows.proofs.Making.{nowhere}
use Rattle.ep_rows.proofs.rows.Rows.is_on_nowhere.Goals as goal

pub returns-in-Some : goal.returns-in-Some
returns-in-Some c =
    nowhere c.args.self.now.columns.items c.args.slot c.in-Some.column c.is_empty.result
    (sym (lent_column c.args.self.now.columns.items c.args.slot c.index.result.now (omega (arith, c.requires, c.args.self.now.column_count, c.args.self.now.columns.ok.0)) c.index.ensures) ∙ c.in-Some.is)
    c.is_empty.ensures
