use Rattle.std.proofs.Common.{refl}
use Rattle.ep_tables.proofs.Ties.{stays_tied, keeps_told}
use Rattle.ep_tables.proofs.tables.Tables.end.Goals as goal

pub returns-clause-tied : goal.returns-clause-tied
returns-clause-tied c =
    stays_tied c.args.self.now _ refl refl refl c.end.ensures.definitions
    (keeps_told c.args.self.now.rows c.end.new.self c.end.ensures.ends.slots c.end.ensures.kept) c.requires.tied
