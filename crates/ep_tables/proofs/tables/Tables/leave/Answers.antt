use Rattle.std.proofs.Common.{refl}
use Rattle.ep_tables.proofs.Ties.{stays_tied, keeps_told}
use Rattle.ep_tables.proofs.tables.Tables.leave.Goals as goal

pub returns-clause-tied : goal.returns-clause-tied
returns-clause-tied c =
    stays_tied c.args.self.now _ refl refl refl c.leave.ensures.definitions
    (keeps_told c.args.self.now.rows c.leave.new.self c.leave.ensures.leaves.slots c.leave.ensures.kept) c.requires.tied
