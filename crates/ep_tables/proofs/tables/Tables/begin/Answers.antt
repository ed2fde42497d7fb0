use Rattle.std.proofs.Common.{refl}
use Rattle.ep_tables.proofs.Ties.{stays_tied, keeps_told}
use Rattle.ep_tables.proofs.tables.Tables.begin.Goals as goal

pub returns-clause-made : goal.returns-clause-made
returns-clause-made c =
    record {
      own = record {
        row = c.args.on.row;
        own = c.requires.ready.there.own;
        is_row = c.requires.ready.there.is_row;
        rows = c.begin.ensures.begins;
        events = record { events = refl; known = c.begin.ensures.definitions };
        threads = record { threads = refl; last_thread = refl };
        sessions = record { present = refl; slots = record { table = refl; last_session = refl } };
      };
      due = c.begin.ensures.bounded;
      begins = refl;
    }

pub returns-clause-tied : goal.returns-clause-tied
returns-clause-tied c =
    stays_tied c.args.self.now _ refl refl refl c.begin.ensures.definitions
    (keeps_told c.args.self.now.rows c.begin.new.self c.begin.ensures.begins.slots c.begin.ensures.kept) c.requires.tied
