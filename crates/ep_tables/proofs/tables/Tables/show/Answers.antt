use Rattle.std.proofs.Common.{refl}
use Rattle.std.specs.Prelude.{◌==◌}
use Rattle.ep_tables.proofs.Places.{found_there}
use Rattle.ep_tables.proofs.Ties.{stays_tied, keeps_shown}
use Rattle.ep_tables.proofs.tables.Tables.show.Goals as goal

pub returns-clause-made : goal.returns-clause-made
returns-clause-made c =
    record {
      row = c.args.both.on.row;
      own = c.requires.ready.there.on.own;
      is_row = c.requires.ready.there.on.is_row;
      place = c.args.both.of.place;
      present = c.index.result.now;
      stands = record {
        first = c.requires.ready.there.of;
        there = found_there (λ p. p.number == c.args.both.of.session) c.args.self.now.present.items c.args.both.of.place c.index.result.now c.requires.ready.there.of c.index.ensures;
      };
      shown = c.show.result;
      rows = c.show.ensures.shows;
      due = c.show.ensures.bounded;
      events = record { events = refl; known = c.show.ensures.definitions };
      threads = record { threads = refl; last_thread = refl };
      sessions = record { present = refl; slots = record { table = refl; last_session = refl } };
      begins = refl;
    }

pub returns-clause-tied : goal.returns-clause-tied
returns-clause-tied c =
    let shows = c.show.ensures.shows in
    stays_tied c.args.self.now _ refl refl refl c.show.ensures.definitions
    (keeps_shown c.args.self.now.rows c.show.new.self c.args.both.on.row _ _ shows.buffer _ c.args.write.now shows.was shows.slots c.show.ensures.kept) c.requires.tied
