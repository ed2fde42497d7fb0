use Rattle.ep_core_laws.proofs.Starting.{start_follows}
use Rattle.ep_core_laws.proofs.SessionComings.{starts}
use Rattle.ep_core_laws.proofs.RestComings.{start_rests}
use Rattle.ep_core_laws.proofs.Begun.{start_begun}
use Rattle.ep_core_laws.proofs.Steps.{ids_first}
use Rattle.ep_core_laws.proofs.laws.a_machine_follows_its_start.Goals as goal

pub returns : goal.returns
returns c events info tables begun start tied count =
    record {
      lawful = tt;
      follow = start_follows events tables start;
      tied = tied;
      stand = starts events info tables start;
      rest = start_rests events tables start;
      begun_are = start_begun events tables begun start;
      begun_count = count;
      ids = ids_first events tables start;
    }
