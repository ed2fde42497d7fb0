use Rattle.std.proofs.Common.{refl}
use Rattle.nt_read.proofs.Objects.{new-objects}
use Rattle.nt_read.proofs.object_reader.ObjectReader.new.Goals as goal

pub returns-clause-read : goal.returns-clause-read
returns-clause-read g c =
    new-objects g.T.Telling.tells _ refl refl refl c.new.ensures.items c.nothing.ensures
