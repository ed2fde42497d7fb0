use Rattle.pt_load.proofs.Valid.{write_is_defined, write_fits}
use Rattle.pt_load.proofs.laws.sample_writes_can_be_made.Goals as goal

pub returns : goal.returns
returns c = record { defined = write_is_defined; fits = write_fits }
