use Rattle.ep_model.proofs.Finished.{finished-faithful, finished-counted}
use Rattle.ep_model.proofs.laws.finished_sessions_are_faithful.Goals as goal

pub returns : goal.returns
returns c = record { faithful = finished-faithful; counted = finished-counted }
