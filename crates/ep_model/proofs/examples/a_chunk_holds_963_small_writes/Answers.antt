use Rattle.ep_model.proofs.Spent.{spent-lawful, spent-refused}
use Rattle.ep_model.proofs.examples.a_chunk_holds_963_small_writes.Goals as goal

pub returns : goal.returns
returns c = record { lawful = spent-lawful; refused = spent-refused }
