use Rattle.std.proofs.Common.{refl}
use Rattle.ep_model.proofs.examples.a_chunk_is_filled_to_its_last_byte.Goals as goal

pub returns-clause-full : goal.returns-clause-full
returns-clause-full c = refl

pub returns-clause-over : goal.returns-clause-over
returns-clause-over c = refl
