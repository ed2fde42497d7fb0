use Rattle.std.proofs.Common.{refl}
use Rattle.ep_model.proofs.examples.a_chunk_is_free_after_steal_and_give.Goals as goal

pub returns-clause-late : goal.returns-clause-late
returns-clause-late c = refl

pub returns-clause-early : goal.returns-clause-early
returns-clause-early c = refl

pub returns-clause-elsewhere : goal.returns-clause-elsewhere
returns-clause-elsewhere c = refl
