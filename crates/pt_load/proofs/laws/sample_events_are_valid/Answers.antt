use Rattle.pt_load.proofs.Valid.{sample_is_short, sample_is_valid, sample_is_distinct, sample_lacks_rundown}
use Rattle.pt_load.proofs.laws.sample_events_are_valid.Goals as goal

pub returns : goal.returns
returns c = record { few = sample_is_short; valid = sample_is_valid; distinct = sample_is_distinct; lacks = sample_lacks_rundown }
