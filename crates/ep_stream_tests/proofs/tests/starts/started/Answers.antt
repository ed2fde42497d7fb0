use Rattle.std.proofs.Common.{refl}
use Rattle.ep_stream_tests.proofs.OneEvent.{none_is_distinct}
use Rattle.ep_stream_tests.proofs.tests.starts.started.Goals as goal

pub finish-requires-clause-distinct : goal.finish-requires-clause-distinct
finish-requires-clause-distinct c = none_is_distinct _ refl
