use Rattle.std.proofs.Common.{◌∙◌}
use Rattle.ep_stream_tests.proofs.OneEvent.{one_is_few, one_is_valid, one_is_distinct, one_lacks_rundown}
use Rattle.ep_stream_tests.proofs.tests.scene.Scene.finish.Goals as goal

pub finish-requires-clause-few : goal.finish-requires-clause-few
finish-requires-clause-few g c = one_is_few _ (c.as_slice.ensures.value ∙ c.args.self.event)

pub finish-requires-clause-valid : goal.finish-requires-clause-valid
finish-requires-clause-valid g c = one_is_valid _ (c.as_slice.ensures.value ∙ c.args.self.event)

pub finish-requires-clause-distinct : goal.finish-requires-clause-distinct
finish-requires-clause-distinct g c = one_is_distinct _ (c.as_slice.ensures.value ∙ c.args.self.event)

pub finish-requires-clause-lacks : goal.finish-requires-clause-lacks
finish-requires-clause-lacks g c = one_lacks_rundown _ (c.as_slice.ensures.value ∙ c.args.self.event)
