use Rattle.std.proofs.Common.{◌∙◌}
use Rattle.ep_stream_tests.proofs.OneEvent.{one_is_few, one_is_valid, one_is_distinct}
use Rattle.ep_stream_tests.proofs.tests.scene.Scene.steal.Goals as goal

pub steal-requires-clause-events : goal.steal-requires-clause-events
steal-requires-clause-events g c = c.as_slice.ensures.value ∙ c.args.self.now.event

pub steal-requires-clause-few : goal.steal-requires-clause-few
steal-requires-clause-few g c = one_is_few _ (c.as_slice.ensures.value ∙ c.args.self.now.event)

pub steal-requires-clause-valid : goal.steal-requires-clause-valid
steal-requires-clause-valid g c = one_is_valid _ (c.as_slice.ensures.value ∙ c.args.self.now.event)

pub steal-requires-clause-distinct : goal.steal-requires-clause-distinct
steal-requires-clause-distinct g c = one_is_distinct _ (c.as_slice.ensures.value ∙ c.args.self.now.event)
