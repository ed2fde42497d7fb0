use Rattle.std.proofs.Common.{◌∙◌}
use Rattle.ep_stream_tests.proofs.OneEvent.{one_is_few, one_is_valid, one_is_distinct}
use Rattle.ep_stream_tests.proofs.tests.scene.Scene.detach.Goals as goal

pub detach-requires-clause-events : goal.detach-requires-clause-events
detach-requires-clause-events g c = c.as_slice.ensures.value ∙ c.args.self.now.event

pub detach-requires-clause-few : goal.detach-requires-clause-few
detach-requires-clause-few g c = one_is_few _ (c.as_slice.ensures.value ∙ c.args.self.now.event)

pub detach-requires-clause-valid : goal.detach-requires-clause-valid
detach-requires-clause-valid g c = one_is_valid _ (c.as_slice.ensures.value ∙ c.args.self.now.event)

pub detach-requires-clause-distinct : goal.detach-requires-clause-distinct
detach-requires-clause-distinct g c = one_is_distinct _ (c.as_slice.ensures.value ∙ c.args.self.now.event)
