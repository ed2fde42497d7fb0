use Rattle.std.proofs.Common.{◌∙◌}
use Rattle.ep_stream_tests.proofs.OneEvent.{one_is_few, one_is_valid, one_is_distinct}
use Rattle.ep_stream_tests.proofs.tests.scene.Scene.sweep.Goals as goal

pub sweep-requires-clause-events : goal.sweep-requires-clause-events
sweep-requires-clause-events g c = c.as_slice.ensures.value ∙ c.args.self.now.event

pub sweep-requires-clause-few : goal.sweep-requires-clause-few
sweep-requires-clause-few g c = one_is_few _ (c.as_slice.ensures.value ∙ c.args.self.now.event)

pub sweep-requires-clause-valid : goal.sweep-requires-clause-valid
sweep-requires-clause-valid g c = one_is_valid _ (c.as_slice.ensures.value ∙ c.args.self.now.event)

pub sweep-requires-clause-distinct : goal.sweep-requires-clause-distinct
sweep-requires-clause-distinct g c = one_is_distinct _ (c.as_slice.ensures.value ∙ c.args.self.now.event)
