use Rattle.ipc_body.specs.Asking.{provider_bytes}
use Rattle.ipc_body.proofs.Lengths.{flat_map-next, fits_few, fits_room}
use Rattle.ipc_body.proofs.asking.push_providers.Goals as goal

pub push_provider-requires-clause-few : goal.push_provider-requires-clause-few
push_provider-requires-clause-few c =
    fits_few _ _ _ _ (flat_map-next provider_bytes c.args.rules.now c.loop-rule.rule-index c.rule-item.result c.loop-rule-test.true c.rule-item.is) c.requires.few

pub push_provider-requires-clause-room : goal.push_provider-requires-clause-room
push_provider-requires-clause-room c =
    fits_room _ _ _ _ _ _ _ c.loop-rule.invariant.1 c.loop-rule.invariant.2
    (flat_map-next provider_bytes c.args.rules.now c.loop-rule.rule-index c.rule-item.result c.loop-rule-test.true c.rule-item.is)
    c.requires.room
