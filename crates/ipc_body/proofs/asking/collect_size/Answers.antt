use Rattle.std.proofs.Common.{length, arith, ap}
use Rattle.ipc_body.specs.Asking.{provider_bytes}
use Rattle.ipc_body.proofs.Lengths.{provider-length, flat_map-more, too_long, whole-size}
use Rattle.ipc_body.proofs.asking.collect_size.Goals as goal
use Rattle.ipc_body.proofs.asking.collect_size.Goals.{then-units-gt-MESSAGE_BYTES-via-then-units-gt-MESSAGE_BYTES, then-units-gt-MESSAGE_BYTES-via-else-units-gt-MESSAGE_BYTES+then-size-units-gt-MESSAGE_BYTES}

pub returns-then-units-gt-MESSAGE_BYTES : goal.returns-then-units-gt-MESSAGE_BYTES
returns-then-units-gt-MESSAGE_BYTES c =
    let name = ap length c.as_slice-units.ensures in
    let so_far = c.loop-rule.invariant.0 in
    too_long c.args.asked.now.megabytes c.args.asked.now.rules.now c.loop-rule.rule-index c.rule-item.result c.loop-rule-test.true c.rule-item.is
    (elim c.then-units-gt-MESSAGE_BYTES.branch [
      | then-units-gt-MESSAGE_BYTES-via-then-units-gt-MESSAGE_BYTES w ↦ omega (arith, name, so_far)
      | then-units-gt-MESSAGE_BYTES-via-else-units-gt-MESSAGE_BYTES+then-size-units-gt-MESSAGE_BYTES w ↦ omega (arith, name, so_far)
    ])

pub loop-rule-preserved : goal.loop-rule-preserved
loop-rule-preserved c =
    let name = ap length c.as_slice-units.ensures in
    let so_far = c.loop-rule.invariant.0 in
    let more = flat_map-more provider_bytes c.args.asked.now.rules.now c.loop-rule.rule-index c.rule-item.result c.loop-rule-test.true c.rule-item.is in
    let own = provider-length c.rule-item.result in
    (omega (arith, name, so_far, more, own), omega arith)

pub returns : goal.returns
returns c =
    whole-size c.args.asked.now.megabytes c.args.asked.now.rules.now c.loop-rule.rule-index c.loop-rule.size c.loop-rule-test.false c.loop-rule.invariant.0 c.loop-rule.invariant.1
