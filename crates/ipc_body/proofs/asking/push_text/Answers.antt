use Rattle.std.proofs.Common.{length, arith, ap}
use Rattle.ipc_body.proofs.Lengths.{text-length}
use Rattle.ipc_body.proofs.asking.push_text.Goals as goal

pub push_all-requires-in-loop-unit : goal.push_all-requires-in-loop-unit
push_all-requires-in-loop-unit c =
    let count = ap length c.to_le_bytes.ensures in
    let unit = ap length c.to_le_bytes-in-loop-unit.ensures in
    omega (arith, text-length c.args.units.now, count, unit, c.requires.room, c.loop-unit.invariant)
