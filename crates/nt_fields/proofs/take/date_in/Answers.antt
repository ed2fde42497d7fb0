use Rattle.std.proofs.Common.{arith}
use Rattle.ep_defs.proofs.Units.{read_units}
use Rattle.nt_fields.proofs.take.date_in.Goals as goal

pub returns : goal.returns
returns c = read_units c.args.bytes.now c.read_u16_into.new.dst (omega arith) c.read_u16_into.ensures
