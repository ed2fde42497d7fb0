use Rattle.std.proofs.Common.{arith}
use Rattle.pt_num.proofs.Groups.{short_var-64}
use Rattle.pt_num.proofs.varuint.push_var64.Goals as goal

pub push_groups-requires : goal.push_groups-requires
push_groups-requires c =
    let few = (short_var-64 c.args.value (omega arith)).var.few in
    omega (arith, few)

pub returns-clause-few : goal.returns-clause-few
returns-clause-few c =
    let few = (short_var-64 c.args.value (omega arith)).var.few in
    omega (arith, few, c.push_groups.ensures.len)
