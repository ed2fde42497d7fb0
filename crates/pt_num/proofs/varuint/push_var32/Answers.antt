use Rattle.std.proofs.Common.{◌^◌, ◌<◌, arith}
use Rattle.pt_num.proofs.Groups.{same_as_64, short_var-32}
use Rattle.pt_num.proofs.varuint.push_var32.Goals as goal

pub push_groups-requires : goal.push_groups-requires
push_groups-requires c =
    let fits : c.args.value < 2 ^ 32 = omega arith in
    let same = same_as_64 c.args.value fits in
    let few = (short_var-32 c.args.value fits).var.few in
    rw (c.from.ensures, same) (omega (arith, few))

pub returns-clause-items : goal.returns-clause-items
returns-clause-items c =
    let fits : c.args.value < 2 ^ 32 = omega arith in
    let same = same_as_64 c.args.value fits in
    rw (← same) (rw c.from.ensures at c.push_groups.ensures.items)

pub returns-clause-len : goal.returns-clause-len
returns-clause-len c =
    let fits : c.args.value < 2 ^ 32 = omega arith in
    let same = same_as_64 c.args.value fits in
    rw (← same) (rw c.from.ensures at c.push_groups.ensures.len)

pub returns-clause-few : goal.returns-clause-few
returns-clause-few c =
    let fits : c.args.value < 2 ^ 32 = omega arith in
    let same = same_as_64 c.args.value fits in
    let few = (short_var-32 c.args.value fits).var.few in
    let len = rw same at (rw c.from.ensures at c.push_groups.ensures.len) in
    omega (arith, few, len)
