use Rattle.std.proofs.Common.{◌≡◌, ◌*◌, length, arith, ◌∙◌}
use Rattle.std.proofs.lemmas.Grind.{common_steps}
use Rattle.ep_defs.proofs.Units.{read_units}
use Rattle.ep_defs.proofs.list.units_of.Goals as goal

pub returns : goal.returns
returns c =
    let same : length c.read_u16_into.new.dst ≡ c.in_ok-units.units.len = omega arith in
    let long : length c.args.bytes.now ≡ 2 * length c.read_u16_into.new.dst = omega (arith, c.in_ok-units.ensures.len) in
    let read = read_units c.args.bytes.now c.read_u16_into.new.dst long c.read_u16_into.ensures in
    let kept : c.new.result ≡ c.read_u16_into.new.dst = grind (arith, common_steps) in
    kept ∙ read
