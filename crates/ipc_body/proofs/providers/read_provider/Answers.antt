use Rattle.std.proofs.Common.{◌+◌, length, arith, length-drop, ap}
use Rattle.pt_num.specs.Fields.{Short, NoZero}
use Rattle.pt_num.proofs.Joined.{rest_is}
use Rattle.ipc_body.proofs.Provided.{parts-there, provider-is, provider-lacks}
use Rattle.ipc_body.proofs.providers.read_provider.Goals as goal

pub returns-in-Units-clause-exact : goal.returns-in-Units-clause-exact
returns-in-Units-clause-exact c =
    let text = c.in-Units.ensures.read in
    let name = c.in_ok-name.ensures.exact in (
      omega
          (arith, text.0, name.0, length-drop 12 c.args.bytes.now, length-drop (12 + c.in_ok-name.used) c.args.bytes.now, ap length (rest_is 12 c.args.bytes.now), ap length (rest_is (12 + c.in_ok-name.used) c.args.bytes.now)),
      provider-is c.args.bytes.now _ _ _ c.in_ok-name.name _ c.in-Some.keywords c.in-Some-take_u32.level c.in_ok-name.used c.in-Units.filter
          (parts-there c.args.bytes.now c.in_ok-name.name c.in-Some.keywords c.in-Some-take_u32.level c.in_ok-name.used c.in-Some.ensures.read c.in-Some-take_u32.ensures.read c.in_ok-name.ensures.exact.1)
          text.2,
    )

pub returns-in-Short-clause-exact : goal.returns-in-Short-clause-exact
returns-in-Short-clause-exact c = λ _.
    provider-lacks c.args.bytes.now _ _ _ c.in_ok-name.name c.in-Some.keywords c.in-Some-take_u32.level c.in_ok-name.used Short
    (parts-there c.args.bytes.now c.in_ok-name.name c.in-Some.keywords c.in-Some-take_u32.level c.in_ok-name.used c.in-Some.ensures.read c.in-Some-take_u32.ensures.read c.in_ok-name.ensures.exact.1)
    c.in-Short.ensures.read

pub returns-in-NoZero-clause-exact : goal.returns-in-NoZero-clause-exact
returns-in-NoZero-clause-exact c = λ _.
    provider-lacks c.args.bytes.now _ _ _ c.in_ok-name.name c.in-Some.keywords c.in-Some-take_u32.level c.in_ok-name.used NoZero
    (parts-there c.args.bytes.now c.in_ok-name.name c.in-Some.keywords c.in-Some-take_u32.level c.in_ok-name.used c.in-Some.ensures.read c.in-Some-take_u32.ensures.read c.in_ok-name.ensures.exact.1)
    c.in-NoZero.ensures.read
