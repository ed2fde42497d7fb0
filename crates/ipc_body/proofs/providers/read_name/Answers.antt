use Rattle.ipc_body.proofs.Provided.{name-read, name-some}
use Rattle.ipc_body.proofs.providers.read_name.Goals as goal

pub returns-in_ok-name-in-Units-clause-exact : goal.returns-in_ok-name-in-Units-clause-exact
returns-in_ok-name-in-Units-clause-exact c =
    let text = c.in-Units.ensures.read in
    (text.0, name-read c.args.bytes.now c.in_ok-name-in-Units.name c.in-Units.count c.in-Units.used text.0 text.1 c.if-count-gt0.true text.2 c.in_ok-name-in-Units.ensures)

pub returns-in_ok-name-in-Units-clause-some : goal.returns-in_ok-name-in-Units-clause-some
returns-in_ok-name-in-Units-clause-some c =
    let text = c.in-Units.ensures.read in
    name-some c.args.bytes.now c.in_ok-name-in-Units.name c.in-Units.count c.in-Units.used text.0 text.1 c.if-count-gt0.true c.in_ok-name-in-Units.ensures
