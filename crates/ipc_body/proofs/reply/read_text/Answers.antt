use Rattle.pt_num.proofs.Joined.{rest_is}
use Rattle.ipc_body.proofs.Placed.{text-is}
use Rattle.ipc_body.proofs.reply.read_text.Goals as goal

pub returns-in_ok-text-in-Units-clause-exact : goal.returns-in_ok-text-in-Units-clause-exact
returns-in_ok-text-in-Units-clause-exact c =
    let text = c.in-Units.ensures.read in
    text-is c.args.bytes.now _ c.in_ok-text-in-Units.text c.args.at c.in-Units.count c.in-Units.used c.requires (rest_is c.args.at c.args.bytes.now)
    text.0 text.1 text.2 c.in_ok-text-in-Units.ensures
