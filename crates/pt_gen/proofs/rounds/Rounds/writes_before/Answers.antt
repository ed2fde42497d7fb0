use Rattle.std.proofs.Common.{sym}
use Rattle.pt_gen.proofs.Turns.{before_is}
use Rattle.pt_gen.proofs.rounds.Rounds.writes_before.Goals as goal

pub returns : goal.returns
returns c = sym (before_is c.args.self.seed c.args.round)
