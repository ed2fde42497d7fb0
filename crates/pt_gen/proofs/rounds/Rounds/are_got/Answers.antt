use Rattle.std.proofs.Common.{sym}
use Rattle.pt_gen.proofs.Turns.{narrow_gets, wide_gets}
use Rattle.pt_gen.proofs.rounds.Rounds.are_got.Goals as goal

pub returns-in-Wide : goal.returns-in-Wide
returns-in-Wide c = rw c.in-Wide.is (sym (wide_gets c.args.self.seed c.args.round))

pub returns-in-Narrow : goal.returns-in-Narrow
returns-in-Narrow c =
    rw (c.in-Narrow.is, c.event_at.ensures, c.plan.ensures, c.thread_at-thread.ensures, c.writes_before.ensures) (sym (narrow_gets c.args.self.seed c.args.round))
