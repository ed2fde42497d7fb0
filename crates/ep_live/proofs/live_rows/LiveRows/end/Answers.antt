use Rattle.ep_live.proofs.Halves.{rows-ended}
use Rattle.ep_live.proofs.live_rows.LiveRows.end.Goals as goal

pub invariant_of-free : goal.invariant_of-free
invariant_of-free g c = (rows-ended _ _ _ _ _ c.self.view_is c.self.invariant c.requires.closed c.requires.given).0

pub invariant_of-result : goal.invariant_of-result
invariant_of-result g c = (rows-ended _ _ _ _ _ c.self.view_is c.self.invariant c.requires.closed c.requires.given).1

pub returns-clause-share : goal.returns-clause-share
returns-clause-share g c =
    let ended = (rows-ended _ _ _ _ _ c.self.view_is c.self.invariant c.requires.closed c.requires.given).1 in
    (ended.share, ended.seats)

pub returns-clause-taken : goal.returns-clause-taken
returns-clause-taken g c = (rows-ended _ _ _ _ _ c.self.view_is c.self.invariant c.requires.closed c.requires.given).1.given
