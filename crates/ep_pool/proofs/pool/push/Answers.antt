use Rattle.std.proofs.Common.{subst, sym}
use Rattle.ep_pool.specs.Deals.{IsStaked}
use Rattle.ep_pool.proofs.Dealings.{gives, learns}
use Rattle.ep_pool.proofs.pool.push.Goals as goal

pub push_as-requires-clause-rule : goal.push_as-requires-clause-rule
push_as-requires-clause-rule g c =
    let staked = subst IsStaked (sym c.loop.invariant.1) c.requires.staked in
    (gives _ _ _ _ staked c.loop.invariant.2, learns _ _ staked)
