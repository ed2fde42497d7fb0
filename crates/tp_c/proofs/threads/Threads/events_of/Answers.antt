use Rattle.std.specs.BTreeSet.{keys}
use Rattle.nt_check.specs.state.Ids.{value_at}
use Rattle.tp_c.proofs.Listings.{told-seen}
use Rattle.tp_c.proofs.threads.Threads.events_of.Goals as goal

pub returns : goal.returns
returns c =
    told-seen (value_at c.self.inside.counts) (keys c.self.inside.threads) c.args.self.now c.args.thread c.counted.result c.self.view_is c.self.invariant.2 c.counted.ensures
