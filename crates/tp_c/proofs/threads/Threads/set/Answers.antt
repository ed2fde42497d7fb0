use Rattle.std.specs.BTreeSet.{keys}
use Rattle.nt_check.specs.state.Ids.{value_at}
use Rattle.tp_c.proofs.Listings.{listed-ascends, told-among, has-count, is-there, all-set, told-set}
use Rattle.tp_c.proofs.threads.Threads.set.Goals as goal

pub set-requires : goal.set-requires
set-requires c =
    let counts = value_at c.self.inside.counts in
    let threads = keys c.self.inside.threads in
    has-count counts threads c.args.thread c.self.invariant.2 (told-among counts threads c.args.self.now c.args.thread c.self.view_is c.requires.some)

pub invariant_of-self : goal.invariant_of-self
invariant_of-self c =
    let counts = value_at c.self.inside.counts in
    let threads = keys c.self.inside.threads in
    let there = is-there c.args.thread threads (told-among counts threads c.args.self.now c.args.thread c.self.view_is c.requires.some) in (
      c.self.invariant.0,
      c.self.invariant.1,
      all-set counts (value_at c.set.new.self) threads threads c.args.thread c.args.count c.requires.positive c.set.ensures there c.self.invariant.2,
    )

pub returns-clause-told : goal.returns-clause-told
returns-clause-told c =
    let counts = value_at c.self.inside.counts in
    let threads = keys c.self.inside.threads in
    let there = is-there c.args.thread threads (told-among counts threads c.args.self.now c.args.thread c.self.view_is c.requires.some) in
    told-set counts (value_at c.set.new.self) threads threads c.args.self.now c.args.thread c.args.count c.self.view_is c.set.ensures there

pub returns-clause-ascending : goal.returns-clause-ascending
returns-clause-ascending c = listed-ascends (value_at c.set.new.self) (keys c.self.inside.threads) c.self.invariant.1
