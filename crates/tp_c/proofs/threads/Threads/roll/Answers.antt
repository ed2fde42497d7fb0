use Rattle.std.proofs.Common.{ℕ, List, subst}
use Rattle.std.specs.BTreeSet.{keys}
use Rattle.std.specs.List.Sorted.{IsStrictlySortedBy}
use Rattle.std.specs.Map.{keys_of}
use Rattle.std.specs.Ordering.{nat_cmp}
use Rattle.nt_check.specs.state.Ids.{value_at}
use Rattle.tp_c.proofs.Listings.{listed-ascends}
use Rattle.tp_c.proofs.threads.Threads.roll.Goals as goal

pub returns-clause-ascending : goal.returns-clause-ascending
returns-clause-ascending c =
    subst (λ (es : List (ℕ × ℕ)). IsStrictlySortedBy nat_cmp (keys_of es)) c.self.view_is
    (listed-ascends (value_at c.self.inside.counts) (keys c.self.inside.threads) c.self.invariant.1)
