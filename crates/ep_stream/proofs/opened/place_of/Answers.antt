use Rattle.std.proofs.Common.{arith, rules}
use Rattle.std.proofs.Math.Dec.{ltb}
use Rattle.std.proofs.lemmas.Bool.{ltb-true, ltb-false}
use Rattle.std.proofs.lemmas.List.Sorted.{IsPartitionPoint-from_clause, IsPartitionedBy-ltb}
use Rattle.ep_stream.specs.declared.opened.Named.{Named}
use Rattle.ep_stream.proofs.opened.place_of.Goals as goal

pub returns-clause-below : goal.returns-clause-below
returns-clause-below c k d small =
    let point = IsPartitionPoint-from_clause (λ (n : Named). ltb n.thread c.args.thread) _ _ c.partition_point.ensures.partitioned (IsPartitionedBy-ltb (λ (n : Named). n.thread) _ c.args.thread c.requires) (λ a r q k. search rules) in
    ltb-true _ _ (point.0 k d (omega arith) small)

pub returns-clause-others : goal.returns-clause-others
returns-clause-others c k d from small =
    let point = IsPartitionPoint-from_clause (λ (n : Named). ltb n.thread c.args.thread) _ _ c.partition_point.ensures.partitioned (IsPartitionedBy-ltb (λ (n : Named). n.thread) _ c.args.thread c.requires) (λ a r q k. search rules) in
    ltb-false _ _ (point.1 k d from small)
