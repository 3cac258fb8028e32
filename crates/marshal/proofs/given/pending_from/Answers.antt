use Rattle.std.proofs.Common.{nat_lt, rules}
use Rattle.std.proofs.lemmas.List.Sorted.{IsPartitionPoint-from_clause, IsPartitionedBy-ltb}
use Rattle.marshal.proofs.Givens.{pending_behind}
use Rattle.marshal.proofs.given.pending_from.Goals as goal

pub returns-clause-pending : goal.returns-clause-pending
returns-clause-pending c =
    let low = c.resume-low.result in
    let point =
    IsPartitionPoint-from_clause (λ y. nat_lt y low) _ _ c.partition_point.ensures.partitioned
    (IsPartitionedBy-ltb (λ x. x) _ low c.requires.rising) (λ a r q k. search rules) in
    pending_behind c.args.acked c.args.floor low c.args.given.now c.partition_point.result
    c.resume-low.ensures point
