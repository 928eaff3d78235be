use Rattle.std.proofs.Common.{ltb, ltb-true, ltb-false, rules}
use Rattle.std.proofs.lemmas.List.Sorted.{IsPartitionPoint-from_clause, IsPartitionedBy-ltb}
use Rattle.interconnection.specs.declared.parts.Beside.{Beside}
use Rattle.interconnection.proofs.RisingLists.{IsNonDecreasingBy-from_rising}
use Rattle.interconnection.proofs.neighbourhood.place_beside.Goals as goal

pub returns-clause-point : goal.returns-clause-point
returns-clause-point c =
    let parted = IsPartitionedBy-ltb (λ (b : Beside). b.process) c.args.neighbours.now c.args.process (IsNonDecreasingBy-from_rising (λ (b : Beside). b.process) c.args.neighbours.now c.requires) in
    let point = IsPartitionPoint-from_clause (λ (b : Beside). ltb b.process c.args.process) _ _ c.partition_point.ensures.partitioned parted (λ a r q k. search rules) in
    (λ k d low lt. ltb-true _ _ (point.0 k d low lt), λ k d from lt. ltb-false _ _ (point.1 k d from lt))
