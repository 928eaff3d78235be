use Rattle.std.proofs.Common.{leb, leb-true, leb-false, rules}
use Rattle.std.proofs.lemmas.List.Sorted.{IsPartitionPoint-from_clause, IsPartitionedBy-leb}
use Rattle.pair_structure.specs.declared.side.Move.{Move}
use Rattle.pair_structure.specs.inside.Turn.{turn}
use Rattle.pair_structure.proofs.moves_of.count_within.Goals as goal

pub returns-clause-point : goal.returns-clause-point
returns-clause-point c =
    let parted = IsPartitionedBy-leb (λ (m : Move). turn m.from m.side) c.args.moves.now (turn c.args.state c.args.side) c.requires in
    let point = IsPartitionPoint-from_clause (λ (m : Move). leb (turn m.from m.side) (turn c.args.state c.args.side)) _ _ c.partition_point.ensures.partitioned parted (λ a r q k. search rules) in
    (λ k d low lt. leb-true _ _ (point.0 k d low lt), λ k d from lt. leb-false _ _ (point.1 k d from lt))
