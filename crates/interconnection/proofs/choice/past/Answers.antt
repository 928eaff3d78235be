use Rattle.std.proofs.Common.{◌+◌, arith, ltb, rules}
use Rattle.std.proofs.lemmas.Bool.{ltb-true, ltb-false}
use Rattle.std.proofs.lemmas.List.Sorted.{IsPartitionPoint-from_clause, IsPartitionedBy-ltb}
use Rattle.pair_structure.specs.declared.side.Side.TheVariants.{A}
use Rattle.interconnection.specs.Shape.{rank}
use Rattle.interconnection.proofs.choice.past.Goals as goal

pub returns : goal.returns
returns c =
    let floor = c.rank.result + 1 in
    let parted = IsPartitionedBy-ltb rank c.args.labels.now (c.rank.result + 1) c.requires in
    let point = IsPartitionPoint-from_clause (λ l. ltb (rank l) (c.rank.result + 1)) _ _ c.partition_point.ensures.partitioned parted (λ a r q k. search rules) in
    record {
      within = c.partition_point.ensures.bound;
      low = λ i lt. omega (arith, ltb-true _ _ (point.0 i (0, A) (omega arith) lt), c.rank.ensures);
      high = λ i ge lt. omega (arith, ltb-false _ _ (point.1 i (0, A) ge lt), c.rank.ensures);
    }
