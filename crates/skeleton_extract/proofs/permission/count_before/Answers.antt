use Rattle.std.proofs.Common.{rules}
use Rattle.std.proofs.lemmas.List.Sorted.{IsPartitionPoint-from_clause}
use Rattle.skeleton_extract.specs.inside.Place.{comes_before}
use Rattle.skeleton_extract.proofs.Places.{parted_before}
use Rattle.skeleton_extract.proofs.permission.count_before.Goals as goal

pub returns-clause-point : goal.returns-clause-point
returns-clause-point c =
    IsPartitionPoint-from_clause (comes_before c.args.other c.args.x) _ _ c.partition_point.ensures.partitioned (parted_before c.args.other c.args.x c.args.commands.now c.requires) (λ a r q k. search rules)
