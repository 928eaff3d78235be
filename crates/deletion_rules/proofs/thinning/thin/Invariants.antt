use Rattle.std.proofs.Common.{◌+◌, not, count_by, length}
use Rattle.deletion_rules.specs.inside.Thinning.{AreLost, IsThinned, IsThinning}
use Rattle.deletion_rules.proofs.thinning.thin.Given as goal

abbrev pub invariant-loop-alloc : goal.invariant-loop-alloc
invariant-loop-alloc l = record {
  thinning : IsThinning l.t l.thinning;
  thinned : IsThinned l.t l.initial.thinning.lives.items l.thinning.lives.items;
  lost : AreLost l.t l.thinning.lives.items l.ors.items;
}

abbrev pub decreases-loop-alloc : goal.decreases-loop-alloc
decreases-loop-alloc l = count_by not l.thinning.lost.items + length l.ors.items
