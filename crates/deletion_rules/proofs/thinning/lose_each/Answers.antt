use Rattle.std.proofs.Common.{slice_index_or}
use Rattle.deletion_rules.proofs.ThinningLaws.{loses_then}
use Rattle.deletion_rules.proofs.Within.{Contains-at}
use Rattle.deletion_rules.proofs.thinning.lose_each.Goals as goal

pub lose-requires-clause-or : goal.lose-requires-clause-or
lose-requires-clause-or c = c.requires.parents (slice_index_or c.args.parents.now c.loop-or.or-index 0) (Contains-at c.args.parents.now c.loop-or.or-index c.loop-or-test.true)

pub loop-or-preserved : goal.loop-or-preserved
loop-or-preserved c = loses_then c.args.t.now c.args.thinning.now c.loop-or.thinning c.lose.new.thinning c.args.ors.now.items c.loop-or.ors.items c.lose.new.ors.items c.loop-or.invariant c.in_ok-lose.ensures
