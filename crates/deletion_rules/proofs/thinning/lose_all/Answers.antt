use Rattle.std.proofs.Common.{[]}
use Rattle.deletion_rules.proofs.ThinningLaws.{loses_then}
use Rattle.deletion_rules.proofs.thinning.lose_all.Goals as goal

pub loop-or-preserved : goal.loop-or-preserved
loop-or-preserved c = loses_then c.args.t.now c.args.thinning.now c.loop-or.thinning c.lose.new.thinning [] c.loop-or.ors.items c.lose.new.ors.items c.loop-or.invariant c.in_ok-lose.ensures
