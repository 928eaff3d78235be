use Rattle.deletion_rules.specs.inside.Prefix.{StandsBefore}
use Rattle.deletion_rules.specs.inside.Spread.{Reaching}
use Rattle.deletion_rules.proofs.reaching.reach_each.Given as goal

abbrev pub invariant-loop-or : goal.invariant-loop-or
invariant-loop-or l = Reaching (StandsBefore l.ors l.or-index) l.initial.reached l.initial.fresh.items l.reached l.fresh.items
