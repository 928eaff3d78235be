use Rattle.std.proofs.Common.{◌+◌, ◌*◌}
use Rattle.closure_sets.proofs.expanding.+treating.Given as goal

abbrev pub decreases-expand : goal.decreases-expand
decreases-expand l = 3 * l.left

abbrev pub decreases-expand_way : goal.decreases-expand_way
decreases-expand_way l = 3 * l.left + 1

abbrev pub decreases-expand_each : goal.decreases-expand_each
decreases-expand_each l = 3 * l.left + 2
