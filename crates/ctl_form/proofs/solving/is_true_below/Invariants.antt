use Rattle.std.proofs.Common.{ℕ, ◌<◌}
use Rattle.ctl_form.specs.Row.{IsAt}
use Rattle.ctl_form.proofs.solving.is_true_below.Given as goal

abbrev pub invariant-loop-s : goal.invariant-loop-s
invariant-loop-s l = (k : ℕ) → k < l.s → IsAt l.row k
