use Rattle.std.proofs.Common.{ℕ, ◌<◌}
use Rattle.ctl_form.specs.Kind.{SatisfiesKind}
use Rattle.ctl_text.specs.Value.{kind_at}
use Rattle.solution_text.specs.Failing.{structure_at}
use Rattle.solution_text.proofs.failing.first_unsatisfied.Given as goal

abbrev pub invariant-loop-number : goal.invariant-loop-number
invariant-loop-number l = (k : ℕ) → k < l.number → SatisfiesKind l.roles (kind_at l.kinds k) (structure_at l.structures k)
