use Rattle.std.proofs.Common.{ℕ, ◌<◌, ◌≤◌, length}
use Rattle.interconnection.specs.inside.Choice.{IsStuck}
use Rattle.interconnection.proofs.choice.last_raise.Given as goal

abbrev pub invariant-loop-leaf : goal.invariant-loop-leaf
invariant-loop-leaf l = record { within : l.leaf ≤ length l.leaves; stuck : (q : ℕ) → l.leaf ≤ q → q < length l.leaves → IsStuck l.labels l.leaves q }

abbrev pub decreases-loop-leaf : goal.decreases-loop-leaf
decreases-loop-leaf l = l.leaf
