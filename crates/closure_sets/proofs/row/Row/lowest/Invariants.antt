use Rattle.std.proofs.Common.{◌≡◌, ◌<◌, ◌*◌, ℕ, false}
use Rattle.closure_sets.specs.Row.{set_of}
use Rattle.closure_sets.proofs.row.Row.lowest.Given as goal

abbrev pub invariant-loop-place : goal.invariant-loop-place
invariant-loop-place l = (i : ℕ) → i < 64 * l.place → set_of l.self.words i ≡ false
