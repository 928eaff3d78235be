use Rattle.std.proofs.Common.{◌≡◌, ◌<◌, ◌≤◌, ℕ, false}
use Rattle.closure_sets.specs.Row.{set_of}
use Rattle.unravel.specs.inside.Targets.{pends_at}
use Rattle.unravel.proofs.turns.first_pending.Given as goal

abbrev pub invariant-loop-place : goal.invariant-loop-place
invariant-loop-place l = (z : ℕ) → l.from ≤ z → z < l.place → pends_at (set_of l.row.words) l.targets z ≡ false
