use Rattle.std.proofs.Common.{ℕ, ◌≡◌, ◌<◌, ◌≤◌, ◌-◌, length}
use Rattle.pair_structure.specs.StructureFault.{move_at}
use Rattle.ctl_form.specs.Row.{IsAt}
use Rattle.ctl_form.proofs.cursors.passed.Given as goal

abbrev pub invariant-loop-place : goal.invariant-loop-place
invariant-loop-place l = record {
  upward : l.from ≤ l.place;
  within : l.place ≤ length l.moves;
  between : (j : ℕ) → l.from ≤ j → j < l.place → ((move_at l.moves j).from ≡ l.state) × IsAt l.row (move_at l.moves j).to;
}

abbrev pub decreases-loop-place : goal.decreases-loop-place
decreases-loop-place l = length l.moves - l.place
