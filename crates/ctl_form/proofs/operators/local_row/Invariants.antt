use Rattle.std.proofs.Common.{◌≡◌, ◌<◌, length}
use Rattle.pair_structure.specs.Sides.{local_of}
use Rattle.pair_structure.specs.Structure.{label_at}
use Rattle.ctl_form.specs.Row.{IsRowOf}
use Rattle.ctl_form.proofs.operators.local_row.Given as goal

abbrev pub invariant-loop-state : goal.invariant-loop-state
invariant-loop-state l = IsRowOf (length l.m.states) (λ s. (s < l.state) × (local_of l.side (label_at l.m.states s) ≡ l.local)) l.row
