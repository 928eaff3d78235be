use Rattle.std.proofs.Common.{◌≡◌, ◌==◌, ◌++◌, take}
use Rattle.std.specs.Prelude.{filter}
use Rattle.pair_structure.specs.Structure.{label_at}
use Rattle.pair_structure.specs.Sides.{local_of}
use Rattle.waitfor_check.specs.Star.{centre_side, leaf_structure}
use Rattle.waitfor_check.proofs.starts.push_begins.Given as goal

abbrev pub invariant-loop-state : goal.invariant-loop-state
invariant-loop-state l = l.list ≡ l.initial.list ++ filter (λ t. local_of (centre_side l.shape l.i) (label_at (leaf_structure l.system l.shape l.i).states t) == l.local) (take l.state-index l.states)
