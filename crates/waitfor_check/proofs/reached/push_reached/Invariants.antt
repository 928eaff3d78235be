use Rattle.std.proofs.Common.{◌≡◌, ◌==◌, ◌++◌, map, take}
use Rattle.std.specs.Prelude.{filter}
use Rattle.pair_structure.specs.Structure.{label_at}
use Rattle.pair_structure.specs.declared.side.Move.{Move}
use Rattle.pair_structure.specs.Sides.{local_of}
use Rattle.waitfor_check.proofs.reached.push_reached.Given as goal

abbrev pub invariant-loop-m : goal.invariant-loop-m
invariant-loop-m l = l.list ≡ l.initial.list ++ filter (λ t. local_of l.side (label_at l.structure.states t) == l.local) (map (λ (m : Move). m.to) (take l.m-index l.moves))
