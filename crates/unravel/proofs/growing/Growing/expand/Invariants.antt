use Rattle.unravel.specs.inside.Growing.{IsTurn}
use Rattle.unravel.proofs.growing.Growing.expand.Given as goal

abbrev pub invariant-loop-member : goal.invariant-loop-member
invariant-loop-member l = IsTurn l.ranks l.targets l.turn l.member l.place l.self.positions l.self.moves.items
