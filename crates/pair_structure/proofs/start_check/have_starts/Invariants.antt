use Rattle.std.proofs.Common.{◌≡◌, ◌*◌, length, drop}
use Rattle.pair_structure.proofs.StartRows.{HaveRows}
use Rattle.pair_structure.proofs.start_check.have_starts.Given as goal

abbrev pub invariant-loop-start : goal.invariant-loop-start
invariant-loop-start l = (l.rest ≡ drop (l.start-index * length l.b.starts) l.states) × HaveRows l.a.starts l.b.starts l.states l.start-index
