use Rattle.std.proofs.Common.{ℕ, ◌<◌, [], get_or}
use Rattle.waitfor_check.specs.Star.{IsStarState}
use Rattle.waitfor_check.proofs.fitting.are_star_states.Given as goal

abbrev pub invariant-loop-m : goal.invariant-loop-m
invariant-loop-m l = (k : ℕ) → k < l.m → IsStarState l.system l.shape (get_or l.members k [])
