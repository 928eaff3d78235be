use Rattle.std.proofs.Common.{◌≤◌, ◌<◌, ℕ}
use Rattle.interconnection.specs.Graph.{degree_of}
use Rattle.firing_words.proofs.spaces.widest.Given as goal

abbrev pub invariant-loop-k : goal.invariant-loop-k
invariant-loop-k l = ((j : ℕ) → j < l.k → degree_of l.system.network.edges j ≤ l.most) × (l.most ≤ 64)
