use Rattle.std.proofs.Common.{ℕ, ◌<◌}
use Rattle.interconnection.specs.Around.{AreAroundBelow}
use Rattle.interconnection.specs.NetworkFault.{HasEarlier}
use Rattle.interconnection.proofs.adjacency.Adjacency.of.Given as goal

abbrev pub invariant-loop-e : goal.invariant-loop-e
invariant-loop-e l = record { around : AreAroundBelow l.e l.fn.count l.edges l.adjacency; single : (before : ℕ) → before < l.e → HasEarlier l.edges before → ⊥ }
