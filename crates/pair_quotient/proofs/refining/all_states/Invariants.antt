use Rattle.std.proofs.Common.{ℕ, ◌<◌, All, Contains}
use Rattle.pair_quotient.proofs.refining.all_states.Given as goal

abbrev pub invariant-loop-state : goal.invariant-loop-state
invariant-loop-state l = record {
  within : All (λ s. s < l.count) l.states.items;
  each : (s : ℕ) → s < l.state → Contains l.states.items s;
}
