use Rattle.std.proofs.Common.{ℕ, ◌≡◌, ◌<◌, ◌≤◌, length}
use Rattle.std.specs.List.Sorted.{IsNonDecreasingBy, IsPermutation}
use Rattle.pair_structure.specs.Lists.{list_at}
use Rattle.interconnection.specs.Shape.{rank}
use Rattle.interconnection.proofs.labels.sort_each.Given as goal

abbrev pub invariant-loop-k : goal.invariant-loop-k
invariant-loop-k l = record {
  size : length l.labels ≡ length l.fn.labels;
  same : (j : ℕ) → j < l.k → IsPermutation (list_at l.fn.labels j) (list_at l.labels j);
  sorted : (j : ℕ) → j < l.k → IsNonDecreasingBy rank (list_at l.labels j);
  rest : (j : ℕ) → l.k ≤ j → list_at l.labels j ≡ list_at l.fn.labels j;
}
