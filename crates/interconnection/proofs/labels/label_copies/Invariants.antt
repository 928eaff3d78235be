use Rattle.std.proofs.Common.{ℕ, ◌≡◌, ◌<◌, length}
use Rattle.pair_structure.specs.Lists.{list_at}
use Rattle.interconnection.proofs.labels.label_copies.Given as goal

abbrev pub invariant-loop-k : goal.invariant-loop-k
invariant-loop-k l = record {
  size : length l.copies ≡ l.fn.count;
  same : (j : ℕ) → j < l.k → list_at l.copies j ≡ list_at l.fn.labels j;
}
