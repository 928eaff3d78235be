use Rattle.std.proofs.Common.{◌≡◌, ◌<◌, ◌++◌, length, drop}
use Rattle.big_system.specs.Systems.{edges_from}
use Rattle.big_system.proofs.edges.edges_of.Given as goal

abbrev pub invariant-loop-pair : goal.invariant-loop-pair
invariant-loop-pair l = record {
  edges : l.edges.items ++ edges_from l.word (drop l.pair-index l.pairs) ≡ edges_from l.initial.word l.pairs;
  word : l.word < 65537;
  count : length l.edges.items ≡ l.pair-index;
}
