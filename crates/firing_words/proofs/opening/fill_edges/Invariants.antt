use Rattle.conjunctive_compose.specs.System.{process_count}
use Rattle.firing_words.specs.inside.Filling.{AreFilled}
use Rattle.firing_words.proofs.opening.fill_edges.Given as goal

abbrev pub invariant-loop-e : goal.invariant-loop-e
invariant-loop-e l = AreFilled l.system (process_count l.system) l.e l.words
