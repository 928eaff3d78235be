use Rattle.firing_words.specs.inside.Filling.{AreFilled}
use Rattle.firing_words.proofs.opening.fill_processes.Given as goal

abbrev pub invariant-loop-k : goal.invariant-loop-k
invariant-loop-k l = AreFilled l.system l.k 0 l.words
