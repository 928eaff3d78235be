use Rattle.std.proofs.Common.{◌≡◌, map, length, ◌++◌}
use Rattle.strict_text.specs.Pieces.{loose_words_of}
use Rattle.strict_text.proofs.loose.loose_words.Given as goal

abbrev pub invariant-loop-word : goal.invariant-loop-word
invariant-loop-word l = loose_words_of l.line ≡ map (λ w. w.now) l.words.items ++ loose_words_of l.rest

abbrev pub decreases-loop-word : goal.decreases-loop-word
decreases-loop-word l = length l.rest
