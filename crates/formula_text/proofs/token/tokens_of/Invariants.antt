use Rattle.std.proofs.Common.{◌≡◌, ◌++◌, map, drop}
use Rattle.std.specs.List.{flat_map}
use Rattle.formula_text.specs.Token.{tokens_of}
use Rattle.formula_text.proofs.token.tokens_of.Given as goal

abbrev pub invariant-loop-word : goal.invariant-loop-word
invariant-loop-word l = map (λ t. t.now) l.tokens.items ++ flat_map tokens_of (drop l.word-index (map (λ w. w.now) l.words)) ≡ flat_map tokens_of (map (λ w. w.now) l.words)
