use Rattle.std.proofs.Common.{◌≡◌, map, length, ◌++◌}
use Rattle.formula_text.specs.Token.{tokens_of}
use Rattle.formula_text.proofs.token.push_tokens.Given as goal

abbrev pub invariant-loop-token : goal.invariant-loop-token
invariant-loop-token l = map (λ t. t.now) l.initial.tokens.items ++ tokens_of l.bytes ≡ map (λ t. t.now) l.tokens.items ++ tokens_of l.rest

abbrev pub decreases-loop-token : goal.decreases-loop-token
decreases-loop-token l = length l.rest
