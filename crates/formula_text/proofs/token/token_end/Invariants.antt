use Rattle.std.proofs.Common.{◌≡◌, ℕ, ◌+◌, ◌<◌, true, get_or}
use Rattle.formula_text.specs.Token.{are_joined}
use Rattle.formula_text.proofs.token.token_end.Given as goal

abbrev pub invariant-loop-end : goal.invariant-loop-end
invariant-loop-end l = (k : ℕ) → k + 1 < l.end → are_joined (get_or l.bytes k 0) (get_or l.bytes (k + 1) 0) ≡ true
