use Rattle.std.proofs.Common.{◌≡◌, ◌≤◌, map, drop, max}
use Rattle.formula_text.specs.Long.{most_open}
use Rattle.formula_text.proofs.long.most_open.Given as goal

abbrev pub invariant-loop-token : goal.invariant-loop-token
invariant-loop-token l = (l.opened ≤ l.token-index) × (max l.most (most_open l.opened (drop l.token-index (map (λ t. t.now) l.tokens))) ≡ most_open 0 (map (λ t. t.now) l.tokens))
