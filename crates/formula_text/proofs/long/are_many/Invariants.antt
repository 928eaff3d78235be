use Rattle.std.proofs.Common.{◌≡◌, ◌≤◌, ◌+◌, map, drop}
use Rattle.std.specs.List.{sum_by}
use Rattle.formula_text.specs.Long.{weight_of}
use Rattle.formula_text.proofs.long.are_many.Given as goal

abbrev pub invariant-loop-token : goal.invariant-loop-token
invariant-loop-token l = (l.counted ≤ 256) × (l.counted + sum_by (weight_of l.a l.b) (drop l.token-index (map (λ t. t.now) l.tokens)) ≡ sum_by (weight_of l.a l.b) (map (λ t. t.now) l.tokens))
