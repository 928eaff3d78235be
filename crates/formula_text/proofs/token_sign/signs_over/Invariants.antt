use Rattle.std.proofs.Common.{◌≡◌, map, take}
use Rattle.formula_text.specs.Sets.{signs_over}
use Rattle.formula_text.proofs.token_sign.signs_over.Given as goal

abbrev pub invariant-loop-token : goal.invariant-loop-token
invariant-loop-token l = l.signs.items ≡ signs_over (record { locals = l.a; sets = l.a_sets }) (record { locals = l.b; sets = l.b_sets }) (map (λ t. t.now) (take l.token-index l.tokens))
