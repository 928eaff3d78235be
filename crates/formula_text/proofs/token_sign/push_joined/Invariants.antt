use Rattle.std.proofs.Common.{◌≡◌, ◌++◌, take}
use Rattle.formula_text.specs.Sets.{joined_signs}
use Rattle.formula_text.proofs.token_sign.push_joined.Given as goal

abbrev pub invariant-loop-member : goal.invariant-loop-member
invariant-loop-member l = l.into.items ≡ l.initial.into.items ++ joined_signs l.side l.names (take l.member-index l.members)
