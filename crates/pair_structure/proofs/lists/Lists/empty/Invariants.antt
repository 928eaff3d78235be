use Rattle.std.proofs.Common.{ℕ, ◌≡◌, [], get_or, map, vec_len}
use Rattle.pair_structure.proofs.lists.Lists.empty.Given as goal

abbrev pub invariant-loop-number : goal.invariant-loop-number
invariant-loop-number g l = (vec_len l.lists ≡ l._number) × ((k : ℕ) → get_or (map (λ list. list.items) l.lists.items) k [] ≡ [])
