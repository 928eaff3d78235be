use Rattle.std.proofs.Common.{◌≡◌, ◌<◌, ◌+◌, ◌-◌, ℕ, [], get_or, length, map, vec_len}
use Rattle.pair_structure.proofs.lists.Lists.reach.Given as goal

abbrev pub invariant-loop-alloc : goal.invariant-loop-alloc
invariant-loop-alloc g l = ((k : ℕ) → get_or (map (λ list. list.items) l.self-inside.lists.items) k [] ≡ get_or l.fn.self k []) × (l.number < length l.fn.self → vec_len l.self-inside.lists ≡ length l.fn.self)

abbrev pub decreases-loop-alloc : goal.decreases-loop-alloc
decreases-loop-alloc g l = l.number + 1 - vec_len l.self-inside.lists
