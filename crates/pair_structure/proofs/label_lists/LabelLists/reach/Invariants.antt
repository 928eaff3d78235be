use Rattle.std.proofs.Common.{◌≡◌, ◌+◌, ◌-◌, ℕ, [], get_or, vec_len}
use Rattle.pair_structure.proofs.label_lists.LabelLists.reach.Given as goal

abbrev pub invariant-loop-alloc : goal.invariant-loop-alloc
invariant-loop-alloc l = (p : ℕ) → get_or l.self-inside.rows.items p [] ≡ get_or l.fn.self p []

abbrev pub decreases-loop-alloc : goal.decreases-loop-alloc
decreases-loop-alloc l = l.a + 1 - vec_len l.self-inside.rows
