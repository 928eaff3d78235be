-- The first state is a start state, and where each role has one start it is the only one.
use Rattle.std.proofs.Common.{ℕ, ◌≡◌, ◌<◌, ◌+◌, ◌*◌, Some, List, length, slice_get, arith, subst}
use Rattle.pair_structure.specs.Role.{RoleParts, HasOneStart, first_start, start_at}
use Rattle.pair_structure.specs.Structure.{HaveStarts, start_count}

pub first_state : (a b : RoleParts) (states : List (ℕ × ℕ)) → HaveStarts a b states → 0 < length a.starts → 0 < length b.starts → slice_get states 0 ≡ Some (first_start a, first_start b)
first_state a b states have some_a some_b =
    let first : 0 * length b.starts + 0 ≡ 0 = omega arith in
    subst (λ n. slice_get states n ≡ Some (first_start a, first_start b)) first (have 0 0 some_a some_b)

pub one_state : (a b : RoleParts) (states : List (ℕ × ℕ)) → HasOneStart a → HasOneStart b → slice_get states 0 ≡ Some (first_start a, first_start b) → HaveStarts a b states
one_state a b states one_a one_b first i j lt_i lt_j = stands i j (length b.starts) (omega (arith, lt_i, one_a)) (omega (arith, lt_j, one_b))
  where
    stands : (i j n : ℕ) → i ≡ 0 → j ≡ 0 → slice_get states (i * n + j) ≡ Some (start_at a.starts i, start_at b.starts j)
    stands i j n is_i is_j = let place : 0 * n + 0 ≡ 0 = omega arith in rw (is_i, is_j, place) first

pub one_start_state : (a b : RoleParts) → HasOneStart a → HasOneStart b → start_count a b ≡ 1
one_start_state a b one_a one_b = rw (one_a, one_b) (omega arith)
