-- Counts of steps row by row.
use Rattle.std.proofs.Common.{ℕ, ◌≤◌, ◌<◌, ◌+◌, ◌*◌, arith}
use Rattle.std.proofs.Math.Nat.{mul-le-mul_left, mul_comm}

-- one row more
pub product_more : (i n count more : ℕ) → count ≤ i * n → more ≤ n → count + more ≤ (i + 1) * n
product_more i n count more before here = omega (arith, before, here)

-- no more than all rows
pub product_within : (i leaves n : ℕ) → i ≤ leaves → i * n ≤ leaves * n
product_within i leaves n le = omega (arith, mul-le-mul_left n le, mul_comm n i, mul_comm n leaves)
