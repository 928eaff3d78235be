-- Rows: sets of members, and how eight words of 64 bits hold one.
use Rattle.std.specs.Prelude.{ℕ, ◌≡◌, ◌<◌, Bool, List, Option, Some, None, cond, ◌||◌, ◌/◌, ◌%◌, ◌^◌, slice_index, slice_set, bit_or, eqb, nat_lt}
use Rattle.std.specs.Int.{bit_at}

-- a set of members: which numbers are in it
abbrev pub Members : Type 0
Members = ℕ → Bool

-- the set with one more member
abbrev pub add : Members → ℕ → Members
add row m i = eqb i m || row i

-- the set that the words hold
abbrev pub set_of : List ℕ → Members
set_of words i = eqb (bit_at (slice_index words (i / 64)) (i % 64)) 1

-- the words with the bit of this member set
abbrev pub with_member : List ℕ → ℕ → List ℕ
with_member words i = slice_set words (i / 64) (bit_or (slice_index words (i / 64)) (2 ^ (i % 64)))

-- the lowest bit of a word
pub record IsFirstBit (word bit : ℕ) : Type 0 where
  pub within : bit < 64
  pub there : bit_at word bit ≡ 1
  pub first : (i : ℕ) → i < bit → bit_at word i ≡ 0

-- a number below the count
abbrev pub some_below : ℕ → ℕ → Option ℕ
some_below count n = cond (nat_lt n count) (Some n) None
