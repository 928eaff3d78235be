-- Truth values kept as bits, in words of 64.
use Rattle.std.specs.Prelude.{ℕ, ◌≡◌, ◌<◌, ◌-◌, length, bit_and, ◌/◌, ◌%◌, ◌^◌, ◌==◌, Bool, List, map, bit_or, slice_index, slice_set}
use Rattle.std.specs.Int.{bit_at}
use Rattle.std.specs.List.{range_with_len}

-- whether the bit of this place is set
abbrev pub has_bit : List ℕ → ℕ → Bool
has_bit words place = bit_at (slice_index words (place / 64)) (place % 64) == 1

-- the words with the bit of this place set
abbrev pub with_bit : List ℕ → ℕ → List ℕ
with_bit words place = slice_set words (place / 64) (bit_or (slice_index words (place / 64)) (2 ^ (place % 64)))

-- the first so many bits as truth values
abbrev pub row_of : List ℕ → ℕ → List Bool
row_of words count = map (has_bit words) (range_with_len 0 count)

-- the words have the bits that the others have not
pub record AreFlipped (words flipped : List ℕ) : Type 0 where
  pub long : length flipped ≡ length words
  pub each : (k bit : ℕ) → k < length words → bit < 64 → bit_at (slice_index flipped k) bit ≡ 1 - bit_at (slice_index words k) bit

-- the words have the bits that both have
pub record AreMet (words others met : List ℕ) : Type 0 where
  pub long : length met ≡ length words
  pub each : (k : ℕ) → k < length words → slice_index met k ≡ bit_and (slice_index words k) (slice_index others k)
