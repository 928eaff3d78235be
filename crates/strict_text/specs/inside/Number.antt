-- How the decimal text of a number begins.
use Rattle.std.specs.Prelude.{ℕ, ◌==◌, ◌||◌, ◌&&◌, nat_le, Bool, false, List, [], ◌∷◌}

-- a digit from 1 to 9
abbrev pub is_leading : ℕ → Bool
is_leading b = nat_le 49 b && nat_le b 57

-- it is the digit 0, or begins with another digit
abbrev pub begins_plainly : List ℕ → Bool
begins_plainly [] = false
begins_plainly (b ∷ []) = b == 48 || is_leading b
begins_plainly (b ∷ c ∷ word) = is_leading b
