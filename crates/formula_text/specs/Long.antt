-- When a formula is too long to be read.
use Rattle.std.specs.Prelude.{ℕ, ◌+◌, ◌-◌, ◌*◌, ◌<◌, ◌⊎◌, Bool, max, not, Option, Some, None, List, [], ◌∷◌, ◌||◌, codes, length, if◌then◌else◌}
use Rattle.std.specs.List.{sum_by}
use Rattle.std.specs.Str.{bytes_eq}
use Rattle.formula_text.specs.Sets.{SetParts, members_at}

abbrev pub is_open : List ℕ → Bool
is_open token = bytes_eq token (codes "(")

abbrev pub is_close : List ℕ → Bool
is_close token = bytes_eq token (codes ")")

-- a token that is no round parenthesis
abbrev pub is_counted : List ℕ → Bool
is_counted token = not (is_open token || is_close token)

-- the round parentheses that are open behind this token: one that closes none changes nothing
abbrev pub open_after : ℕ → List ℕ → ℕ
open_after opened token = if is_open token then opened + 1 else if is_close token then opened - 1 else opened

-- the most round parentheses that are open at one place, from where so many are open
abbrev pub most_open : ℕ → List (List ℕ) → ℕ
most_open opened [] = opened
most_open opened (token ∷ tokens) = max opened (most_open (open_after opened token) tokens)

abbrev pub set_weight_or : Option (List (List ℕ)) → ℕ → ℕ
set_weight_or None otherwise = otherwise
set_weight_or (Some members) otherwise = 2 * length members - 1

-- as how many tokens a token counts: a round parenthesis as none, an atom of a set of k members as the 2k - 1 of its disjunction, another as
-- one; 97 is 'a', 98 is 'b'
abbrev pub weight_of : List SetParts → List SetParts → List ℕ → ℕ
weight_of a b token = set_weight_or (members_at 97 a token) (set_weight_or (members_at 98 b token) (if is_counted token then 1 else 0))

-- tokens that count as more than 256, or somewhere more than 256 open round parentheses, where the atoms may name these sets
abbrev pub IsLong : List SetParts → List SetParts → List (List ℕ) → Type 0
IsLong a b tokens = (256 < sum_by (weight_of a b) tokens) ⊎ (256 < most_open 0 tokens)
