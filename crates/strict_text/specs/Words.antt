-- The words of a line of a strict text.
use Rattle.std.specs.Prelude.{ℕ, ◌==◌, Option, Some, None, List, [], ◌∷◌, if◌then◌else◌}
use Rattle.strict_text.specs.Pieces.{before_first}

-- each space parts two words: of two spaces side by side, and of one at an end, one word is empty
abbrev pub words_of : List ℕ → List (List ℕ)
words_of [] = [] ∷ []
words_of (b ∷ bytes) = if b == 32 then [] ∷ words_of bytes else before_first b (words_of bytes)

-- the words behind a space, if there is one
abbrev pub words_behind : Option (List ℕ) → List (List ℕ)
words_behind None = []
words_behind (Some rest) = words_of rest
