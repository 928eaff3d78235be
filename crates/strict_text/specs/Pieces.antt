-- How bytes are cut into pieces, which spaces and tabs part: the words of a loose line, and what a word is cut into.
use Rattle.std.specs.Prelude.{ℕ, Bool, false, not, List, [], ◌∷◌, ◌==◌, ◌||◌, if◌then◌else◌}

-- a space or a tab
abbrev pub is_space : ℕ → Bool
is_space b = b == 32 || b == 9

-- a byte is the first of the first piece
abbrev pub before_first : ℕ → List (List ℕ) → List (List ℕ)
before_first b [] = (b ∷ []) ∷ []
before_first b (piece ∷ pieces) = (b ∷ piece) ∷ pieces

-- the byte and the first of these are of one piece
abbrev pub joins : (ℕ → ℕ → Bool) → ℕ → List ℕ → Bool
joins joined b [] = false
joins joined b (c ∷ bytes) = joined b c

-- neighbours that are joined are of one piece; spaces and tabs are in none
abbrev pub pieces_of : (ℕ → ℕ → Bool) → List ℕ → List (List ℕ)
pieces_of joined [] = []
pieces_of joined (b ∷ bytes) =
    if is_space b then pieces_of joined bytes else if joins joined b bytes then before_first b (pieces_of joined bytes) else (b ∷ []) ∷ pieces_of joined bytes

-- a word goes on as long as no space and no tab comes
abbrev pub is_within : ℕ → ℕ → Bool
is_within b c = not (is_space c)

-- the words of a loose line: spaces and tabs part them, however many
abbrev pub loose_words_of : List ℕ → List (List ℕ)
loose_words_of bytes = pieces_of is_within bytes
