-- The tokens that a piece of a line is cut into.
use Rattle.std.specs.Prelude.{ℕ, Bool, List, ◌==◌, ◌||◌, ◌&&◌}
use Rattle.std.specs.Char.{is_ascii_alphanumeric}
use Rattle.strict_text.specs.Pieces.{pieces_of}

-- letters, digits, '_' (95) and '.' (46)
abbrev pub is_word_byte : ℕ → Bool
is_word_byte b = is_ascii_alphanumeric b || b == 95 || b == 46

-- two neighbours of one token: bytes of a word, or '-' (45) and '>' (62)
abbrev pub are_joined : ℕ → ℕ → Bool
are_joined b c = (is_word_byte b && is_word_byte c) || (b == 45 && c == 62)

-- spaces and tabs part tokens and are in none
abbrev pub tokens_of : List ℕ → List (List ℕ)
tokens_of bytes = pieces_of are_joined bytes
