-- How words are written as a line.
use Rattle.std.specs.Prelude.{ℕ, ◌≡◌, ◌≤◌, List, [], ◌∷◌, ◌++◌}
use Rattle.strict_text.specs.Words.{words_of}

-- one space between two words
abbrev pub spaced : List (List ℕ) → List ℕ
spaced [] = []
spaced (word ∷ []) = word
spaced (word ∷ next ∷ words) = word ++ 32 ∷ spaced (next ∷ words)

-- a line of these words, with its line feed
abbrev pub line_text : List (List ℕ) → List ℕ
line_text words = spaced words ++ 10 ∷ []

-- the bytes of a word: from the exclamation mark to the tilde
abbrev pub IsWord : List ℕ → Type 0
IsWord [] = Unit {0}
IsWord (b ∷ word) = (33 ≤ b) × (b ≤ 126) × IsWord word

-- there are words, and each is one
abbrev pub AreWords : List (List ℕ) → Type 0
AreWords [] = ⊥
AreWords (word ∷ []) = IsWord word
AreWords (word ∷ next ∷ words) = IsWord word × AreWords (next ∷ words)

-- a line of words has these words, and they are written by this line alone
abbrev pub WordsOfLine : Type 0
WordsOfLine = (words : List (List ℕ)) → AreWords words → words_of (spaced words) ≡ words

abbrev pub OneLine : Type 0
OneLine = (bytes : List ℕ) → spaced (words_of bytes) ≡ bytes
