-- The lines of a text, which bytes may stand in one, and which lines are passed over.
use Rattle.std.specs.Prelude.{ℕ, ◌≡◌, Bool, List, [], ◌∷◌, ◌==◌, ◌||◌, ◌&&◌, nat_le, true, All, map, codes}
use Rattle.strict_text.specs.Lines.{lines_of as ended_lines_of}

-- each line ends at a line feed, and the last may lack it
abbrev pub lines_of : List ℕ → List (List ℕ)
lines_of bytes = map (λ line. line.bytes) (ended_lines_of bytes)

-- what may stand in a line: a tab, and the bytes from the space to the tilde
abbrev pub is_text_byte : ℕ → Bool
is_text_byte b = b == 9 || (nat_le 32 b && nat_le b 126)

abbrev pub IsText : List ℕ → Type 0
IsText line = All (λ b. is_text_byte b ≡ true) line

-- it begins a comment: 35 is the number sign
abbrev pub IsComment : List ℕ → Type 0
IsComment [] = ⊥
IsComment (b ∷ word) = b ≡ 35

-- a line of these words is passed over: it is blank, or a comment
abbrev pub ArePassed : List (List ℕ) → Type 0
ArePassed [] = Unit {0}
ArePassed (word ∷ words) = IsComment word

-- the line requires a clause: its first word is `require`
abbrev pub IsRequire : List (List ℕ) → Type 0
IsRequire [] = ⊥
IsRequire (word ∷ words) = word ≡ codes "require"
