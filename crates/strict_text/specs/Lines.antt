-- The lines of a strict text.
use Rattle.std.specs.Prelude.{ℕ, ◌≡◌, ◌==◌, ◌&&◌, nat_le, Bool, true, false, List, [], ◌∷◌, ◌++◌, if◌then◌else◌, All}

-- the bytes of a line without its line feed, and whether that follows
pub record Line : Type 0 where
  pub bytes : List ℕ
  pub is_ended : Bool

-- a byte is the first of what it begins
abbrev pub before_line : ℕ → List Line → List Line
before_line b [] = record { bytes = b ∷ []; is_ended = false } ∷ []
before_line b (line ∷ lines) = record { bytes = b ∷ line.bytes; is_ended = line.is_ended } ∷ lines

-- each line ends at a line feed; a last piece without one is a line that is not ended, and an empty one is none
abbrev pub lines_of : List ℕ → List Line
lines_of [] = []
lines_of (b ∷ bytes) = if b == 10 then record { bytes = []; is_ended = true } ∷ lines_of bytes else before_line b (lines_of bytes)

-- the lines, one after another
abbrev pub text_of : List Line → List ℕ
text_of [] = []
text_of (line ∷ lines) = line.bytes ++ (if line.is_ended then 10 ∷ text_of lines else text_of lines)

-- what may stand in a line: the bytes from the space to the tilde
abbrev pub is_strict_byte : ℕ → Bool
is_strict_byte b = nat_le 32 b && nat_le b 126

abbrev pub IsStrict : List ℕ → Type 0
IsStrict bytes = All (λ b. is_strict_byte b ≡ true) bytes
