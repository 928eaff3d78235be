-- How a line is cut into words.
use Rattle.std.proofs.Common.{ℕ, zero, suc, ◌≡◌, ◌<◌, ◌+◌, Bool, true, false, List, [], ◌∷◌, ◌++◌, ◌==◌, length, get_or, take, drop, refl, arith, position, Some, None, add-one, sym, ap, ◌≤◌, All, append_assoc, ◌&&◌, nat_le}
use Rattle.std.proofs.lemmas.List.Quantifiers.{position-Some}
use Rattle.std.proofs.lemmas.Bool.Decides.{nat_tests}
use Rattle.std.proofs.lemmas.Bool.{eqb-true}
use Rattle.std.proofs.lemmas.List.Elements.{All-cons, All-nil}
use Rattle.std.specs.List.{list_all}
use Rattle.strict_text.specs.Lines.{lines_of, is_strict_byte, IsStrict}
use Rattle.strict_text.specs.Pieces.{before_first}
use Rattle.strict_text.specs.Words.{words_of}
use Rattle.strict_text.specs.Spaced.{spaced, line_text, IsWord, AreWords, WordsOfLine, OneLine}
use Rattle.strict_text.proofs.Positions.{both_true, none_passes}

cut_before : (line : List ℕ) (n : ℕ) → n < length line → (get_or line n 0 == 32) ≡ true → ((k : ℕ) → k < n → (get_or line k 0 == 32) ≡ false) → words_of line ≡ take n line ∷ words_of (drop (suc n) line)
cut_before [] n lt at before = absurd (omega arith)
cut_before (b ∷ line) zero lt at before = rw at refl
cut_before (b ∷ line) (suc n) lt at before =
    let first : (b == 32) ≡ false = before 0 (omega arith) in
    let rest = cut_before line n (omega arith) at (λ k h. before (suc k) (omega arith)) in
    rw (first, rest) refl

pub cut_at : (line : List ℕ) (n : ℕ) → position (λ b. b == 32) line ≡ Some n → words_of line ≡ take n line ∷ words_of (drop (n + 1) line)
cut_at line n e = let p = position-Some (λ b. b == 32) line n 0 e in rw add-one (cut_before line n p.0 p.1 p.2)

last_word : (line : List ℕ) → ((k : ℕ) → k < length line → (get_or line k 0 == 32) ≡ false) → words_of line ≡ line ∷ []
last_word [] none = refl
last_word (b ∷ line) none =
    let first : (b == 32) ≡ false = none 0 (omega arith) in
    let rest = last_word line (λ k h. none (suc k) (omega arith)) in
    rw (first, rest) refl

pub cut_none : (line : List ℕ) → position (λ b. b == 32) line ≡ None → words_of line ≡ line ∷ []
cut_none line e = last_word line (none_passes (λ b. b == 32) line e)

-- each line has a word
pub words_some : (line : List ℕ) → 0 < length (words_of line)
words_some [] = omega arith
words_some (b ∷ line) = elim (b == 32) as (λ t. b == 32 ≡ t → 0 < length (words_of (b ∷ line))) [ true ↦ λ e. rw e (omega arith) | false ↦ λ e. rw e (begun b (words_of line)) ] refl
  where
    begun : (b : ℕ) (words : List (List ℕ)) → 0 < length (before_first b words)
    begun b [] = omega arith
    begun b (word ∷ words) = omega arith

spaced_first : (b : ℕ) (words : List (List ℕ)) → spaced (before_first b words) ≡ b ∷ spaced words
spaced_first b [] = refl
spaced_first b (word ∷ []) = refl
spaced_first b (word ∷ next ∷ words) = refl

spaced_empty : (words : List (List ℕ)) → 0 < length words → spaced ([] ∷ words) ≡ 32 ∷ spaced words
spaced_empty [] some = absurd (omega arith)
spaced_empty (word ∷ words) some = refl

-- the words of a line, with one space between two, are the line
pub one_line : OneLine
one_line [] = refl
one_line (b ∷ line) = elim (b == 32) as (λ t. b == 32 ≡ t → spaced (words_of (b ∷ line)) ≡ b ∷ line) [
  | true ↦ λ e. rw (e, spaced_empty (words_of line) (words_some line), one_line line) (ap (λ c. c ∷ line) (sym (eqb-true b 32 e)))
  | false ↦ λ e. rw (e, spaced_first b (words_of line), one_line line) refl
] refl

no_space : (b : ℕ) → 33 ≤ b → (b == 32) ≡ false
no_space b le = grind (arith, nat_tests)

word_then : (word rest : List ℕ) → IsWord word → words_of (word ++ 32 ∷ rest) ≡ word ∷ words_of rest
word_then [] rest h = refl
word_then (b ∷ word) rest h = rw (no_space b h.0, word_then word rest h.2) refl

word_only : (word : List ℕ) → IsWord word → words_of word ≡ word ∷ []
word_only [] h = refl
word_only (b ∷ word) h = rw (no_space b h.0, word_only word h.2) refl

-- a line of words has these words
pub words_of_line : WordsOfLine
words_of_line [] h = absurd h
words_of_line (word ∷ []) h = word_only word h
words_of_line (word ∷ next ∷ words) h = rw (word_then word (spaced (next ∷ words)) h.0, words_of_line (next ∷ words) h.1) refl

no_feed : (b : ℕ) → 33 ≤ b → (b == 10) ≡ false
no_feed b le = grind (arith, nat_tests)

word_line : (word bytes rest : List ℕ) (line : List ℕ) → IsWord word → lines_of (bytes ++ 10 ∷ rest) ≡ record { bytes = bytes; is_ended = true } ∷ lines_of rest → lines_of ((word ++ bytes) ++ 10 ∷ rest) ≡ record { bytes = word ++ bytes; is_ended = true } ∷ lines_of rest
word_line [] bytes rest line h e = e
word_line (b ∷ word) bytes rest line h e = rw (no_feed b h.0, word_line word bytes rest line h.2 e) refl

line_first : (words : List (List ℕ)) (rest : List ℕ) → AreWords words → lines_of (spaced words ++ 10 ∷ rest) ≡ record { bytes = spaced words; is_ended = true } ∷ lines_of rest
line_first [] rest h = absurd h
line_first (word ∷ []) rest h = word_feed word rest h
  where
    word_feed : (word rest : List ℕ) → IsWord word → lines_of (word ++ 10 ∷ rest) ≡ record { bytes = word; is_ended = true } ∷ lines_of rest
    word_feed [] rest h = refl
    word_feed (b ∷ word) rest h = rw (no_feed b h.0, word_feed word rest h.2) refl
line_first (word ∷ next ∷ words) rest h =
    word_line word (32 ∷ spaced (next ∷ words)) rest [] h.0 (rw (line_first (next ∷ words) rest h.1) refl)

-- a line of words is the first of a text that begins with it
pub line_of_words : (words : List (List ℕ)) (rest : List ℕ) → AreWords words → lines_of (line_text words ++ rest) ≡ record { bytes = spaced words; is_ended = true } ∷ lines_of rest
line_of_words words rest h = rw (append_assoc (spaced words) (10 ∷ []) rest) (line_first words rest h)

abbrev MayStand : ℕ → Type 0
MayStand b = is_strict_byte b ≡ true

word_byte : (b : ℕ) → 33 ≤ b → b ≤ 126 → is_strict_byte b ≡ true
word_byte b low high = grind (arith, nat_tests)

word_before : (word rest : List ℕ) → IsWord word → All MayStand rest → All MayStand (word ++ rest)
word_before [] rest h more = more
word_before (b ∷ word) rest h more = All-cons MayStand b (word ++ rest) (word_byte b h.0 h.1) (word_before word rest h.2 more)

strict_word : (word : List ℕ) → IsWord word → All MayStand word
strict_word [] h = All-nil MayStand
strict_word (b ∷ word) h = All-cons MayStand b word (word_byte b h.0 h.1) (strict_word word h.2)

-- each byte of a line of words may stand in it
pub strict_words : (words : List (List ℕ)) → AreWords words → IsStrict (spaced words)
strict_words [] h = absurd h
strict_words (word ∷ []) h = strict_word word h
strict_words (word ∷ next ∷ words) h = word_before word (32 ∷ spaced (next ∷ words)) h.0 (All-cons MayStand 32 (spaced (next ∷ words)) refl (strict_words (next ∷ words) h.1))

-- a byte of a word
abbrev pub is_word_byte : ℕ → Bool
is_word_byte b = nat_le 33 b && nat_le b 126

byte_bounds : (b : ℕ) → is_word_byte b ≡ true → (33 ≤ b) × (b ≤ 126)
byte_bounds b e = grind (arith, nat_tests)

-- bytes of a word are a word
pub word_of_bytes : (word : List ℕ) → list_all is_word_byte word ≡ true → IsWord word
word_of_bytes [] e = tt
word_of_bytes (b ∷ word) e = let h = both_true (is_word_byte b) (list_all is_word_byte word) e in let r = byte_bounds b h.0 in (r.0, r.1, word_of_bytes word h.1)
