-- How a strict text is cut into lines.
use Rattle.std.proofs.Common.{ℕ, zero, suc, ◌≡◌, ◌<◌, ◌+◌, true, false, List, [], ◌∷◌, ◌++◌, ◌==◌, length, get_or, take, drop, refl, arith, position, Some, None, add-one, sym, ap}
use Rattle.std.proofs.lemmas.List.Quantifiers.{position-Some}
use Rattle.std.proofs.Math.Seq.{drop-length, take-length}
use Rattle.std.proofs.lemmas.Bool.{eqb-true}
use Rattle.strict_text.specs.Lines.{Line, lines_of, before_line, text_of}
use Rattle.strict_text.proofs.Positions.{none_passes}

cut_before : (bytes : List ℕ) (n : ℕ) → n < length bytes → (get_or bytes n 0 == 10) ≡ true → ((k : ℕ) → k < n → (get_or bytes k 0 == 10) ≡ false) → lines_of bytes ≡ record { bytes = take n bytes; is_ended = true } ∷ lines_of (drop (suc n) bytes)
cut_before [] n lt at before = absurd (omega arith)
cut_before (b ∷ bytes) zero lt at before = rw at refl
cut_before (b ∷ bytes) (suc n) lt at before =
    let first : (b == 10) ≡ false = before 0 (omega arith) in
    let rest = cut_before bytes n (omega arith) at (λ k h. before (suc k) (omega arith)) in
    rw (first, rest) refl

pub cut_at : (bytes : List ℕ) (n : ℕ) → position (λ b. b == 10) bytes ≡ Some n → lines_of bytes ≡ record { bytes = take n bytes; is_ended = true } ∷ lines_of (drop (n + 1) bytes)
cut_at bytes n e = let p = position-Some (λ b. b == 10) bytes n 0 e in rw add-one (cut_before bytes n p.0 p.1 p.2)

-- a line that a line feed ends is cut off again
pub line_then : (line rest : List ℕ) → ((k : ℕ) → k < length line → (get_or line k 0 == 10) ≡ false) → lines_of (line ++ 10 ∷ rest) ≡ record { bytes = line; is_ended = true } ∷ lines_of rest
line_then [] rest none = refl
line_then (b ∷ line) rest none =
    let first : (b == 10) ≡ false = none 0 (omega arith) in
    rw (first, line_then line rest (λ k lt. none (suc k) (omega arith))) refl

last_line : (bytes : List ℕ) → 0 < length bytes → ((k : ℕ) → k < length bytes → (get_or bytes k 0 == 10) ≡ false) → lines_of bytes ≡ record { bytes = bytes; is_ended = false } ∷ []
last_line [] some none = absurd (omega arith)
last_line (b ∷ []) some none = let first : (b == 10) ≡ false = none 0 (omega arith) in rw first refl
last_line (b ∷ c ∷ bytes) some none =
    let first : (b == 10) ≡ false = none 0 (omega arith) in
    let rest = last_line (c ∷ bytes) (omega arith) (λ k h. none (suc k) (omega arith)) in
    rw (first, rest) refl

pub cut_none : (bytes : List ℕ) → position (λ b. b == 10) bytes ≡ None → 0 < length bytes → lines_of bytes ≡ record { bytes = bytes; is_ended = false } ∷ []
cut_none bytes e some = last_line bytes some (none_passes (λ b. b == 10) bytes e)

pub all_line : (bytes : List ℕ) → position (λ b. b == 10) bytes ≡ None → 0 < length bytes → lines_of bytes ≡ record { bytes = take (length bytes) bytes; is_ended = false } ∷ lines_of (drop (length bytes) bytes)
all_line bytes e some = rw (take-length, drop-length) (cut_none bytes e some)

rest_lines : (b : ℕ) (lines : List Line) → text_of (before_line b lines) ≡ b ∷ text_of lines
rest_lines b [] = refl
rest_lines b (line ∷ lines) = refl

-- a text is its lines, one after another
pub text_of_lines : (bytes : List ℕ) → text_of (lines_of bytes) ≡ bytes
text_of_lines [] = refl
text_of_lines (b ∷ bytes) = elim (b == 10) as (λ t. b == 10 ≡ t → text_of (lines_of (b ∷ bytes)) ≡ b ∷ bytes) [
  | true ↦ λ e. rw (e, text_of_lines bytes) (ap (λ c. c ∷ bytes) (sym (eqb-true b 10 e)))
  | false ↦ λ e. rw (e, rest_lines b (lines_of bytes), text_of_lines bytes) refl
] refl

-- each line ends
abbrev pub AreEnded : List Line → Type 0
AreEnded [] = Unit {0}
AreEnded (line ∷ lines) = (line.is_ended ≡ true) × AreEnded lines

joined : (b : ℕ) (front back both : List Line) → AreEnded (before_line b front) → (AreEnded front → both ≡ front ++ back) → before_line b both ≡ before_line b front ++ back
joined b [] back both ended along = let h : false ≡ true = ended.0 in cc
joined b (line ∷ lines) back both ended along = rw (along ended) refl

-- behind lines that end stand the lines of what follows
pub lines_append : (front back : List ℕ) → AreEnded (lines_of front) → lines_of (front ++ back) ≡ lines_of front ++ lines_of back
lines_append [] back ended = refl
lines_append (b ∷ front) back ended = elim (b == 10) as (λ t. b == 10 ≡ t → lines_of (b ∷ front ++ back) ≡ lines_of (b ∷ front) ++ lines_of back) [
  | true ↦ λ e. rw e (ap (λ lines. record { bytes = []; is_ended = true } ∷ lines) (lines_append front back (rw e at ended).1))
  | false ↦ λ e. rw e (joined b (lines_of front) (lines_of back) (lines_of (front ++ back)) (rw e at ended) (lines_append front back))
] refl
