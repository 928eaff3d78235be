-- Words say one thing at most, and a line has at most four.
use Rattle.std.proofs.Common.{ℕ, ◌≡◌, ◌≢◌, List, [], ◌∷◌, refl, sym, ap, ◌∙◌, codes, Bool, ◌↔◌, IsTrue, length, arith}
use Rattle.std.proofs.lemmas.Fmt.{decimal_injective}
use Rattle.pair_structure.specs.declared.side.Side.{Side}
use Rattle.pair_structure.specs.declared.side.Side.TheVariants.{A, B}
use Rattle.pair_structure.specs.declared.side.Move.{Move}
use Rattle.strict_text.specs.Words.{words_of}
use Rattle.strict_text.specs.Spaced.{spaced}
use Rattle.strict_text.proofs.WordLaws.{one_line, words_some}
use Rattle.solution_text.specs.Item.{Said, head_line, kind_line, state_line, move_line, end_line, done_line, side_word, words_for, IsShort, IsSpelled, Says}

first_same : (m n : ℕ) → m ∷ [] ≡ n ∷ [] → m ≡ n
first_same m n e = cc

unlike : (m n : ℕ) → m ∷ [] ≡ n ∷ [] → m ≢ n → ⊥
unlike m n e differ = differ (first_same m n e)

side_once : (s t : Side) → side_word s ≡ side_word t → s ≡ t
side_once A A e = refl
side_once B B e = refl
side_once A B e = absurd (unlike 97 98 e (omega arith))
side_once B A e = absurd (unlike 98 97 e (omega arith))

head_same : (a b : List ℕ) (x y : List (List ℕ)) → a ∷ x ≡ b ∷ y → a ≡ b
head_same a b x y e = cc

tail_same : (a b : List ℕ) (x y : List (List ℕ)) → a ∷ x ≡ b ∷ y → x ≡ y
tail_same a b x y e = cc

ends_once : (m n : Move) → m.from ≡ n.from → m.side ≡ n.side → m.to ≡ n.to → m ≡ n
ends_once m n f s t =
    let make : ℕ → Side → ℕ → Move = λ from side to. record { from = from; side = side; to = to } in
    ap (λ from. make from m.side m.to) f ∙ ap (λ side. make n.from side m.to) s ∙ ap (λ to. make n.from n.side to) t

move_once : (m n : Move) → IsShort m → IsShort n → words_for (move_line m) ≡ words_for (move_line n) → m ≡ n
move_once m n p q e =
    let e1 = tail_same _ _ _ _ e in
    let from = decimal_injective m.from n.from p.from q.from (head_same _ _ _ _ e1) in
    let e2 = tail_same _ _ _ _ e1 in
    let side = side_once m.side n.side (head_same _ _ _ _ e2) in
    let e3 = tail_same _ _ _ _ e2 in
    ends_once m n from side (decimal_injective m.to n.to p.to q.to (head_same _ _ _ _ e3))

-- words say one thing at most
pub says_once : (words : List (List ℕ)) (x y : Said) → Says words x → Says words y → x ≡ y
says_once words x y p q = once x y (sym p.words_are ∙ q.words_are) p.spelled q.spelled
  where
    once : (x y : Said) → words_for x ≡ words_for y → IsSpelled x → IsSpelled y → x ≡ y
    once head_line head_line e p q = refl
    once (kind_line n) (kind_line m) e p q = ap kind_line cc
    once (state_line a b) (state_line c d) e p q = cc
    once (move_line m) (move_line n) e p q = ap move_line (move_once m n p q e)
    once end_line end_line e p q = refl
    once done_line done_line e p q = refl
    once head_line (kind_line n) e p q = cc
    once head_line (state_line a b) e p q = cc
    once head_line (move_line m) e p q = cc
    once head_line end_line e p q = cc
    once head_line done_line e p q = cc
    once (kind_line n) head_line e p q = cc
    once (kind_line n) (state_line a b) e p q = cc
    once (kind_line n) (move_line m) e p q = cc
    once (kind_line n) end_line e p q = cc
    once (kind_line n) done_line e p q = cc
    once (state_line a b) head_line e p q = cc
    once (state_line a b) (kind_line n) e p q = cc
    once (state_line a b) (move_line m) e p q = cc
    once (state_line a b) end_line e p q = cc
    once (state_line a b) done_line e p q = cc
    once (move_line m) head_line e p q = cc
    once (move_line m) (kind_line n) e p q = cc
    once (move_line m) (state_line a b) e p q = cc
    once (move_line m) end_line e p q = cc
    once (move_line m) done_line e p q = cc
    once end_line head_line e p q = cc
    once end_line (kind_line n) e p q = cc
    once end_line (state_line a b) e p q = cc
    once end_line (move_line m) e p q = cc
    once end_line done_line e p q = cc
    once done_line head_line e p q = cc
    once done_line (kind_line n) e p q = cc
    once done_line (state_line a b) e p q = cc
    once done_line (move_line m) e p q = cc
    once done_line end_line e p q = cc

-- a line of more than four words says nothing
pub too_long : (a b c d : List ℕ) (e : List ℕ) (rest : List (List ℕ)) (x : Said) → Says (a ∷ b ∷ c ∷ d ∷ e ∷ rest) x → ⊥
too_long a b c d e rest head_line s = let h = s.words_are in cc
too_long a b c d e rest (kind_line n) s = let h = s.words_are in cc
too_long a b c d e rest (state_line p q) s = let h = s.words_are in cc
too_long a b c d e rest (move_line m) s = let h = s.words_are in cc
too_long a b c d e rest end_line s = let h = s.words_are in cc
too_long a b c d e rest done_line s = let h = s.words_are in cc

some_word : (bytes : List ℕ) → words_of bytes ≡ [] → ⊥
some_word bytes e = let some = words_some bytes in let h : length (words_of bytes) ≡ 0 = ap length e in omega arith

-- the same, where what stands behind the fourth word is cut no further
pub fifth_word : (words : List (List ℕ)) (a b c d bytes : List ℕ) → words ≡ a ∷ b ∷ c ∷ d ∷ words_of bytes → (x : Said) → Says words x → ⊥
fifth_word words a b c d bytes e x s = elim (words_of bytes) as (λ ws. words ≡ a ∷ b ∷ c ∷ d ∷ ws → words_of bytes ≡ ws → ⊥) [
  | [] ↦ λ f none. absurd (some_word bytes none)
  | first ∷ rest ↦ λ f same. too_long a b c d first rest x (record { words_are = sym f ∙ s.words_are; spelled = s.spelled })
] e refl

-- the line that has the words of the head
pub head_words : (line : List ℕ) (t : Bool) → (IsTrue t ↔ (line ≡ codes "solution 1")) → IsTrue t ↔ (words_of line ≡ words_for head_line)
head_words line t test = (λ yes. rw (test.0 yes) refl, λ e. test.1 (sym (one_line line) ∙ ap spaced e))
