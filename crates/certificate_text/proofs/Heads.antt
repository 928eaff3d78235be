-- A line of other words than those of its kinds says nothing.
use Rattle.std.proofs.Common.{ℕ, ◌≡◌, ◌<◌, List, [], ◌∷◌, length, codes, arith}
use Rattle.strict_text.specs.Words.{words_of}
use Rattle.strict_text.proofs.WordLaws.{words_some}
use Rattle.certificate_text.specs.Item.{Said, head_line, star_line, member_line, end_line, done_line, Says}

some_behind : (a : List ℕ) (xs : List (List ℕ)) (b : List ℕ) → 0 < length xs → a ∷ xs ≡ b ∷ [] → ⊥
some_behind a [] b some e = omega (arith, some)
some_behind a (x ∷ xs) b some e = cc

first_same : (a b : List ℕ) (x y : List (List ℕ)) → a ∷ x ≡ b ∷ y → a ≡ b
first_same a b x y e = cc

others_same : (a b : List ℕ) (x y : List (List ℕ)) → a ∷ x ≡ b ∷ y → x ≡ y
others_same a b x y e = cc

-- a line of several words that begins with none of those words, or with the first of the head alone
pub no_head : (word rest : List ℕ) → (word ≡ codes "member" → ⊥) → (word ≡ codes "star" → ⊥) → (word ≡ codes "certificate" → words_of rest ≡ codes "1" ∷ [] → ⊥) → (x : Said) → Says (word ∷ words_of rest) x → ⊥
no_head word rest m s h head_line says = h (first_same _ _ _ _ says.words_are) (others_same _ _ _ _ says.words_are)
no_head word rest m s h (star_line role labels) says = s (first_same _ _ _ _ says.words_are)
no_head word rest m s h (member_line states) says = m (first_same _ _ _ _ says.words_are)
no_head word rest m s h end_line says = some_behind _ _ _ (words_some rest) says.words_are
no_head word rest m s h done_line says = some_behind _ _ _ (words_some rest) says.words_are
