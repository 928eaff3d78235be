-- How far a token goes, and the tokens of one word more.
use Rattle.std.proofs.Common.{ℕ, zero, suc, ◌≡◌, ◌<◌, ◌≤◌, ◌+◌, ◌-◌, true, List, [], ◌∷◌, length, get_or, drop, refl, arith, ap, ◌∙◌, subst, inl, inr, map, ◌++◌, sym, append_assoc}
use Rattle.std.proofs.lemmas.Bool.{cases_lt}
use Rattle.std.proofs.lemmas.Bool.Decides.{nat_tests}
use Rattle.std.specs.List.{flat_map}
use Rattle.strict_text.proofs.PieceLaws.{PartsAtSpaces}
use Rattle.formula_text.specs.Token.{tokens_of, are_joined}

-- no space and no tab is in a token
pub tokens_part : PartsAtSpaces are_joined
tokens_part b c e = grind (arith, nat_tests)

-- neighbours are joined one place further
pub joined_more : (bytes : List ℕ) (n : ℕ) → 1 ≤ n → ((k : ℕ) → k + 1 < n → are_joined (get_or bytes k 0) (get_or bytes (k + 1) 0) ≡ true) → are_joined (get_or bytes (n - 1) 0) (get_or bytes n 0) ≡ true
    → (k : ℕ) → k + 1 < n + 1 → are_joined (get_or bytes k 0) (get_or bytes (k + 1) 0) ≡ true
joined_more bytes n some before here k lt = elim (cases_lt (k + 1) n) [
  | inl below ↦ before k below
  | inr above ↦ (let last : n - 1 ≡ k = omega arith in let next : n ≡ k + 1 = omega arith in
      subst (λ j. are_joined (get_or bytes k 0) (get_or bytes j 0) ≡ true) next (subst (λ j. are_joined (get_or bytes j 0) (get_or bytes n 0) ≡ true) last here))
]

-- the tokens of one more word
pub tokens_more : {X : Type 0} (f : X → List ℕ) (xs : List X) (i : ℕ) (d : X) → i < length xs → flat_map tokens_of (drop i (map f xs)) ≡ tokens_of (f (get_or xs i d)) ++ flat_map tokens_of (drop (i + 1) (map f xs))
tokens_more f [] i d lt = absurd (omega arith)
tokens_more f (x ∷ xs) zero d lt = refl
tokens_more f (x ∷ xs) (suc i) d lt = let next : suc i + 1 ≡ suc (i + 1) = omega arith in rw next (tokens_more f xs i d (omega arith))

pub words_step : (before more word left rest all : List (List ℕ)) → before ++ left ≡ all → more ≡ before ++ word → left ≡ word ++ rest → more ++ rest ≡ all
words_step before more word left rest all i m e = ap (λ ts. ts ++ rest) m ∙ append_assoc before word rest ∙ sym (ap (λ ts. before ++ ts) e) ∙ i
