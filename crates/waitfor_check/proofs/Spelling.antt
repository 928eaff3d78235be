-- Choices by what was chosen so far.
use Rattle.std.proofs.Common.{ℕ, ◌≡◌, List, [], ◌∷◌, ◌++◌, map, refl, sym, ◌∙◌, ap}
use Rattle.std.specs.List.{flat_map}
use Rattle.std.proofs.lemmas.List.{append-nil, append_assoc, map-append, map-id}
use Rattle.waitfor_check.specs.Choices.{choices}
use Rattle.waitfor_check.specs.inside.Walk.{completions}
use Rattle.waitfor_check.proofs.Distinct.{block}

after : (chosen : List ℕ) (x : ℕ) (yss : List (List ℕ)) → map (λ ys. (chosen ++ x ∷ []) ++ ys) yss ≡ map (λ ys. chosen ++ ys) (map (λ ys. x ∷ ys) yss)
after chosen x [] = refl
after chosen x (ys ∷ yss) = let head : (chosen ++ x ∷ []) ++ ys ≡ chosen ++ (x ∷ ys) = append_assoc chosen (x ∷ []) ys in let tail = after chosen x yss in cc

blocks_spelled : (chosen : List ℕ) (rest : List (List ℕ)) (xs : List ℕ) → ((x : ℕ) → block chosen rest x ≡ map (λ ys. (chosen ++ x ∷ []) ++ ys) (choices rest)) → flat_map (block chosen rest) xs ≡ map (λ ys. chosen ++ ys) (flat_map (λ x. map (λ ys. x ∷ ys) (choices rest)) xs)
blocks_spelled chosen rest [] each = refl
blocks_spelled chosen rest (x ∷ xs) each = ap (λ b. b ++ flat_map (block chosen rest) xs) (each x ∙ after chosen x (choices rest)) ∙ ap (λ b. map (λ ys. chosen ++ ys) (map (λ ys. x ∷ ys) (choices rest)) ++ b) (blocks_spelled chosen rest xs each) ∙ sym (map-append (λ ys. chosen ++ ys) (map (λ ys. x ∷ ys) (choices rest)) (flat_map (λ x. map (λ ys. x ∷ ys) (choices rest)) xs))

completions_spelled : (chosen : List ℕ) (lists : List (List ℕ)) → completions chosen lists ≡ map (λ ys. chosen ++ ys) (choices lists)
completions_spelled chosen [] = ap (λ c. c ∷ []) (sym (append-nil chosen))
completions_spelled chosen (xs ∷ rest) = blocks_spelled chosen rest xs (λ x. completions_spelled (chosen ++ x ∷ []) rest)

-- with nothing chosen they are the choices
pub completions_are : (lists : List (List ℕ)) → completions [] lists ≡ choices lists
completions_are lists = completions_spelled [] lists ∙ map-id (choices lists)
