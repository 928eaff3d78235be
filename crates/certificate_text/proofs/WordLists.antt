-- Words that write a list, one more at a time.
use Rattle.std.proofs.Common.{ℕ, suc, ◌≡◌, ◌<◌, ◌≤◌, List, [], ◌∷◌, ◌++◌, All, length, map, sym, ap, ◌∙◌, arith, append_assoc, length-append}
use Rattle.std.proofs.lemmas.List.{length-map, map-append}

-- one more is written
pub more_words : {X : Type 0} (f : X → List ℕ) (xs : List X) (x : X) (words behind rest : List (List ℕ)) (word : List ℕ) → words ≡ map f xs ++ behind → behind ≡ word ∷ rest → word ≡ f x → words ≡ map f (xs ++ x ∷ []) ++ rest
more_words f xs x words behind rest word e cut is = e ∙ ap (λ t. map f xs ++ t) (cut ∙ ap (λ w. w ∷ rest) is) ∙ sym (append_assoc (map f xs) (f x ∷ []) rest) ∙ ap (λ t. t ++ rest) (sym (map-append f xs (x ∷ [])))

head_same : (a b : List ℕ) (x y : List (List ℕ)) → a ∷ x ≡ b ∷ y → a ≡ b
head_same a b x y e = cc

tail_same : (a b : List ℕ) (x y : List (List ℕ)) → a ∷ x ≡ b ∷ y → x ≡ y
tail_same a b x y e = cc

-- a word that writes nothing
pub no_list : {X : Type 0} (f : X → List ℕ) (P : X → Type 0) (xs ys : List X) (word : List ℕ) (behind : List (List ℕ)) → All P ys → map f xs ++ word ∷ behind ≡ map f ys → ((y : X) → P y → word ≡ f y → ⊥) → ⊥
no_list f P [] [] word behind all e none = cc
no_list f P [] (y ∷ ys) word behind all e none = none y (all 0 y (omega arith)) (head_same _ _ _ _ e)
no_list f P (x ∷ xs) [] word behind all e none = cc
no_list f P (x ∷ xs) (y ∷ ys) word behind all e none = no_list f P xs ys word behind (λ k d lt. all (suc k) d (omega (arith, lt))) (tail_same _ _ _ _ e) none

-- more words than things that are written
pub too_many : {X : Type 0} (f : X → List ℕ) (xs ys : List X) (rest : List (List ℕ)) → 0 < length rest → length ys ≤ length xs → map f xs ++ rest ≡ map f ys → ⊥
too_many f xs ys rest some few e =
    let same : length (map f xs ++ rest) ≡ length (map f ys) = ap length e in
    omega (arith, some, few, same, length-append (map f xs) rest, length-map xs f, length-map ys f)
