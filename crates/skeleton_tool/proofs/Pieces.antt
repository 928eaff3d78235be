-- Pieces of a text that are numbered, one more at a time.
use Rattle.std.proofs.Common.{ℕ, zero, suc, ◌≡◌, ◌+◌, List, [], ◌∷◌, ◌++◌, sym, ap, ◌∙◌, arith, add-one, refl}
use Rattle.std.specs.List.{flat_map, range_with_len}
use Rattle.std.proofs.lemmas.List.{flat_map_more}

range_more : (a n : ℕ) → range_with_len a (suc n) ≡ range_with_len a n ++ (a + n) ∷ []
range_more a zero = let e : a ≡ a + 0 = omega arith in ap (λ b. b ∷ []) e
range_more a (suc n) =
    let next : (a + 1) + n ≡ a + suc n = omega arith in
    ap (λ xs. a ∷ xs) (range_more (a + 1) n ∙ ap (λ b. range_with_len (a + 1) n ++ b ∷ []) next)

-- piece n comes behind those before it
pub pieces_more : (piece : ℕ → List ℕ) (n : ℕ) (old now new : List ℕ) → now ≡ old ++ flat_map piece (range_with_len 0 n) → new ≡ now ++ piece n → new ≡ old ++ flat_map piece (range_with_len 0 (n + 1))
pieces_more piece n old now new before here =
    let all : 0 + n ≡ n = omega arith in
    here
    ∙ ap (λ text. text ++ piece n) before
    ∙ flat_map_more piece old (range_with_len 0 n) n
    ∙ ap (λ xs. old ++ flat_map piece xs) (rw add-one (sym (range_more 0 n ∙ ap (λ b. range_with_len 0 n ++ b ∷ []) all)))
