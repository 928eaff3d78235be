-- How wide a square is.
use Rattle.std.proofs.Common.{ℕ, zero, suc, inl, inr, List, [], ◌∷◌, ◌++◌, map, refl, ◌+◌, ◌≡◌, ◌<◌, ◌≤◌, ◌⊎◌, ◌*◌, ◌∙◌, ap, sym, arith}
use Rattle.std.specs.List.{flat_map, range_with_len}
use Rattle.std.proofs.lemmas.Grind.{flat_map-append}
use Rattle.std.proofs.lemmas.List.{append-nil}
use Rattle.std.proofs.lemmas.List.FromFn.{map-range_with_len_more}
use Rattle.std.proofs.Math.Nat.{mul-le-mul_left, mul-suc, mul_comm}
use Rattle.std.proofs.lemmas.Bool.{cases_order}
use Rattle.big_system.specs.Graphs.{ArePairs, IsWidth, grid_pairs, pairs_of_cell}

-- a square of three cells or more is not as wide as it has cells
pub not_as_wide : (count width : ℕ) → 3 ≤ count → count ≤ width → IsWidth count width → ⊥
not_as_wide count width enough wide square =
    let more : width * 3 ≤ width * width = mul-le-mul_left width (omega (arith, enough, wide)) in
    omega (arith, enough, wide, square, more)

-- a width is less than the number of cells
pub width_below : (count width : ℕ) → 3 ≤ count → IsWidth count width → width < count
width_below count width enough square = by (cases_order width count)
  where
    by : (width ≡ count) ⊎ ((width < count) ⊎ (count < width)) → width < count
    by (inl same) = absurd (not_as_wide count width enough (omega (arith, same)) square)
    by (inr (inl lt)) = lt
    by (inr (inr gt)) = absurd (not_as_wide count width enough (omega (arith, gt)) square)

pub some_width : (count width : ℕ) → 3 ≤ count → IsWidth count width → 0 < width
some_width count zero enough square = absurd (omega (arith, enough, square))
some_width count (suc w) enough square = omega arith

-- no square is less wide than another of as many cells
not_below : (w v : ℕ) → w < v → w * w ≡ v * v → ⊥
not_below w v lt same =
    let more : v * suc w ≤ v * v = mul-le-mul_left v lt in
    let less : w * w ≤ w * v = mul-le-mul_left w (omega (arith, lt)) in
    omega (arith, lt, same, more, less, mul_comm w v, mul-suc v w)

pub one_width : (w v : ℕ) → w * w ≡ v * v → w ≡ v
one_width w v same = by (cases_order w v)
  where
    by : (w ≡ v) ⊎ ((w < v) ⊎ (v < w)) → w ≡ v
    by (inl is) = is
    by (inr (inl lt)) = absurd (not_below w v lt same)
    by (inr (inr gt)) = absurd (not_below v w gt (sym same))

pub are_grid : (count width : ℕ) (pairs : List (ℕ × ℕ)) → IsWidth count width → pairs ≡ grid_pairs width count → ArePairs count pairs
are_grid count width pairs square so = record {
  grid = λ other is. so ∙ ap (λ (w : ℕ). grid_pairs w count) (one_width width other (square ∙ sym is));
  ring = λ none. absurd (none width square);
}

-- one more of a range
map_same : (l : List ℕ) → map (λ (x : ℕ). x) l ≡ l
map_same [] = refl
map_same (x ∷ l) = ap (λ (m : List ℕ). x ∷ m) (map_same l)

range_more : (n : ℕ) → range_with_len 0 (n + 1) ≡ range_with_len 0 n ++ n ∷ []
range_more n = sym (map_same (range_with_len 0 (n + 1))) ∙ map-range_with_len_more (λ (x : ℕ). x) 0 n n (omega arith) ∙ ap (λ (l : List ℕ). l ++ n ∷ []) (map_same (range_with_len 0 n))

-- the pairs of one more cell
pub pairs_more : (width count n : ℕ) → flat_map (pairs_of_cell width count) (range_with_len 0 (n + 1)) ≡ flat_map (pairs_of_cell width count) (range_with_len 0 n) ++ pairs_of_cell width count n
pairs_more width count n =
    ap (flat_map (pairs_of_cell width count)) (range_more n)
    ∙ flat_map-append (pairs_of_cell width count) (range_with_len 0 n) (n ∷ [])
    ∙ ap (λ (l : List (ℕ × ℕ)). flat_map (pairs_of_cell width count) (range_with_len 0 n) ++ l) (append-nil (pairs_of_cell width count n))
