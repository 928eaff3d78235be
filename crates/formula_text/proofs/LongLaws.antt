-- How counts go on over the tokens that are left.
use Rattle.std.proofs.Common.{ℕ, zero, suc, ◌≡◌, ◌<◌, ◌≤◌, ◌+◌, ◌-◌, Bool, true, false, ap, List, [], ◌∷◌, length, get_or, drop, map, max, refl, arith, cond}
use Rattle.formula_text.specs.Long.{is_open, is_close, open_after, most_open}

pub most_next : {X : Type 0} (f : X → List ℕ) (xs : List X) (i : ℕ) (d : X) (n : ℕ) → i < length xs → most_open n (drop i (map f xs)) ≡ max n (most_open (open_after n (f (get_or xs i d))) (drop (i + 1) (map f xs)))
most_next f [] i d n lt = absurd (omega arith)
most_next f (x ∷ xs) zero d n lt = refl
most_next f (x ∷ xs) (suc i) d n lt = let next : suc i + 1 ≡ suc (i + 1) = omega arith in rw next (most_next f xs i d n (omega arith))

-- so many are counted, this one counts as w, and the rest as the rest
pub weight_over : (n w total here rest weight : ℕ) → n + here ≡ total → w ≡ weight → here ≡ weight + rest → 256 < n + w → 256 < total
weight_over n w total here rest weight sum is next over = omega (arith, sum, is, next, over)

pub weight_step : (n w total here rest weight : ℕ) → n + here ≡ total → w ≡ weight → here ≡ weight + rest → n + w ≤ 256 → (n + w ≤ 256) × (n + w + rest ≡ total)
weight_step n w total here rest weight sum is next le = (le, omega (arith, sum, is, next))

small_after : (b c : Bool) (n : ℕ) → cond b (n + 1) (cond c (n - 1) n) ≤ n + 1
small_after true c n = omega arith
small_after false true n = omega arith
small_after false false n = omega arith

pub most_step : (opened i most m total here next : ℕ) (token : List ℕ) (left : List (List ℕ)) → opened ≤ i → max most here ≡ total → m ≡ max most opened → next ≡ open_after opened token → here ≡ max opened (most_open (open_after opened token) left)
    → (next ≤ i + 1) × (max m (most_open next left) ≡ total)
most_step opened i most m total here next token left le whole m_is next_is step =
    let small : open_after opened token ≤ opened + 1 = small_after (is_open token) (is_close token) opened in
    let same : most_open next left ≡ most_open (open_after opened token) left = ap (λ n. most_open n left) next_is in
    (omega arith, omega arith)
