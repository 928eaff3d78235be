-- Rows of one length, side by side in one list.
use Rattle.std.proofs.Common.{ℕ, ◌≡◌, ◌<◌, ◌≤◌, ◌+◌, ◌-◌, ◌*◌, ◌^◌, List, [], ◌∷◌, ◌++◌, length, get_or, take, drop, map, arith, refl, sym, ◌∙◌, ap, subst, All, inl, inr}
use Rattle.std.specs.List.{range_with_len, slice_range}
use Rattle.std.proofs.Math.Nat.{mul-le-mul_left, mul_comm}
use Rattle.std.proofs.lemmas.Bool.{cases_eq}
use Rattle.std.proofs.lemmas.List.{length-append, drop-append-le, length-drop, length-take, take-append-le, take_all}
use Rattle.std.proofs.lemmas.List.FromFn.{get_or-map-range_with_len, length-map-range_with_len, map-range_with_len_more, fill_by_all}
use Rattle.std.proofs.lemmas.List.Elements.{All-get_or}
use Rattle.std.proofs.Math.Seq.{drop-append_seam}
use Rattle.waitfor_check.specs.inside.Rows.{row_at, rows_of}

-- a row ends where the list does, or before
pub row_within : (i n w total : ℕ) → i < n → n * w ≡ total → i * w + w ≤ total
row_within i n w total lt is = omega (arith, mul-le-mul_left w (suc_le i n lt), mul_comm w (i + 1), mul_comm w n, next i w, is)
  where
    suc_le : (i n : ℕ) → i < n → i + 1 ≤ n
    suc_le i n lt = omega (arith, lt)

    next : (i w : ℕ) → (i + 1) * w ≡ i * w + w
    next i w = omega arith

pub length-rows_of : (w n : ℕ) (xs : List ℕ) → length (rows_of w n xs) ≡ n
length-rows_of w n xs = length-map-range_with_len (row_at w xs) 0 n

pub get_or-rows_of : (w n : ℕ) (xs : List ℕ) (i : ℕ) (d : List ℕ) → i < n → get_or (rows_of w n xs) i d ≡ row_at w xs i
get_or-rows_of w n xs i d lt = get_or-map-range_with_len (row_at w xs) 0 n i i d lt (omega arith)

pub length-row_at : (w n : ℕ) (xs : List ℕ) (i : ℕ) → i < n → n * w ≡ length xs → length (row_at w xs i) ≡ w
length-row_at w n xs i lt is = let within = row_within i n w (length xs) lt is in omega (arith, within, length-take (i * w + w - i * w) (drop (i * w) xs), length-drop (i * w) xs)

-- where each row is of this length, it is that of the rows
pub width_is : (w n leaves : ℕ) (xs : List ℕ) → 0 < n → n * w ≡ length xs → All (λ (member : List ℕ). length member ≡ leaves) (rows_of w n xs) → w ≡ leaves
width_is w n leaves xs some is all =
    let first : length (get_or (rows_of w n xs) 0 []) ≡ leaves = All-get_or (λ (member : List ℕ). length member ≡ leaves) (rows_of w n xs) 0 [] (omega (arith, some, length-rows_of w n xs)) all in
    sym (length-row_at w n xs 0 some is) ∙ ap {B = ℕ} (λ (row : List ℕ). length row) (sym (get_or-rows_of w n xs 0 [] some)) ∙ first

-- so many rows of this length are few
pub rows_few : (w n leaves : ℕ) (xs : List ℕ) → n * w ≡ length xs → length xs < 2 ^ 60 → All (λ (member : List ℕ). length member ≡ leaves) (rows_of w n xs) → leaves * length (rows_of w n xs) < 2 ^ 60
rows_few w n leaves xs is small all = elim (cases_eq n 0) [
  | inl none ↦ (let e : length (rows_of w n xs) ≡ 0 = length-rows_of w n xs ∙ none in rw (e, mul_comm leaves 0) (omega arith))
  | inr some ↦ rw (← width_is w n leaves xs (omega (arith, some)) is all, length-rows_of w n xs, mul_comm w n, is) small
]

-- rows stay where more stands behind them
row_stays : (w n : ℕ) (xs ys : List ℕ) (i : ℕ) → i < n → n * w ≡ length xs → row_at w (xs ++ ys) i ≡ row_at w xs i
row_stays w n xs ys i lt is =
    let within = row_within i n w (length xs) lt is in
    ap (take (i * w + w - i * w)) (drop-append-le (i * w) xs ys (omega (arith, within))) ∙ take-append-le (i * w + w - i * w) (drop (i * w) xs) ys (omega (arith, within, length-drop (i * w) xs))

-- one row more
pub rows_more : (w n : ℕ) (xs ys : List ℕ) → n * w ≡ length xs → length ys ≡ w → rows_of w (n + 1) (xs ++ ys) ≡ rows_of w n xs ++ ys ∷ []
rows_more w n xs ys is size = map-range_with_len_more (row_at w (xs ++ ys)) 0 n n (omega arith) ∙ ap (λ (rows : List (List ℕ)). rows ++ row_at w (xs ++ ys) n ∷ []) before ∙ ap (λ (row : List ℕ). rows_of w n xs ++ row ∷ []) last
  where
    before : rows_of w n (xs ++ ys) ≡ rows_of w n xs
    before = fill_by_all (row_at w xs) (rows_of w n (xs ++ ys)) n [] (length-rows_of w n (xs ++ ys)) (λ k lt. get_or-rows_of w n (xs ++ ys) k [] lt ∙ row_stays w n xs ys k lt is)

    last : row_at w (xs ++ ys) n ≡ ys
    last = ap (λ (k : ℕ). take (k + w - k) (drop k (xs ++ ys))) is ∙ ap (take (length xs + w - length xs)) (drop-append_seam xs ys) ∙ take_all (length xs + w - length xs) ys (omega (arith, size))

-- one row more, as long as those before it
pub rows_pushed : (w n : ℕ) (xs ys : List ℕ) → n * w ≡ length xs → All (λ (member : List ℕ). length member ≡ length ys) (rows_of w n xs) → rows_of (length ys) (n + 1) (xs ++ ys) ≡ rows_of w n xs ++ ys ∷ []
rows_pushed w n xs ys is all = elim (cases_eq n 0) [
  | inl none ↦ (let empty : 0 * length ys ≡ length xs = omega (arith, ap {B = ℕ} (λ n. n * w) none, is) in rw none (rows_more (length ys) 0 xs ys empty refl))
  | inr some ↦ (let same = width_is w n (length ys) xs (omega (arith, some)) is all in subst (λ (v : ℕ). rows_of v (n + 1) (xs ++ ys) ≡ rows_of w n xs ++ ys ∷ []) same (rows_more w n xs ys is (sym same)))
]

-- and as many numbers more
pub count_pushed : (w n : ℕ) (xs ys : List ℕ) → n * w ≡ length xs → All (λ (member : List ℕ). length member ≡ length ys) (rows_of w n xs) → (n + 1) * length ys ≡ length (xs ++ ys)
count_pushed w n xs ys is all = elim (cases_eq n 0) [
  | inl none ↦ omega (arith, ap {B = ℕ} (λ n. n * w) none, ap {B = ℕ} (λ n. (n + 1) * length ys) none, is, length-append xs ys)
  | inr some ↦ (let same = width_is w n (length ys) xs (omega (arith, some)) is all in omega (arith, ap {B = ℕ} (λ (w : ℕ). n * w) same, is, length-append xs ys, next n (length ys)))
]
  where
    next : (n w : ℕ) → (n + 1) * w ≡ n * w + w
    next n w = omega arith
