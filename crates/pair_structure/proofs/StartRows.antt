-- The start states, row by row: one row for each start of side a, and in it one state for each start of side b.
use Rattle.std.proofs.Common.{ℕ, zero, suc, ◌≡◌, ◌≢◌, ◌<◌, ◌≤◌, ◌+◌, ◌*◌, ◌-◌, Some, List, [], ◌∷◌, length, drop, slice_get, arith, refl, sym, ap, subst, ◌∙◌, below_more, inl, inr, AllPairs}
use Rattle.std.proofs.lemmas.Bool.{cases_lt}
use Rattle.std.proofs.lemmas.List.{drop-drop}
use Rattle.std.proofs.lemmas.Option.{same_Some, slice_get_within}
use Rattle.pair_structure.specs.inside.StartRow.{IsRow}
use Rattle.pair_structure.specs.Role.{RoleParts, IsRole, start_at}
use Rattle.pair_structure.specs.Structure.{HaveStarts, start_count}

-- the first n rows stand
abbrev pub HaveRows : List ℕ → List ℕ → List (ℕ × ℕ) → ℕ → Type 0
HaveRows a b states n = (i j : ℕ) → i < n → j < length b → slice_get states (i * length b + j) ≡ Some (start_at a i, start_at b j)

slice_get-drop : {X : Type 0} (n : ℕ) (xs : List X) (i : ℕ) → slice_get (drop n xs) i ≡ slice_get xs (n + i)
slice_get-drop zero xs i = (let same : i ≡ 0 + i = omega arith in ap (slice_get xs) same)
slice_get-drop (suc n) [] i = refl
slice_get-drop (suc n) (x ∷ xs) i = slice_get-drop n xs i ∙ (let same : suc (n + i) ≡ suc n + i = omega arith in ap (slice_get (x ∷ xs)) same)

pub row_within : (p : ℕ) (b : List ℕ) (states : List (ℕ × ℕ)) → IsRow p b states → length b ≤ length states
row_within p [] states row = omega arith
row_within p (q ∷ b) states row = let lt = slice_get_within states (length b) _ (row (length b) (omega arith)) in omega (arith, lt)

-- the row of the next start of side a
pub row_at : (a b : List ℕ) (states rest : List (ℕ × ℕ)) (n : ℕ) → rest ≡ drop (n * length b) states → HaveRows a b states (length a) → n < length a → IsRow (start_at a n) b rest
row_at a b states rest n is rows lt = subst (IsRow (start_at a n) b) (sym is) (λ j within. slice_get-drop (n * length b) states j ∙ rows n j lt within)

pub rows_more : (a b : List ℕ) (states rest : List (ℕ × ℕ)) (n : ℕ) → rest ≡ drop (n * length b) states → HaveRows a b states n → IsRow (start_at a n) b rest → HaveRows a b states (n + 1)
rows_more a b states rest n is rows row i j lt = more i lt j
  where
    last : IsRow (start_at a n) b (drop (n * length b) states)
    last = subst (IsRow (start_at a n) b) is row

    more : (i : ℕ) → i < n + 1 → (j : ℕ) → j < length b → slice_get states (i * length b + j) ≡ Some (start_at a i, start_at b j)
    more = below_more (λ i. (j : ℕ) → j < length b → slice_get states (i * length b + j) ≡ Some (start_at a i, start_at b j)) n (λ i lt j. rows i j lt)
        (λ j within. sym (slice_get-drop (n * length b) states j) ∙ last j within)

-- so many states there are, at least
pub starts_within : (a b : RoleParts) (states : List (ℕ × ℕ)) → HaveStarts a b states → 0 < length a.starts → 0 < length b.starts → length a.starts * length b.starts ≤ length states
starts_within a b states have some_a some_b =
    rows_within (length a.starts - 1) (length b.starts - 1) (length a.starts) (length b.starts) (length states) (omega (arith, some_a)) (omega (arith, some_b))
    (slice_get_within states _ _ (have (length a.starts - 1) (length b.starts - 1) (omega (arith, some_a)) (omega (arith, some_b))))
  where
    rows_within : (i j m n count : ℕ) → m ≡ suc i → n ≡ suc j → i * n + j < count → m * n ≤ count
    rows_within i j m n count is_m is_n lt = let whole : suc i * n ≡ i * n + n = omega arith in rw is_m (omega (arith, lt, is_n, whole))

-- each start state is a state
pub start_within : (a b : RoleParts) (states : List (ℕ × ℕ)) (s : ℕ) → HaveStarts a b states → s < start_count a b → s < length states
start_within a b states s have lt =
    elim (cases_lt 0 (length a.starts)) [
      | inl some_a ↦ elim (cases_lt 0 (length b.starts)) [
        | inl some_b ↦ omega (arith, lt, starts_within a b states have some_a some_b)
        | inr none ↦ (let zero : length b.starts ≡ 0 = omega (arith, none) in let past : s < length a.starts * 0 = subst (λ n. s < length a.starts * n) zero lt in absurd (omega (arith, past)))
      ]
      | inr none ↦ (let zero : length a.starts ≡ 0 = omega (arith, none) in let past : s < 0 * length b.starts = subst (λ m. s < m * length b.starts) zero lt in absurd (omega (arith, past)))
    ]

pub rest_more : (b : List ℕ) (states rest after : List (ℕ × ℕ)) (n : ℕ) → rest ≡ drop (n * length b) states → after ≡ drop (length b) rest → after ≡ drop ((n + 1) * length b) states
rest_more b states rest after n is past =
    let next : n * length b + length b ≡ (n + 1) * length b = omega arith in
    past ∙ ap (drop (length b)) is ∙ drop-drop (length b) (n * length b) states ∙ ap (λ k. drop k states) next

-- the start state in a row of a start, at another
pub start_among : (i j m n : ℕ) → i < m → j < n → i * n + j < m * n
start_among i j zero n li lj = absurd (omega (arith, li))
start_among i j (suc m) n li lj =
    let whole : suc m * n ≡ m * n + n = omega arith in
    elim (cases_lt i m) [
      | inl before ↦ omega (arith, start_among i j m n before lj, whole)
      | inr from ↦ (let last : i ≡ m = omega (arith, from, li) in subst (λ k. k * n + j < suc m * n) (sym last) (omega (arith, whole, lj)))
    ]

-- where a start state stands: in the row of one start, at another
start_place : (m n s : ℕ) → s < m * n → (i j : ℕ) × (i < m) × (j < n) × (s ≡ i * n + j)
start_place zero n s lt = absurd (omega (arith, lt))
start_place (suc m) n s lt = elim (cases_lt s (m * n)) [
  | inl before ↦ (let u = start_place m n s before in (u.0, u.1, omega (arith, u.2), u.3, u.4))
  | inr from ↦ (let whole : suc m * n ≡ m * n + n = omega arith in (m, s - m * n, omega arith, omega (arith, lt, from, whole), omega (arith, from)))
]

place_of : (starts : List ℕ) → AllPairs (λ x y. x ≢ y) starts → (i j : ℕ) → i < length starts → j < length starts → start_at starts i ≡ start_at starts j → i ≡ j
place_of starts differ i j li lj same = elim (cases_lt i j) [
  | inl before ↦ absurd (differ i j 0 before lj same)
  | inr from ↦ elim (cases_lt j i) [ inl after ↦ absurd (differ j i 0 after li (sym same)) | inr level ↦ omega (arith, from, level) ]
]

-- no two start states have one label
pub starts_apart : (a b : RoleParts) (states : List (ℕ × ℕ)) → IsRole a → IsRole b → HaveStarts a b states → (s t : ℕ) → s < start_count a b → t < start_count a b → slice_get states s ≡ slice_get states t → s ≡ t
starts_apart a b states role_a role_b have s t ls lt same =
    let u = start_place (length a.starts) (length b.starts) s ls in
    let v = start_place (length a.starts) (length b.starts) t lt in
    let labels = same_Some (start_at a.starts u.0, start_at b.starts u.1) (start_at a.starts v.0, start_at b.starts v.1)
    (sym (have u.0 u.1 u.2 u.3) ∙ ap (slice_get states) (sym u.4) ∙ same ∙ ap (slice_get states) v.4 ∙ have v.0 v.1 v.2 v.3) in
    let row = place_of a.starts role_a.starts_differ u.0 v.0 u.2 v.2 (ap (λ (l : ℕ × ℕ). l.0) labels) in
    let column = place_of b.starts role_b.starts_differ u.1 v.1 u.3 v.3 (ap (λ (l : ℕ × ℕ). l.1) labels) in
    u.4 ∙ ap (λ i. i * length b.starts + u.1) row ∙ ap (λ j. v.0 * length b.starts + j) column ∙ sym v.4
