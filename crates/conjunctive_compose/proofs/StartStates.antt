-- The start states of a structure: each is the first state with its label.
use Rattle.std.proofs.Common.{ℕ, zero, suc, ◌≡◌, ◌<◌, ◌≤◌, ◌+◌, ◌*◌, ◌/◌, ◌%◌, ◌==◌, ◌⊎◌, inl, inr, Bool, false, List, length, get_or, take, count_by, Contains, arith, refl, ap, subst, ◌∙◌, eqb-true}
use Rattle.std.proofs.Math.Nat.{mod-lt, mul-le-mul_right}
use Rattle.std.proofs.lemmas.Bool.{cases_lt, cases_order, eq-eqb}
use Rattle.std.proofs.lemmas.List.Sums.{count_by_more_no, fails_before_first, passes_at_first}
use Rattle.std.proofs.lemmas.Nat.{div-add-mod'}
use Rattle.std.proofs.lemmas.Option.{get_or_from_slice_get, slice_get_within}
use Rattle.pair_structure.specs.Ordinal.{IsStateAt, is_same_label, ordinal_of}
use Rattle.pair_structure.specs.Role.{RoleParts, IsRole, start_at}
use Rattle.pair_structure.specs.Structure.{HaveStarts, label_at}
use Rattle.pair_structure.proofs.Ordinals.{other_label}
use Rattle.conjunctive_compose.specs.Whole.{place_among}

-- a start has a place among the starts, and stands there

pub place_within : (starts : List ℕ) (start : ℕ) → Contains starts start → place_among starts start < length starts
place_within starts start (k, lt, is) = elim (cases_lt (place_among starts start) (length starts)) [
  | inl within ↦ within
  | inr past ↦ absurd (let no = fails_before_first (λ other. other == start) starts k start (omega (arith, lt, past)) in let yes = eq-eqb _ start is in cc)
]

pub start_at_place : (starts : List ℕ) (start : ℕ) → Contains starts start → start_at starts (place_among starts start) ≡ start
start_at_place starts start has = eqb-true _ start (passes_at_first (λ other. other == start) starts 0 (place_within starts start has))

-- numbers of start states rise by the start of side a, and then by that of side b
lower_number : (p q i j n : ℕ) → q < n → j < n → p * n + q < i * n + j → (p < i) ⊎ ((p ≡ i) × (q < j))
lower_number p q i j n lt_q lt_j below = elim (cases_order p i) [
  | inl same ↦ inr (same, (let rows : p * n ≡ i * n = ap (λ r. r * n) same in omega (arith, below, rows)))
  | inr apart ↦ elim apart [
    | inl before ↦ inl before
    | inr after ↦ absurd (let more : suc i * n ≤ p * n = mul-le-mul_right n after in let row : suc i * n ≡ i * n + n = omega arith in omega (arith, below, lt_j, more, row))
  ]
]

count_by-none : {X : Type 0} (test : X → Bool) (xs : List X) (d : X) (n : ℕ) → n ≤ length xs → ((k : ℕ) → k < n → test (get_or xs k d) ≡ false) → count_by test (take n xs) ≡ 0
count_by-none test xs d zero le none = refl
count_by-none test xs d (suc n) le none =
    let more : n + 1 ≡ suc n = omega arith in
    subst (λ m. count_by test (take m xs) ≡ 0) more
    (count_by_more_no test xs n d (omega (arith, le)) (none n (omega arith)) ∙ count_by-none test xs d n (omega (arith, le)) (λ k lt. none k (omega (arith, lt))))

module _ (a b : RoleParts) (states : List (ℕ × ℕ)) (have : HaveStarts a b states) (role_a : IsRole a) (role_b : IsRole b) where
  start_label : (i j : ℕ) → i < length a.starts → j < length b.starts → label_at states (i * length b.starts + j) ≡ (start_at a.starts i, start_at b.starts j)
  start_label i j lt_i lt_j = get_or_from_slice_get states _ _ (0, 0) (have i j lt_i lt_j)

  -- a start state before this one has another label
  earlier_differs : (p q i j : ℕ) → q < length b.starts → i < length a.starts → j < length b.starts → p * length b.starts + q < i * length b.starts + j
      → is_same_label (start_at a.starts i, start_at b.starts j) (label_at states (p * length b.starts + q)) ≡ false
  earlier_differs p q i j lt_q lt_i lt_j below = elim (lower_number p q i j (length b.starts) lt_q lt_j below) [
    | inl before ↦ rw (start_label p q (omega (arith, before, lt_i)) lt_q) (other_label _ _ _ _ (λ same. role_a.starts_differ p i 0 before lt_i same.0))
    | inr (row, before) ↦ rw (start_label p q (omega (arith, row, lt_i)) lt_q) (other_label _ _ _ _ (λ same. role_b.starts_differ q j 0 before lt_j same.1))
  ]

  start_ordinal : (i j : ℕ) → i < length a.starts → j < length b.starts → i * length b.starts + j < length states → ordinal_of states (i * length b.starts + j) ≡ 0
  start_ordinal i j lt_i lt_j within =
      let n = length b.starts in
      let s = i * n + j in
      count_by-none (is_same_label (label_at states s)) states (0, 0) s (omega (arith, within))
      (λ k lt.
      let parts : k / n * n + k % n ≡ k = div-add-mod' k n in
      subst (λ k. is_same_label (label_at states s) (label_at states k) ≡ false) parts
      (rw (start_label i j lt_i lt_j) (earlier_differs (k / n) (k % n) i j (mod-lt k (omega (arith, lt_j))) lt_i lt_j (omega (arith, parts, lt)))))

  pub start_is_first : (i j : ℕ) → i < length a.starts → j < length b.starts → IsStateAt states (start_at a.starts i, start_at b.starts j) 0 (i * length b.starts + j)
  start_is_first i j lt_i lt_j =
      let within = slice_get_within states _ _ (have i j lt_i lt_j) in
      record { within = within; label_is = start_label i j lt_i lt_j; ordinal_is = start_ordinal i j lt_i lt_j within }
