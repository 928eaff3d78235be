-- Labels that are sorted, and shapes that differ, one more at a time.
use Rattle.std.proofs.Common.{ℕ, ◌≡◌, ◌<◌, ◌≤◌, ◌+◌, ◌-◌, inl, inr, List, length, get_or, take, arith, sym, ◌∙◌, ap}
use Rattle.std.specs.List.Sorted.{IsNonDecreasingBy}
use Rattle.std.proofs.lemmas.Bool.{cases_eq, cases_lt}
use Rattle.std.proofs.lemmas.List.{get_or_default, get_or-take, length-take}
use Rattle.pair_structure.specs.declared.side.Side.{Side}
use Rattle.pair_structure.specs.declared.side.Side.TheVariants.{A}
use Rattle.interconnection.specs.Shape.{ShapeParts, rank}
use Rattle.waitfor_check.specs.Accepted.{HasShape}
use Rattle.waitfor_check.specs.Fitting.{ShapesDiffer}
use Rattle.waitfor_check.specs.declared.star.Star.{Star}

rank_at : (labels : List (ℕ × Side)) (i : ℕ) (d : ℕ × Side) → i < length labels → rank (get_or labels i d) ≡ rank (get_or labels i (0, A))
rank_at labels i d lt = ap {B = ℕ} rank (get_or_default labels i d (0, A) lt)

-- one label more, that does not fall
pub sorted_label : (labels : List (ℕ × Side)) (n : ℕ) → 1 ≤ n → n < length labels → ((j k : ℕ) (d : ℕ × Side) → j ≤ k → k < n → rank (get_or labels j d) ≤ rank (get_or labels k d)) → rank (get_or labels (n - 1) (0, A)) ≤ rank (get_or labels n (0, A))
    → (j k : ℕ) (d : ℕ × Side) → j ≤ k → k < n + 1 → rank (get_or labels j d) ≤ rank (get_or labels k d)
sorted_label labels n some lt before here j k d le in' = elim (cases_eq k n) [
  | inr other ↦ before j k d le (omega (arith, in', other))
  | inl last ↦ elim (cases_lt j n) [
    | inl low ↦ omega (arith, before j (n - 1) (0, A) (omega (arith, low)) (omega (arith, some)), here, rank_at labels j d (omega (arith, low, lt)), rank_at labels k d (omega (arith, last, lt)), ap {B = ℕ} (λ k. rank (get_or labels k (0, A))) last)
    | inr high ↦ (let same : j ≡ k = omega (arith, le, last, high) in omega (arith, ap {B = ℕ} (λ k. rank (get_or labels k d)) same))
  ]
]

-- a label that falls
pub falls : (labels : List (ℕ × Side)) (n : ℕ) → 1 ≤ n → n < length labels → rank (get_or labels n (0, A)) < rank (get_or labels (n - 1) (0, A)) → IsNonDecreasingBy rank labels → ⊥
falls labels n some lt low sorted = omega (arith, low, sorted (n - 1) n (0, A) (omega arith) lt)

-- a star whose shape stands before it
pub shape_again : (stars : List Star) (n : ℕ) (star : Star) → n < length stars → star ≡ get_or stars n star → HasShape (take n stars) star.shape → ShapesDiffer stars → ⊥
shape_again stars n star lt at (i, x, in', is, same) differ =
    let before : i < n = omega (arith, in', length-take n stars) in
    let left : get_or stars i star ≡ x = get_or_default stars i star x (omega (arith, before, lt)) ∙ sym (get_or-take n stars i x before) ∙ is in
    differ i n star before lt (ap {B = ShapeParts} (λ (s : Star). s.shape) left ∙ same ∙ ap {B = ShapeParts} (λ (s : Star). s.shape) at)

-- one star more, whose shape does not
pub shape_new : (stars : List Star) (n : ℕ) (star : Star) → n < length stars → star ≡ get_or stars n star → (HasShape (take n stars) star.shape → ⊥) → ((i j : ℕ) (d : Star) → i < j → j < n → (get_or stars i d).shape ≡ (get_or stars j d).shape → ⊥)
    → (i j : ℕ) (d : Star) → i < j → j < n + 1 → (get_or stars i d).shape ≡ (get_or stars j d).shape → ⊥
shape_new stars n star lt at new differ i j d before in' same = elim (cases_eq j n) [
  | inr other ↦ differ i j d before (omega (arith, in', other)) same
  | inl last ↦ (let low : i < n = omega (arith, before, last) in
      let right : get_or stars j d ≡ star = ap {B = Star} (λ j. get_or stars j d) last ∙ get_or_default stars n d star lt ∙ sym at in
      new (i, get_or stars i d, omega (arith, low, lt, length-take n stars), get_or-take n stars i (get_or stars i d) low ∙ get_or_default stars i (get_or stars i d) d (omega (arith, low, lt)), same ∙ ap {B = ShapeParts} (λ (s : Star). s.shape) right))
]
