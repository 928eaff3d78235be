-- The order of shapes, and the shapes of a process one after another.
use Rattle.std.proofs.Common.{ℕ, zero, suc, ◌≡◌, ◌<◌, ◌⊎◌, inl, inr, List, [], ◌∷◌, length, arith, refl, sym, ◌∙◌, subst, All, AllPairs, Contains}
use Rattle.std.proofs.lemmas.Bool.{cases_order}
use Rattle.std.proofs.lemmas.List.Elements.{All-cons, All-contains}
use Rattle.std.proofs.lemmas.List.Kept.{AllPairs-cons}
use Rattle.pair_structure.specs.declared.side.Side.{Side}
use Rattle.pair_structure.specs.declared.side.Side.TheVariants.{A, B}
use Rattle.interconnection.specs.Laws.{GoesToLast, NextShapesAreAll}
use Rattle.interconnection.specs.Network.{NetworkParts}
use Rattle.interconnection.specs.Shape.{IsBelow, IsShapeOf, ShapeParts, rank, rank_at}

-- a rank tells the label
pub same_label : (x y : ℕ × Side) → rank x ≡ rank y → x ≡ y
same_label (k, A) (l, A) same = let e : k ≡ l = omega (arith, same) in cc
same_label (k, A) (l, B) same = absurd (odd k l same)
  where
    odd : (k l : ℕ) → rank (k, A) ≡ rank (l, B) → ⊥
    odd k l same = omega (arith, same)
same_label (k, B) (l, A) same = absurd (odd k l same)
  where
    odd : (k l : ℕ) → rank (k, B) ≡ rank (l, A) → ⊥
    odd k l same = omega (arith, same)
same_label (k, B) (l, B) same = let e : k ≡ l = omega (arith, same) in cc

below_later : (x y : ℕ × Side) (xs ys : List (ℕ × Side)) → rank x ≡ rank y → IsBelow xs ys → IsBelow (x ∷ xs) (y ∷ ys)
below_later x y xs ys same (p, lt, agree, less) = (suc p, omega (arith, lt), λ i below. before i below, less)
  where
    before : (i : ℕ) → i < suc p → rank_at (x ∷ xs) i ≡ rank_at (y ∷ ys) i
    before zero below = same
    before (suc i) below = agree i (omega (arith, below))

-- of two lists of as many labels one is below, or they are the same
leaves_compared : (xs ys : List (ℕ × Side)) → length xs ≡ length ys → IsBelow xs ys ⊎ ((xs ≡ ys) ⊎ IsBelow ys xs)
leaves_compared [] [] same = inr (inl refl)
leaves_compared [] (y ∷ ys) same = absurd (omega (arith, same))
leaves_compared (x ∷ xs) [] same = absurd (omega (arith, same))
leaves_compared (x ∷ xs) (y ∷ ys) same = elim (cases_order (rank x) (rank y)) [
  | inl e ↦ elim (leaves_compared xs ys (omega (arith, same))) [
    | inl below ↦ inl (below_later x y xs ys e below)
    | inr rest ↦ elim rest [
      | inl f ↦ (let label = same_label x y e in inr (inl (cons_same x y xs ys label f)))
      | inr above ↦ inr (inr (below_later y x ys xs (sym e) above))
    ]
  ]
  | inr apart ↦ elim apart [
    | inl less ↦ inl (0, omega arith, λ i lt. absurd (omega (arith, lt)), less)
    | inr more ↦ inr (inr (0, omega arith, λ i lt. absurd (omega (arith, lt)), more))
  ]
]
  where
    cons_same : (x y : ℕ × Side) (xs ys : List (ℕ × Side)) → x ≡ y → xs ≡ ys → x ∷ xs ≡ y ∷ ys
    cons_same x y xs ys e f = cc

-- of two shapes of a process one is below, or they are the same
pub shapes_compared : (net : NetworkParts) (k : ℕ) (x y : ShapeParts) → IsShapeOf net k x → IsShapeOf net k y → IsBelow x.leaves y.leaves ⊎ ((x ≡ y) ⊎ IsBelow y.leaves x.leaves)
shapes_compared net k x y isx isy = elim (leaves_compared x.leaves y.leaves (isx.count ∙ sym isy.count)) [
  | inl below ↦ inl below
  | inr rest ↦ elim rest [
    | inl leaves ↦ inr (inl (λ i. record { role = (isx.role_is ∙ sym isy.role_is) i; leaves = leaves i }))
    | inr above ↦ inr (inr above)
  ]
]

pub never_below_itself : (xs : List (ℕ × Side)) → IsBelow xs xs → ⊥
never_below_itself xs (p, lt, agree, less) = omega (arith, less)

pub below_below : (xs ys zs : List (ℕ × Side)) → IsBelow xs ys → IsBelow ys zs → IsBelow xs zs
below_below xs ys zs (p, lt, agree, less) (q, lt', agree', less') = elim (cases_order p q) [
  | inl same ↦ (p, lt, λ i below. agree i below ∙ agree' i (omega (arith, below, same)), omega (arith, less, subst (λ q. rank_at ys q < rank_at zs q) (sym same) less'))
  | inr apart ↦ elim apart [
    | inl before ↦ (p, lt, λ i below. agree i below ∙ agree' i (omega (arith, below, before)), omega (arith, less, agree' p before))
    | inr after ↦ (q, omega (arith, lt, after), λ i below. agree i (omega (arith, below, after)) ∙ agree' i below, omega (arith, less', agree q after))
  ]
]

abbrev Above : ShapeParts → ShapeParts → Type 0
Above x y = IsBelow x.leaves y.leaves

-- a shape that is above x is among those after x
among_later : (net : NetworkParts) (k : ℕ) (x : ShapeParts) (later : List ShapeParts) → GoesToLast net k x later → (other : ShapeParts) → IsShapeOf net k other → Above x other → Contains later other
among_later net k x [] last other is above = absurd (last other is above)
among_later net k x (y ∷ later) (next, goes) other is above = elim (shapes_compared net k other y is next.is) [
  | inl between ↦ absurd (next.between other is above between)
  | inr rest ↦ elim rest [
    | inl same ↦ (0, omega arith, sym same)
    | inr after ↦ (let found = among_later net k y later goes other is after in (suc found.0, omega (arith, found.1), found.2))
  ]
]

-- those after x are above it
later_above : (net : NetworkParts) (k : ℕ) (x y : ShapeParts) (later : List ShapeParts) → Above x y → GoesToLast net k y later → All (Above x) (y ∷ later)
later_above net k x y [] above goes = All-cons (Above x) y [] above (λ i d lt. absurd (omega (arith, lt)))
later_above net k x y (z ∷ later) above (next, goes) = All-cons (Above x) y (z ∷ later) above (later_above net k x z later (below_below x.leaves y.leaves z.leaves above next.above) goes)

pub shapes_rise : (net : NetworkParts) (k : ℕ) (x : ShapeParts) (later : List ShapeParts) → GoesToLast net k x later → AllPairs Above (x ∷ later)
shapes_rise net k x [] goes = λ i j d lt in'. absurd (omega (arith, lt, in'))
shapes_rise net k x (y ∷ later) (next, goes) = AllPairs-cons Above x (y ∷ later) (later_above net k x y later next.above goes) (shapes_rise net k y later goes)

-- each of them is a shape
later_shapes : (net : NetworkParts) (k : ℕ) (x : ShapeParts) (later : List ShapeParts) → IsShapeOf net k x → GoesToLast net k x later → All (IsShapeOf net k) (x ∷ later)
later_shapes net k x [] is goes = All-cons (IsShapeOf net k) x [] is (λ i d lt. absurd (omega (arith, lt)))
later_shapes net k x (y ∷ later) is (next, goes) = All-cons (IsShapeOf net k) x (y ∷ later) is (later_shapes net k y later next.is goes)

pub all_shapes : NextShapesAreAll
all_shapes net k x later first goes = record {
  rising = shapes_rise net k x later goes;
  exactly = λ shape. (λ has. All-contains (IsShapeOf net k) (x ∷ later) shape (later_shapes net k x later first.is goes) has, λ is. has shape is);
}
  where
    has : (shape : ShapeParts) → IsShapeOf net k shape → Contains (x ∷ later) shape
    has shape is = elim (shapes_compared net k x shape first.is is) [
      | inl above ↦ (let found = among_later net k x later goes shape is above in (suc found.0, omega (arith, found.1), found.2))
      | inr rest ↦ elim rest [
        | inl same ↦ (0, omega arith, same)
        | inr below ↦ absurd (first.first shape is below)
      ]
    ]
