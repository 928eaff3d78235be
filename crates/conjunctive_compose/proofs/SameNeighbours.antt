-- Two lists of the neighbours of one process are equal.
use Rattle.std.proofs.Common.{ℕ, suc, ◌≡◌, ◌<◌, ◌↔◌, inl, inr, List, [], ◌∷◌, arith, refl, sym, ◌∙◌, ap, subst, AllPairs, Contains}
use Rattle.interconnection.specs.declared.parts.Beside.{Beside}
use Rattle.interconnection.specs.declared.parts.Edge.{Edge}
use Rattle.interconnection.specs.Graph.{AreNeighbours}
use Rattle.conjunctive_compose.proofs.Filters.{Contains-cases, Contains-later}

abbrev Rise : List Beside → Type 0
Rise = AllPairs (λ (x y : Beside). x.process < y.process)

abbrev HaveSame : List Beside → List Beside → Type 0
HaveSame xs ys = (z : Beside) → Contains xs z ↔ Contains ys z

rise_tail : (x : Beside) (xs : List Beside) → Rise (x ∷ xs) → Rise xs
rise_tail x xs rise i j d lt in' = rise (suc i) (suc j) d (omega (arith, lt)) (omega (arith, in'))

first_below : (x : Beside) (xs : List Beside) (y : Beside) → Rise (x ∷ xs) → Contains xs y → x.process < y.process
first_below x xs y rise (i, lt, is) = subst (λ (z : Beside). x.process < z.process) is (rise 0 (suc i) y (omega arith) (omega (arith, lt)))

first_in : (x : Beside) (xs : List Beside) → Contains (x ∷ xs) x
first_in x xs = (0, omega arith, refl)

heads : (x y : Beside) (xs ys : List Beside) → Rise (x ∷ xs) → Rise (y ∷ ys) → HaveSame (x ∷ xs) (y ∷ ys) → x ≡ y
heads x y xs ys rise rise' same = elim (Contains-cases y ys x ((same x).0 (first_in x xs))) [
  | inl is ↦ sym is
  | inr in_ys ↦ elim (Contains-cases x xs y ((same y).1 (first_in y ys))) [
    | inl is ↦ is
    | inr in_xs ↦ absurd (omega (arith, first_below x xs y rise in_xs, first_below y ys x rise' in_ys))
  ]
]

rest_in : (x y : Beside) (xs ys : List Beside) → x ≡ y → Rise (x ∷ xs) → ((z : Beside) → Contains (x ∷ xs) z → Contains (y ∷ ys) z) → (z : Beside) → Contains xs z → Contains ys z
rest_in x y xs ys is rise has z h = elim (Contains-cases y ys z (has z (Contains-later x xs z h))) [
  | inl same ↦ absurd (omega (arith, first_below x xs z rise h, ap {B = ℕ} (λ (b : Beside). b.process) (is ∙ same)))
  | inr later ↦ later
]

same_rising : (xs ys : List Beside) → Rise xs → Rise ys → HaveSame xs ys → xs ≡ ys
same_rising [] [] rise rise' same = refl
same_rising [] (y ∷ ys) rise rise' same = absurd (omega (arith, ((same y).1 (first_in y ys)).1))
same_rising (x ∷ xs) [] rise rise' same = absurd (omega (arith, ((same x).0 (first_in x xs)).1))
same_rising (x ∷ xs) (y ∷ ys) rise rise' same =
    let is = heads x y xs ys rise rise' same in
    let rest = same_rising xs ys (rise_tail x xs rise) (rise_tail y ys rise') (λ z. (rest_in x y xs ys is rise (λ v. (same v).0) z, rest_in y x ys xs (sym is) rise' (λ v. (same v).1) z)) in
    ap (λ z. z ∷ xs) is ∙ ap (λ zs. y ∷ zs) rest

pub same_neighbours : (edges : List Edge) (k : ℕ) (xs ys : List Beside) → AreNeighbours edges k xs → AreNeighbours edges k ys → xs ≡ ys
same_neighbours edges k xs ys are are' = same_rising xs ys are.rising are'.rising (λ z. (λ h. (are'.exactly z).1 ((are.exactly z).0 h), λ h. (are.exactly z).1 ((are'.exactly z).0 h)))
