-- Rising lists of moves with the same elements are equal.
use Rattle.std.proofs.Common.{suc, ◌≡◌, ◌⊎◌, ◌<◌, ◌+◌, ◌↔◌, inl, inr, List, [], ◌∷◌, get_or, Contains, refl, sym, ap, subst, ◌∙◌, arith}
use Rattle.std.proofs.lemmas.List.Elements.{Contains-append_left, Contains-append_right, Contains-append_cases, Contains-push, Contains-push_cases}
use Rattle.pair_structure.specs.declared.side.Move.{Move}
use Rattle.pair_structure.specs.Structure.{IsBefore, IsRising, side_number}

-- each of the list comes after x
abbrev Follow : Move → List Move → Type 0
Follow x ys = (y : Move) → Contains ys y → IsBefore x y

before_before : (x y z : Move) → IsBefore x y → IsBefore y z → IsBefore x z
before_before x y z (inl a) (inl b) = inl (omega (arith, a, b))
before_before x y z (inl a) (inr b) = inl (omega (arith, a, b.0))
before_before x y z (inr a) (inl b) = inl (omega (arith, a.0, b))
before_before x y z (inr a) (inr b) = inr (a.0 ∙ b.0, sides a.1 b.1)
  where
    sides : (side_number x.side < side_number y.side) ⊎ ((x.side ≡ y.side) × (x.to < y.to)) → (side_number y.side < side_number z.side) ⊎ ((y.side ≡ z.side) × (y.to < z.to)) → (side_number x.side < side_number z.side) ⊎ ((x.side ≡ z.side) × (x.to < z.to))
    sides (inl c) (inl d) = inl (omega (arith, c, d))
    sides (inl c) (inr d) = inl (omega (arith, c, ap side_number d.0))
    sides (inr c) (inl d) = inl (omega (arith, ap side_number c.0, d))
    sides (inr c) (inr d) = inr (c.0 ∙ d.0, omega (arith, c.1, d.1))

never_before_itself : (x : Move) → IsBefore x x → ⊥
never_before_itself x (inl a) = omega (arith, a)
never_before_itself x (inr a) = elim a.1 [ inl b ↦ omega (arith, b) | inr b ↦ omega (arith, b.1) ]

none_in : (x : Move) → Contains [] x → ⊥
none_in x h = absurd (omega (arith, h.1))

-- what a list with a first element has
cases_cons : (x : Move) (xs : List Move) (y : Move) → Contains (x ∷ xs) y → (x ≡ y) ⊎ Contains xs y
cases_cons x xs y h = elim (Contains-append_cases (x ∷ []) xs y h) [
  | inl one ↦ elim (Contains-push_cases [] x y one) [ inl none ↦ absurd (none_in y none) | inr e ↦ inl e ]
  | inr rest ↦ inr rest
]

first_in : (x : Move) (xs : List Move) → Contains (x ∷ xs) x
first_in x xs = Contains-append_left (x ∷ []) xs x (Contains-push [] x)

rest_in : (x : Move) (xs : List Move) (y : Move) → Contains xs y → Contains (x ∷ xs) y
rest_in x xs y h = Contains-append_right (x ∷ []) xs y h

rising_tail : (x : Move) (xs : List Move) → IsRising (x ∷ xs) → IsRising xs
rising_tail x xs up k d lt = let e : suc k + 1 ≡ suc (k + 1) = omega arith in subst (λ i. IsBefore (get_or xs k d) (get_or (x ∷ xs) i d)) e (up (suc k) d (omega (arith, lt)))

-- each later element of a rising list comes after the first
follow_first : (x : Move) (xs : List Move) → IsRising (x ∷ xs) → Follow x xs
follow_first x [] up y h = absurd (none_in y h)
follow_first x (z ∷ zs) up y h = elim (cases_cons z zs y h) [
  | inl e ↦ subst (IsBefore x) e (up 0 x (omega arith))
  | inr later ↦ before_before x z y (up 0 x (omega arith)) (follow_first z zs (rising_tail x (z ∷ zs) up) y later)
]

abbrev Same : List Move → List Move → Type 0
Same xs ys = (z : Move) → Contains xs z ↔ Contains ys z

heads : (x y : Move) (xs ys : List Move) → IsRising (x ∷ xs) → IsRising (y ∷ ys) → Same (x ∷ xs) (y ∷ ys) → x ≡ y
heads x y xs ys up up' same = elim (cases_cons y ys x ((same x).0 (first_in x xs))) [
  | inl e ↦ sym e
  | inr in_ys ↦ elim (cases_cons x xs y ((same y).1 (first_in y ys))) [
    | inl e ↦ e
    | inr in_xs ↦ absurd (never_before_itself x (before_before x y x (follow_first x xs up y in_xs) (follow_first y ys up' x in_ys)))
  ]
]

there : (x y : Move) (xs ys : List Move) → x ≡ y → IsRising (x ∷ xs) → ((z : Move) → Contains (x ∷ xs) z → Contains (y ∷ ys) z) → (z : Move) → Contains xs z → Contains ys z
there x y xs ys e up has z h = elim (cases_cons y ys z (has z (rest_in x xs z h))) [
  | inl f ↦ absurd (never_before_itself x (subst (IsBefore x) (sym (e ∙ f)) (follow_first x xs up z h)))
  | inr r ↦ r
]

tails : (x y : Move) (xs ys : List Move) → x ≡ y → IsRising (x ∷ xs) → IsRising (y ∷ ys) → Same (x ∷ xs) (y ∷ ys) → Same xs ys
tails x y xs ys e up up' same z = (there x y xs ys e up (λ v. (same v).0) z, there y x ys xs (sym e) up' (λ v. (same v).1) z)

pub same_rising : (xs ys : List Move) → IsRising xs → IsRising ys → Same xs ys → xs ≡ ys
same_rising [] [] up up' same = refl
same_rising [] (y ∷ ys) up up' same = absurd (none_in y ((same y).1 (first_in y ys)))
same_rising (x ∷ xs) [] up up' same = absurd (none_in x ((same x).0 (first_in x xs)))
same_rising (x ∷ xs) (y ∷ ys) up up' same =
    let e = heads x y xs ys up up' same in
    let rest = same_rising xs ys (rising_tail x xs up) (rising_tail y ys up') (tails x y xs ys e up up' same) in
    ap (λ z. z ∷ xs) e ∙ ap (λ zs. y ∷ zs) rest
