-- The rising list of the moves that a test allows between so many states.
use Rattle.std.proofs.Common.{ℕ, zero, suc, ◌≡◌, ◌<◌, ◌≤◌, ◌+◌, ◌-◌, inl, inr, Bool, true, false, List, [], ◌∷◌, ◌++◌, Contains, length, get_or, refl, subst, sym, arith, ◌∙◌}
use Rattle.std.proofs.Math.Decide.{dec_lt}
use Rattle.std.proofs.lemmas.List.{get_or_append_left, get_or-append_right, length-append}
use Rattle.std.proofs.lemmas.List.Elements.{Contains-get_or, Contains-append_left, Contains-append_right, Contains-append_cases, Contains-push, Contains-push_cases}
use Rattle.pair_structure.specs.declared.side.Move.{Move}
use Rattle.pair_structure.specs.declared.side.Side.{Side}
use Rattle.pair_structure.specs.declared.side.Side.TheVariants.{A, B}
use Rattle.pair_structure.specs.Structure.{IsBefore, IsRising, side_number}

-- a list that rises with one that rises behind it
pub rises_append : (xs ys : List Move) → IsRising xs → IsRising ys → ((x y : Move) → Contains xs x → Contains ys y → IsBefore x y) → IsRising (xs ++ ys)
rises_append xs ys up up' below k d lt = by (dec_lt (k + 1) (length xs)) (dec_lt k (length xs))
  where
    total : length (xs ++ ys) ≡ length xs + length ys
    total = length-append xs ys

    by : Dec (k + 1 < length xs) → Dec (k < length xs) → IsBefore (get_or (xs ++ ys) k d) (get_or (xs ++ ys) (k + 1) d)
    by (yes l) e = let lk : k < length xs = omega (arith, l) in rw (get_or_append_left xs ys d k lk, get_or_append_left xs ys d (k + 1) l) (up k d l)
    by (no n) (yes l) =
        let past : length xs ≤ k + 1 = omega (arith, n) in
        let inside : k + 1 - length xs < length ys = omega (arith, lt, total, l, n) in
        rw (get_or_append_left xs ys d k l, get_or-append_right xs ys (length xs) (k + 1) d refl past) (below (get_or xs k d) (get_or ys (k + 1 - length xs) d) (Contains-get_or xs k d l) (Contains-get_or ys (k + 1 - length xs) d inside))
    by (no n) (no m) =
        let past : length xs ≤ k = omega (arith, m) in
        let past' : length xs ≤ k + 1 = omega (arith, m) in
        let e : k + 1 - length xs ≡ k - length xs + 1 = omega (arith, m) in
        let inside : k - length xs + 1 < length ys = omega (arith, lt, total, m) in
        rw (get_or-append_right xs ys (length xs) k d refl past, get_or-append_right xs ys (length xs) (k + 1) d refl past', e) (up' (k - length xs) d inside)

rises_none : IsRising []
rises_none k d lt = absurd (omega (arith, lt))

none_in : (x : Move) → Contains [] x → ⊥
none_in x h = absurd (omega (arith, h.1))

rises_push : (xs : List Move) (y : Move) → IsRising xs → ((x : Move) → Contains xs x → IsBefore x y) → IsRising (xs ++ y ∷ [])
rises_push xs y up below = rises_append xs (y ∷ []) up (λ k d lt. absurd (omega (arith, lt))) (λ x z hx hz. elim (Contains-push_cases [] y z hz) [ inl n ↦ absurd (none_in z n) | inr e ↦ subst (λ v. IsBefore x v) e (below x hx) ])

module _ (linked : ℕ → Side → ℕ → Bool) where
  abbrev move : ℕ → Side → ℕ → Move
  move s side t = record { from = s; side = side; to = t }

  pushed : List Move → Move → Bool → List Move
  pushed xs y true = xs ++ y ∷ []
  pushed xs y false = xs

  -- the moves of this side from s to states below t
  to_below : ℕ → Side → ℕ → List Move
  to_below s side zero = []
  to_below s side (suc t) = pushed (to_below s side t) (move s side t) (linked s side t)

  -- the moves from states below s to states below n
  pub moves_below : ℕ → ℕ → List Move
  moves_below n zero = []
  moves_below n (suc s) = moves_below n s ++ (to_below s A n ++ to_below s B n)

  abbrev IsTo : ℕ → Side → ℕ → Move → Type 0
  IsTo s side n x = (x.from ≡ s) × (x.side ≡ side) × (x.to < n) × (linked s side x.to ≡ true)

  to_is : (s : ℕ) (side : Side) (n : ℕ) (x : Move) → Contains (to_below s side n) x → IsTo s side n x
  unfolding to_below pushed
  to_is s side zero x h = absurd (none_in x h)
  to_is s side (suc n) x h = by (linked s side n) refl (to_is s side n x) h
    where
      by : (b : Bool) → linked s side n ≡ b → (Contains (to_below s side n) x → IsTo s side n x) → Contains (pushed (to_below s side n) (move s side n) b) x → IsTo s side (suc n) x
      by true e ih h = elim (Contains-push_cases (to_below s side n) (move s side n) x h) [ inl old ↦ (let u = ih old in (u.0, u.1, omega (arith, u.2), u.3)) | inr q ↦ subst (IsTo s side (suc n)) q (refl, refl, omega arith, e) ]
      by false e ih h = let u = ih h in (u.0, u.1, omega (arith, u.2), u.3)

  to_has : (s : ℕ) (side : Side) (n t : ℕ) → t < n → linked s side t ≡ true → Contains (to_below s side n) (move s side t)
  unfolding to_below pushed
  to_has s side zero t lt e = absurd (omega (arith, lt))
  to_has s side (suc n) t lt e = by (linked s side n) refl (dec_lt t n) (λ l. to_has s side n t l e)
    where
      by : (b : Bool) → linked s side n ≡ b → Dec (t < n) → (t < n → Contains (to_below s side n) (move s side t)) → Contains (pushed (to_below s side n) (move s side n) b) (move s side t)
      by true q (yes l) ih = Contains-append_left (to_below s side n) (move s side n ∷ []) (move s side t) (ih l)
      by true q (no g) ih = let same : n ≡ t = omega (arith, lt, g) in subst (λ v. Contains (to_below s side n ++ move s side n ∷ []) (move s side v)) same (Contains-push (to_below s side n) (move s side n))
      by false q (yes l) ih = ih l
      by false q (no g) ih = let same : n ≡ t = omega (arith, lt, g) in let here : linked s side n ≡ true = subst (λ v. linked s side v ≡ true) (sym same) e in absurd (let z : false ≡ true = sym q ∙ here in cc)

  to_rises : (s : ℕ) (side : Side) (n : ℕ) → IsRising (to_below s side n)
  unfolding to_below pushed
  to_rises s side zero = rises_none
  to_rises s side (suc n) = by (to_rises s side n) (linked s side n)
    where
      by : IsRising (to_below s side n) → (b : Bool) → IsRising (pushed (to_below s side n) (move s side n) b)
      by ih false = ih
      by ih true = rises_push (to_below s side n) (move s side n) ih (λ x h. let u = to_is s side n x h in inr (u.0, inr (u.1, u.2)))

  abbrev IsFrom : ℕ → ℕ → Move → Type 0
  IsFrom n s x = (x.from < s) × (x.to < n) × (linked x.from x.side x.to ≡ true)

  as_from : (n s : ℕ) (side : Side) (x : Move) → IsTo s side n x → IsFrom n (suc s) x
  as_from n s side x u = (omega (arith, u.0), u.2, subst (λ v. linked v x.side x.to ≡ true) (sym u.0) (subst (λ v. linked s v x.to ≡ true) (sym u.1) u.3))

  pub moves_are : (n s : ℕ) (x : Move) → Contains (moves_below n s) x → IsFrom n s x
  unfolding moves_below
  moves_are n zero x h = absurd (none_in x h)
  moves_are n (suc s) x h = elim (Contains-append_cases (moves_below n s) (to_below s A n ++ to_below s B n) x h) [
    | inl old ↦ (let u = moves_are n s x old in (omega (arith, u.0), u.1, u.2))
    | inr new ↦ elim (Contains-append_cases (to_below s A n) (to_below s B n) x new) [ inl a ↦ as_from n s A x (to_is s A n x a) | inr b ↦ as_from n s B x (to_is s B n x b) ]
  ]

  by_side : (n s t : ℕ) (side : Side) → Contains (to_below s side n) (move s side t) → Contains (to_below s A n ++ to_below s B n) (move s side t)
  by_side n s t A h = Contains-append_left (to_below s A n) (to_below s B n) (move s A t) h
  by_side n s t B h = Contains-append_right (to_below s A n) (to_below s B n) (move s B t) h

  pub moves_have : (n k s t : ℕ) (side : Side) → s < k → t < n → linked s side t ≡ true → Contains (moves_below n k) (move s side t)
  unfolding moves_below
  moves_have n zero s t side ls lt e = absurd (omega (arith, ls))
  moves_have n (suc k) s t side ls lt e = by (dec_lt s k) (λ l. moves_have n k s t side l lt e)
    where
      by : Dec (s < k) → (s < k → Contains (moves_below n k) (move s side t)) → Contains (moves_below n k ++ (to_below k A n ++ to_below k B n)) (move s side t)
      by (yes l) ih = Contains-append_left (moves_below n k) (to_below k A n ++ to_below k B n) (move s side t) (ih l)
      by (no g) ih = let same : s ≡ k = omega (arith, ls, g) in subst (λ v. Contains (moves_below n k ++ (to_below k A n ++ to_below k B n)) (move v side t)) (sym same) (Contains-append_right (moves_below n k) (to_below k A n ++ to_below k B n) (move k side t) (by_side n k t side (to_has k side n t lt (subst (λ v. linked v side t ≡ true) same e))))

  pub moves_rise : (n s : ℕ) → IsRising (moves_below n s)
  unfolding moves_below
  moves_rise n zero = rises_none
  moves_rise n (suc s) = rises_append (moves_below n s) (to_below s A n ++ to_below s B n) (moves_rise n s)
      (rises_append (to_below s A n) (to_below s B n) (to_rises s A n) (to_rises s B n) (λ x y hx hy. let u = to_is s A n x hx in let v = to_is s B n y hy in inr (u.0 ∙ sym v.0, inl (sides x.side y.side u.1 v.1))))
      (λ x y hx hy. let u = moves_are n s x hx in inl (lower x y u.0 (elim (Contains-append_cases (to_below s A n) (to_below s B n) y hy) [ inl a ↦ (to_is s A n y a).0 | inr b ↦ (to_is s B n y b).0 ])))
    where
      lower : (x y : Move) → x.from < s → y.from ≡ s → x.from < y.from
      lower x y lt e = omega (arith, lt, e)

      sides : (p q : Side) → p ≡ A → q ≡ B → side_number p < side_number q
      sides p q e f = subst (λ v. side_number v < side_number q) (sym e) (subst (λ v. side_number A < side_number v) (sym f) (omega arith))
