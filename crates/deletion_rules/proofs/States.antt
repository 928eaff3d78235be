-- The list of the good positions below so many nodes.
use Rattle.std.proofs.Common.{ℕ, zero, suc, ◌≡◌, ◌<◌, inl, inr, List, [], ◌∷◌, ◌++◌, Contains, refl, subst, sym, arith}
use Rattle.std.proofs.Math.Decide.{dec_lt}
use Rattle.std.proofs.lemmas.List.Elements.{Contains-append_left, Contains-append_right, Contains-append_cases, Contains-push, Contains-push_cases}
use Rattle.ctl_form.proofs.Decided.{Decided}
use Rattle.deletion_rules.specs.declared.position.Position.{Position}

module _ (X : ℕ → Type 0) (d : (n : ℕ) → Decided (X n)) (size : ℕ) where
  abbrev at_node : ℕ → ℕ → Position
  at_node n x = record { node = n; place = x }

  -- the positions at node n below place x
  places_below : ℕ → ℕ → List Position
  places_below n zero = []
  places_below n (suc x) = places_below n x ++ at_node n x ∷ []

  if_good : ℕ → {n : ℕ} → Decided (X n) → List Position
  if_good x {n} (inl h) = places_below n x
  if_good x {n} (inr none) = []

  -- the positions at nodes below n that have the property
  pub positions_below : ℕ → List Position
  positions_below zero = []
  positions_below (suc n) = positions_below n ++ if_good size (d n)

  no_position : (p : Position) → Contains [] p → ⊥
  no_position p h = absurd (omega (arith, h.1))

  places_are : (n x : ℕ) (p : Position) → Contains (places_below n x) p → (p.node ≡ n) × (p.place < x)
  unfolding places_below
  places_are n zero p h = absurd (no_position p h)
  places_are n (suc x) p h = elim (Contains-push_cases (places_below n x) (at_node n x) p h) [ inl old ↦ (let u = places_are n x p old in (u.0, omega (arith, u.1))) | inr e ↦ subst (λ (q : Position). (q.node ≡ n) × (q.place < suc x)) e (refl, omega arith) ]

  places_have : (n x y : ℕ) → y < x → Contains (places_below n x) (at_node n y)
  unfolding places_below
  places_have n zero y lt = absurd (omega (arith, lt))
  places_have n (suc x) y lt = elim (dec_lt y x) [ yes l ↦ Contains-append_left (places_below n x) (at_node n x ∷ []) (at_node n y) (places_have n x y l) | no g ↦ (let e : x ≡ y = omega (arith, lt, g) in subst (λ z. Contains (places_below n x ++ at_node n x ∷ []) (at_node n z)) e (Contains-push (places_below n x) (at_node n x))) ]

  pub positions_are : (n : ℕ) (p : Position) → Contains (positions_below n) p → X p.node × (p.place < size)
  unfolding positions_below if_good
  positions_are zero p h = absurd (no_position p h)
  positions_are (suc n) p h = elim (Contains-append_cases (positions_below n) (if_good size (d n)) p h) [ inl old ↦ positions_are n p old | inr new ↦ by (d n) new ]
    where
      by : (e : Decided (X n)) → Contains (if_good size e) p → X p.node × (p.place < size)
      by (inl h) q = let u = places_are n size p q in (subst X (sym u.0) h, u.1)
      by (inr none) q = absurd (no_position p q)

  pub positions_have : (n m x : ℕ) → m < n → X m → x < size → Contains (positions_below n) (at_node m x)
  unfolding positions_below if_good
  positions_have zero m x lt h lx = absurd (omega (arith, lt))
  positions_have (suc n) m x lt h lx = elim (dec_lt m n) [ yes l ↦ Contains-append_left (positions_below n) (if_good size (d n)) (at_node m x) (positions_have n m x l h lx) | no g ↦ (let e : n ≡ m = omega (arith, lt, g) in Contains-append_right (positions_below n) (if_good size (d n)) (at_node m x) (subst (λ k. Contains (if_good size (d n)) (at_node k x)) e (by (subst X (sym e) h) (d n)))) ]
    where
      by : X n → (e : Decided (X n)) → Contains (if_good size e) (at_node n x)
      by k (inl y) = places_have n size x lx
      by k (inr none) = absurd (none k)
