-- The node that is picked is a best one.
use Rattle.std.proofs.Common.{ℕ, ◌≡◌, ◌⊎◌, ◌≤◌, ◌&&◌, inl, inr, Bool, true, false, cond, Option, Some, None, List, [], ◌∷◌, Contains, refl, subst, sym, arith, ◌∙◌, nat_lt}
use Rattle.std.proofs.lemmas.Bool.{and_parts}
use Rattle.deletion_rules.specs.inside.Picking.{IsBest}
use Rattle.deletion_rules.proofs.Basics.{Contains-cons, Contains-cons_more, Contains-cons_cases, and_rest}
use Rattle.unravel.specs.inside.Choice.{best_from, is_lower}

-- a lower rank is there, and below each that the other has
lower_yes : (x y : Option ℕ) → is_lower x y ≡ true → (k : ℕ) → y ≡ Some k → (j : ℕ) × (x ≡ Some j) × (j ≤ k)
lower_yes None y e k h = absurd (let z : false ≡ true = e in cc)
lower_yes (Some j) None e k h = absurd (let z : None ≡ Some k = h in cc)
lower_yes (Some j) (Some i) e k h = let same : i ≡ k = (let z : Some i ≡ Some k = h in cc) in let lt : nat_lt j i ≡ true = e in (j, refl, grind (arith, lt, same))

-- what is not lower has a rank only where the other has one that is not above it
lower_no : (x y : Option ℕ) → is_lower x y ≡ false → (j : ℕ) → x ≡ Some j → (k : ℕ) × (y ≡ Some k) × (k ≤ j)
lower_no None y e j h = absurd (let z : None ≡ Some j = h in cc)
lower_no (Some i) None e j h = absurd (let z : true ≡ false = e in cc)
lower_no (Some i) (Some k) e j h = let same : i ≡ j = (let z : Some i ≡ Some j = h in cc) in let ge : nat_lt i k ≡ false = e in (k, refl, grind (arith, ge, same))

module _ (lives : ℕ → Bool) (rank : ℕ → Option ℕ) where
  abbrev FromSome : ℕ → List ℕ → Type 0
  FromSome b0 ns = (b : ℕ) × (best_from lives rank (Some b0) ns ≡ Some b) × IsBest lives rank (b0 ∷ ns) b

  -- one more node takes the place, or does not
  taken : (b0 n : ℕ) (ns : List ℕ) → is_lower (rank n) (rank b0) ≡ true → (b : ℕ) → IsBest lives rank (n ∷ ns) b → lives n ≡ true → IsBest lives rank (b0 ∷ n ∷ ns) b
  taken b0 n ns low b best ln = record {
    among = Contains-cons_more b0 (n ∷ ns) b best.among;
    living = best.living;
    lowest = λ m j h lm q. elim (Contains-cons_cases b0 (n ∷ ns) m h) [
      | inl same ↦ (let u = lower_yes (rank n) (rank b0) low j (subst (λ v. rank v ≡ Some j) (sym same) q) in let v = best.lowest n u.0 (Contains-cons n ns) ln u.1 in let a : v.0 ≤ u.0 = v.2 in let d : u.0 ≤ j = u.2 in (v.0, v.1, omega (arith, a, d)))
      | inr old ↦ best.lowest m j old lm q
    ];
  }

  passed : (b0 n : ℕ) (ns : List ℕ) → (lives n ≡ true → is_lower (rank n) (rank b0) ≡ false) → (b : ℕ) → IsBest lives rank (b0 ∷ ns) b → lives b0 ≡ true → IsBest lives rank (b0 ∷ n ∷ ns) b
  passed b0 n ns high b best lb = record {
    among = elim (Contains-cons_cases b0 ns b best.among) [ inl e ↦ subst (λ v. Contains (b0 ∷ n ∷ ns) v) e (Contains-cons b0 (n ∷ ns)) | inr old ↦ Contains-cons_more b0 (n ∷ ns) b (Contains-cons_more n ns b old) ];
    living = best.living;
    lowest = λ m j h lm q. elim (Contains-cons_cases b0 (n ∷ ns) m h) [
      | inl same ↦ best.lowest m j (subst (λ v. Contains (b0 ∷ ns) v) same (Contains-cons b0 ns)) lm q
      | inr more ↦ elim (Contains-cons_cases n ns m more) [
        | inl same ↦ (let ln : lives n ≡ true = subst (λ v. lives v ≡ true) (sym same) lm in let u = lower_no (rank n) (rank b0) (high ln) j (subst (λ v. rank v ≡ Some j) (sym same) q) in let v = best.lowest b0 u.0 (Contains-cons b0 ns) lb u.1 in let a : v.0 ≤ u.0 = v.2 in let d : u.0 ≤ j = u.2 in (v.0, v.1, omega (arith, a, d)))
        | inr old ↦ best.lowest m j (Contains-cons_more b0 ns m old) lm q
      ]
    ];
  }

  from_some : (ns : List ℕ) (b0 : ℕ) → lives b0 ≡ true → FromSome b0 ns
  from_some [] b0 l = (b0, refl, record { among = Contains-cons b0 []; living = l; lowest = λ m j h lm q. elim (Contains-cons_cases b0 [] m h) [ inl same ↦ (j, subst (λ v. rank v ≡ Some j) (sym same) q, omega arith) | inr z ↦ absurd (omega (arith, z.1)) ] })
  from_some (n ∷ ns) b0 l = by (lives n && is_lower (rank n) (rank b0)) refl (from_some ns n) (from_some ns b0 l)
    where
      by : (t : Bool) → (lives n && is_lower (rank n) (rank b0)) ≡ t → (lives n ≡ true → FromSome n ns) → FromSome b0 ns → (b : ℕ) × (best_from lives rank (cond t (Some n) (Some b0)) ns ≡ Some b) × IsBest lives rank (b0 ∷ n ∷ ns) b
      by true e more same = let u = and_parts (lives n) (is_lower (rank n) (rank b0)) e in let v = more u.0 in (v.0, v.1, taken b0 n ns u.1 v.0 v.2 u.0)
      by false e more same = (same.0, same.1, passed b0 n ns (and_rest (lives n) (is_lower (rank n) (rank b0)) e) same.0 same.2 l)

  abbrev FromNone : List ℕ → Type 0
  FromNone ns = ((b : ℕ) × (best_from lives rank None ns ≡ Some b) × IsBest lives rank ns b) ⊎ ((n : ℕ) → Contains ns n → lives n ≡ true → ⊥)

  pub from_none : (ns : List ℕ) → FromNone ns
  from_none [] = inr (λ n h l. absurd (omega (arith, h.1)))
  from_none (n ∷ ns) = by (lives n) refl (from_some ns n) (from_none ns)
    where
      by : (t : Bool) → lives n ≡ t → (lives n ≡ true → FromSome n ns) → FromNone ns → ((b : ℕ) × (best_from lives rank (cond t (Some n) None) ns ≡ Some b) × IsBest lives rank (n ∷ ns) b) ⊎ ((m : ℕ) → Contains (n ∷ ns) m → lives m ≡ true → ⊥)
      by true e more rest = inl (more e)
      by false e more (inl u) = inl (u.0, u.1, record { among = Contains-cons_more n ns u.0 u.2.among; living = u.2.living; lowest = λ m j h lm q. elim (Contains-cons_cases n ns m h) [ inl same ↦ absurd (let z : false ≡ true = sym e ∙ subst (λ v. lives v ≡ true) (sym same) lm in cc) | inr old ↦ u.2.lowest m j old lm q ] })
      by false e more (inr none) = inr (λ m h lm. elim (Contains-cons_cases n ns m h) [ inl same ↦ (let z : false ≡ true = sym e ∙ subst (λ v. lives v ≡ true) (sym same) lm in cc) | inr old ↦ none m old lm ])

-- where some node of the list lives, one is picked, and it is best
pub best_is : (lives : ℕ → Bool) (rank : ℕ → Option ℕ) (ns : List ℕ) (n : ℕ) → Contains ns n → lives n ≡ true → (b : ℕ) × (best_from lives rank None ns ≡ Some b) × IsBest lives rank ns b
best_is lives rank ns n h l = elim (from_none lives rank ns) [ inl u ↦ u | inr none ↦ absurd (none n h l) ]
