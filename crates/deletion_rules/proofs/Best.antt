-- A living node of a list with the lowest rank of an until.
use Rattle.std.proofs.Common.{ℕ, ◌≡◌, ◌⊎◌, ◌≤◌, inl, inr, Bool, true, Option, Some, None, List, [], ◌∷◌, Contains, refl, subst, sym, arith}
use Rattle.std.proofs.Math.Decide.{dec_le}
use Rattle.ctl_form.proofs.Decided.{Decided}
use Rattle.deletion_rules.specs.inside.Picking.{IsBest}
use Rattle.deletion_rules.proofs.Pending.{decided_has}
use Rattle.deletion_rules.proofs.Basics.{Contains-cons, Contains-cons_more, Contains-cons_cases, none_not_some, value_same}

module _ (lives : ℕ → Bool) (rank : ℕ → Option ℕ) where
  abbrev Best : List ℕ → Type 0
  Best ns = ((k : ℕ) × IsBest lives rank ns k) ⊎ ((n : ℕ) → Contains ns n → lives n ≡ true → ⊥)

  -- the node in front, or the best one behind it
  choose : (n : ℕ) (ns : List ℕ) (k : ℕ) → lives n ≡ true → IsBest lives rank ns k → (x y : Option ℕ) → rank n ≡ x → rank k ≡ y → (z : ℕ) × IsBest lives rank (n ∷ ns) z
  choose n ns k l best None y e f = (k, record { among = Contains-cons_more n ns k best.among; living = best.living; lowest = λ m j h lm q. elim (Contains-cons_cases n ns m h) [ inl same ↦ absurd (none_not_some (rank n) j e (subst (λ v. rank v ≡ Some j) (sym same) q)) | inr old ↦ best.lowest m j old lm q ] })
  choose n ns k l best (Some x) None e f = (n, record { among = Contains-cons n ns; living = l; lowest = λ m j h lm q. elim (Contains-cons_cases n ns m h) [ inl same ↦ (let r : rank n ≡ Some j = subst (λ v. rank v ≡ Some j) (sym same) q in (j, r, omega arith)) | inr old ↦ (let u = best.lowest m j old lm q in absurd (none_not_some (rank k) u.0 f u.1)) ] })
  choose n ns k l best (Some x) (Some y) e f = by (dec_le y x)
    where
      by : Dec (y ≤ x) → (z : ℕ) × IsBest lives rank (n ∷ ns) z
      by (yes le) = (k, record { among = Contains-cons_more n ns k best.among; living = best.living; lowest = λ m j h lm q. elim (Contains-cons_cases n ns m h) [ inl same ↦ (let z : x ≡ j = value_same (rank n) x j e (subst (λ v. rank v ≡ Some j) (sym same) q) in (y, f, omega (arith, le, z))) | inr old ↦ best.lowest m j old lm q ] })
      by (no gt) = (n, record { among = Contains-cons n ns; living = l; lowest = λ m j h lm q. elim (Contains-cons_cases n ns m h) [ inl same ↦ (let r : rank n ≡ Some j = subst (λ v. rank v ≡ Some j) (sym same) q in (j, r, omega arith)) | inr old ↦ (let u = best.lowest m j old lm q in let z : u.0 ≡ y = value_same (rank k) u.0 y u.1 f in let le : u.0 ≤ j = u.2 in (x, e, omega (arith, gt, z, le))) ] })

  pub best_of : (ns : List ℕ) → Best ns
  best_of [] = inr (λ n h l. absurd (omega (arith, h.1)))
  best_of (n ∷ ns) = by (decided_has (lives n)) (best_of ns)
    where
      by : Decided (lives n ≡ true) → Best ns → Best (n ∷ ns)
      by (inl l) (inl u) = inl (choose n ns u.0 l u.1 (rank n) (rank u.0) refl refl)
      by (inl l) (inr none) = inl (n, record { among = Contains-cons n ns; living = l; lowest = λ m j h lm q. elim (Contains-cons_cases n ns m h) [ inl same ↦ (let r : rank n ≡ Some j = subst (λ v. rank v ≡ Some j) (sym same) q in (j, r, omega arith)) | inr old ↦ absurd (none m old lm) ] })
      by (inr dead) (inl u) = inl (u.0, record { among = Contains-cons_more n ns u.0 u.1.among; living = u.1.living; lowest = λ m j h lm q. elim (Contains-cons_cases n ns m h) [ inl same ↦ absurd (dead (subst (λ v. lives v ≡ true) (sym same) lm)) | inr old ↦ u.1.lowest m j old lm q ] })
      by (inr dead) (inr none) = inr (λ m h lm. elim (Contains-cons_cases n ns m h) [ inl same ↦ dead (subst (λ v. lives v ≡ true) (sym same) lm) | inr old ↦ none m old lm ])
