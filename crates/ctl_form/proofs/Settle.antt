-- A property that only falls from round to round, over finitely many numbers, stops falling.
use Rattle.std.proofs.Common.{ℕ, zero, suc, ◌≡◌, ◌<◌, ◌≤◌, inl, inr, arith, subst, sym}
use Rattle.std.proofs.Math.Decide.{dec_lt, dec_le}
use Rattle.ctl_form.proofs.Decided.{Decided}

-- below n nothing that R has in round k is gone in the next
abbrev pub IsSettled : (ℕ → ℕ → Type 0) → ℕ → ℕ → Type 0
IsSettled R n k = (s : ℕ) → s < n → R k s → R (suc k) s

abbrev pub Falls : (ℕ → ℕ → Type 0) → ℕ → Type 0
Falls R n = (k s : ℕ) → s < n → R (suc k) s → R k s

-- what holds in a round holds in each earlier one
pub holds_earlier : (R : ℕ → ℕ → Type 0) (s : ℕ) → ((k : ℕ) → R (suc k) s → R k s) → (k j : ℕ) → k ≤ j → R j s → R k s
holds_earlier R s falls k zero le h = subst (λ i. R i s) (omega arith) h
holds_earlier R s falls k (suc j) le h = elim (dec_le k j) [ yes l ↦ holds_earlier R s falls k j l (falls j h) | no g ↦ subst (λ i. R i s) (omega (arith, g)) h ]

settled_more : (R : ℕ → ℕ → Type 0) (n k : ℕ) → IsSettled R n k → (R k n → R (suc k) n) → IsSettled R (suc n) k
settled_more R n k h here s lt r = elim (dec_lt s n) [ yes l ↦ h s l r | no g ↦ at_last (omega (arith, g)) ]
  where
    at_last : s ≡ n → R (suc k) s
    at_last e = subst (λ i. R (suc k) i) (sym e) (here (subst (λ i. R k i) e r))

-- one more number: where it falls at a settled round, a later settled round has lost it
settles_step : (R : ℕ → ℕ → Type 0) (n k0 : ℕ) → ((k : ℕ) → R (suc k) n → R k n) → (k : ℕ) → k0 ≤ k → IsSettled R n k → ((k1 : ℕ) → (k : ℕ) × (k1 ≤ k) × IsSettled R n k) → Decided (R k n) → Decided (R (suc k) n) → (k : ℕ) × (k0 ≤ k) × IsSettled R (suc n) k
settles_step R n k0 falls k le h again (inr none) e = (k, le, settled_more R n k h (λ r. absurd (none r)))
settles_step R n k0 falls k le h again (inl r) (inl stays) = (k, le, settled_more R n k h (λ _. stays))
settles_step R n k0 falls k le h again (inl r) (inr gone) =
    let j = again (suc k) in (j.0, omega (arith, j.1), settled_more R n j.0 j.2 (λ back. absurd (gone (holds_earlier R n falls (suc k) j.0 j.1 back))))

-- from any round on there is one in which nothing falls
pub falls_settle : (R : ℕ → ℕ → Type 0) (n : ℕ) → ((k s : ℕ) → s < n → Decided (R k s)) → Falls R n → (k0 : ℕ) → (k : ℕ) × (k0 ≤ k) × IsSettled R n k
falls_settle R zero d falls k0 = (k0, omega arith, λ s lt. absurd (omega (arith, lt)))
falls_settle R (suc n) d falls k0 = let u = falls_settle R n (λ k s lt. d k s (omega arith)) (λ k s lt. falls k s (omega arith)) in
    settles_step R n k0 (λ k. falls k n (omega arith)) (u k0).0 (u k0).1 (u k0).2 u (d (u k0).0 n (omega arith)) (d (suc (u k0).0) n (omega arith))
