-- What has been elected stays so where another block gets a leader.
use Rattle.std.proofs.Common.{ℕ, ◌≡◌, ◌<◌, ◌+◌, ◌∙◌, Bool, List, arith, slice_index, subst, sym, ap}
use Rattle.std.proofs.Math.Decide.{ℕ_discrete, dec_lt}
use Rattle.pair_quotient.specs.inside.Refining.{IsElected, IsSettled}

pub elected_still : (n : ℕ) (classes leaders classes' leaders' : List ℕ) (settled : List Bool) (touched : List ℕ) (i : ℕ) → classes' ≡ classes → ((b : ℕ) → (b ≡ slice_index touched i → ⊥) → slice_index leaders' b ≡ slice_index leaders b) → IsElected n classes' leaders' settled (slice_index touched i)
    → ((k : ℕ) → k < i → IsElected n classes leaders settled (slice_index touched k)) → (k : ℕ) → k < i + 1 → IsElected n classes' leaders' settled (slice_index touched k)
elected_still n classes leaders classes' leaders' settled touched i same others here before k lt = elim (ℕ_discrete (slice_index touched k) (slice_index touched i)) [
  | yes e ↦ subst (IsElected n classes' leaders' settled) (sym e) here
  | no apart ↦ elim (dec_lt k i) [
    | yes l ↦ (λ s ls e is. subst (IsSettled settled) (sym (others (slice_index touched k) apart)) (before k l s ls (ap (λ c. slice_index c s) (sym same) ∙ e) is))
    | no g ↦ (let f : k ≡ i = omega (arith, g, lt) in absurd (apart (ap (λ j. slice_index touched j) f)))
  ]
]
