-- What is not refuted of numbers, orders and lists of them holds.
use Rattle.std.proofs.Common.{ℕ, ◌≡◌, ◌<◌, ◌≤◌, inl, inr, refl, arith}
use Rattle.std.proofs.lemmas.Bool.{cases_lt}
use Rattle.std.specs.declared.cmp.Ordering.{Ordering}
use Rattle.std.specs.declared.cmp.Ordering.TheVariants.{Less, Equal, Greater}

pub lt-not_not : (m n : ℕ) → ((m < n → ⊥) → ⊥) → m < n
lt-not_not m n not_not = elim (cases_lt m n) [ inl lt ↦ lt | inr ge ↦ absurd (not_not (λ lt. omega (arith, lt, ge))) ]

pub le-not_not : (m n : ℕ) → ((m ≤ n → ⊥) → ⊥) → m ≤ n
le-not_not m n not_not = elim (cases_lt n m) [ inl lt ↦ absurd (not_not (λ le. omega (arith, lt, le))) | inr le ↦ le ]

pub is-not_not : (m n : ℕ) → (((m ≡ n) → ⊥) → ⊥) → m ≡ n
is-not_not m n not_not = let le = le-not_not m n (λ no. not_not (λ e. no (omega (arith, e)))) in let ge = le-not_not n m (λ no. not_not (λ e. no (omega (arith, e)))) in omega (arith, le, ge)

pub less-not_not : (o : Ordering) → (((o ≡ Less) → ⊥) → ⊥) → o ≡ Less
less-not_not Less not_not = refl
less-not_not Equal not_not = absurd (not_not (λ e. cc))
less-not_not Greater not_not = absurd (not_not (λ e. cc))
