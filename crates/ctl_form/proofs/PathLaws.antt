-- What holds along each path, in one step.
use Rattle.std.proofs.Common.{ℕ, inl, inr, List, [], ◌∷◌}
use Rattle.pair_structure.specs.Structure.{Structure}
use Rattle.pair_structure.specs.Structure.{Reaches}
use Rattle.ctl_form.specs.Path.{EachUnless, EachPathUnless}

-- with nothing to release it, the first state has P
pub EachUnless-now : (P : ℕ → Type 0) (s : ℕ) (later : List ℕ) → EachUnless P (λ t. ⊥) s later → P s
EachUnless-now P s [] h = elim h [ inl p ↦ p | inr q ↦ absurd q ]
EachUnless-now P s (t ∷ later) h = elim h [ inl q ↦ absurd q | inr p ↦ p.0 ]

pub EachUnless-later : (P : ℕ → Type 0) (s t : ℕ) (later : List ℕ) → EachUnless P (λ t. ⊥) s (t ∷ later) → EachUnless P (λ t. ⊥) t later
EachUnless-later P s t later h = elim h [ inl q ↦ absurd q | inr p ↦ p.1 ]

pub EachPathUnless-now : (m : Structure) (P : ℕ → Type 0) (s : ℕ) → EachPathUnless m P (λ t. ⊥) s → P s
EachPathUnless-now m P s h = EachUnless-now P s [] (h [] tt)

pub EachPathUnless-later : (m : Structure) (P : ℕ → Type 0) (s t : ℕ) → EachPathUnless m P (λ t. ⊥) s → Reaches m s t → EachPathUnless m P (λ t. ⊥) t
EachPathUnless-later m P s t h step later path = EachUnless-later P s t later (h (t ∷ later) (step, path))
