-- The states where a row is true, found one after another.
use Rattle.std.proofs.Common.{ℕ, ◌<◌, ◌+◌, ◌++◌, ◌∷◌, [], Bool, List, length, All, Contains, arith, below_more, refl}
use Rattle.std.proofs.lemmas.List.Elements.{All-append, Contains-append_left, Contains-append_right}
use Rattle.ctl_form.specs.Row.{IsAt}
use Rattle.ctl_form.proofs.AllOf.{All-one}

-- those of the first n states, and no other
pub record AreMarksBelow (n : ℕ) (row : List Bool) (states : List ℕ) : Type 0 where
  pub marked : All (IsAt row) states
  pub within : All (λ s. s < length row) states
  pub complete : (s : ℕ) → s < n → IsAt row s → Contains states s

-- one more, which is true
pub AreMarksBelow-mark : (n : ℕ) (row : List Bool) (states : List ℕ) → n < length row → IsAt row n → AreMarksBelow n row states → AreMarksBelow (n + 1) row (states ++ n ∷ [])
AreMarksBelow-mark n row states lt here below = record {
  marked = All-append (IsAt row) states (n ∷ []) below.marked (All-one (IsAt row) n here);
  within = All-append (λ s. s < length row) states (n ∷ []) below.within (All-one (λ s. s < length row) n lt);
  complete = below_more _ n
      (λ s before at. Contains-append_left states (n ∷ []) s (below.complete s before at))
      (λ _. Contains-append_right states (n ∷ []) n (0, omega arith, refl));
}

-- one more, which is not
pub AreMarksBelow-pass : (n : ℕ) (row : List Bool) (states : List ℕ) → (IsAt row n → ⊥) → AreMarksBelow n row states → AreMarksBelow (n + 1) row states
AreMarksBelow-pass n row states none below = record { marked = below.marked; within = below.within; complete = below_more _ n below.complete (λ here. absurd (none here)) }
