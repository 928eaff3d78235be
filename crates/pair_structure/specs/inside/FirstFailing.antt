-- The first of several numbers at which a fact fails.
use Rattle.std.specs.Prelude.{ℕ, ◌<◌, Option, Some, None}

-- the first number below n at which P fails; without one, P holds at each
abbrev pub IsFirstFailing : (ℕ → Type 0) → ℕ → Option ℕ → Type 0
IsFirstFailing P n None = (i : ℕ) → i < n → P i
IsFirstFailing P n (Some i) = (i < n) × (P i → ⊥) × ((k : ℕ) → k < i → P k)
