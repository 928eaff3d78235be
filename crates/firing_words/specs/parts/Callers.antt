-- Callers: each caller number is in one view, and there once.
use Rattle.std.specs.Prelude.{ℕ, ◌≡◌, ◌≢◌, ◌<◌}
use Rattle.firing_words.specs.declared.view.View.{View}
use Rattle.firing_words.specs.Lists.{Has, InTurn}
use Rattle.firing_words.specs.Past.{Past}
use Rattle.firing_words.specs.Views.{callers_of}

-- the callers of the view of this seat are in no other view, and their numbers are those of callers
abbrev pub HasOwnCallers : ℕ → Past → ℕ → View → Type 0
HasOwnCallers callers past id v = (c : ℕ) → Has c (callers_of v) → (past.seat c ≡ id) × (c < callers)

-- no caller stands in the view twice
abbrev pub HasCallersOnce : View → Type 0
HasCallersOnce v = InTurn (λ (c d : ℕ). c ≢ d) (callers_of v)
