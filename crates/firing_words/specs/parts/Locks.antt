-- Locks: a lock word names the one caller whose view holds the lock, or nobody.
use Rattle.std.specs.Prelude.{ℕ, ◌≡◌, ◌<◌, ◌≤◌, ◌+◌, List, [], ◌∷◌}
use Rattle.conjunctive_compose.specs.System.{SystemParts}
use Rattle.firing_words.specs.declared.view.View.{View}
use Rattle.firing_words.specs.Cells.{lock_count}
use Rattle.firing_words.specs.Lists.{Has}
use Rattle.firing_words.specs.Past.{lock_at}
use Rattle.firing_words.specs.Views.{callers_of}

-- a lock word is 0, or the number of a caller and 1
abbrev pub NameCallers : SystemParts → ℕ → List ℕ → Type 0
NameCallers sys callers words = (l : ℕ) → l < lock_count sys → lock_at words l ≤ callers

-- a view that holds a lock has one caller, and the lock's word names it
abbrev pub HeldAreNamed : SystemParts → List ℕ → View → Type 0
HeldAreNamed sys words v = (l : ℕ) → Has l v.held → (c : ℕ) × (callers_of v ≡ c ∷ []) × (lock_at words l ≡ c + 1) × (l < lock_count sys)

-- a lock whose word names a caller is held by the view of that caller
abbrev pub NamedAreHeld : SystemParts → List ℕ → View → Type 0
NamedAreHeld sys words v = (c l : ℕ) → Has c (callers_of v) → l < lock_count sys → lock_at words l ≡ c + 1 → Has l v.held
