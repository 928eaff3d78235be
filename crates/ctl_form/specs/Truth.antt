-- Truth of a formula at a state, by recursion on the formula; nothing but finite paths is spoken of.
use Rattle.std.specs.Prelude.{ℕ, ◌≡◌, ◌⊎◌, Bool, true, false, Option, Some, None, slice_get}
use Rattle.pair_structure.specs.Structure.{Structure, HasMove}
use Rattle.pair_structure.specs.declared.side.Side.{Side}
use Rattle.pair_structure.specs.declared.side.Side.TheVariants.{A, B}
use Rattle.ctl_form.specs.Form.{Form, truth, falsity, at, neg, both, either, implies, next, always, sometime, until}
use Rattle.ctl_form.specs.Path.{SomePathUntil, EachPathUntil, EachPathUnless, SomePathUnless}

-- the local state of this side in state s is this one
abbrev pub HasLocal : Structure → Side → ℕ → ℕ → Type 0
HasLocal m A local s = (other : ℕ) × (slice_get m.states s ≡ Some (local, other))
HasLocal m B local s = (other : ℕ) × (slice_get m.states s ≡ Some (other, local))

-- P after each move of this side from s, or after some
abbrev pub AfterOne : Structure → Bool → Side → (ℕ → Type 0) → ℕ → Type 0
AfterOne m true side P s = (t : ℕ) → HasMove m side s t → P t
AfterOne m false side P s = (t : ℕ) × HasMove m side s t × P t

-- with no side named: after the moves of both sides, for 'each' of a and of b, for 'some' of a or of b
abbrev pub After : Structure → Bool → Option Side → (ℕ → Type 0) → ℕ → Type 0
After m all (Some side) P s = AfterOne m all side P s
After m true None P s = AfterOne m true A P s × AfterOne m true B P s
After m false None P s = AfterOne m false A P s ⊎ AfterOne m false B P s

-- the four kinds of until: on each path or on some, weak or strong
abbrev pub AlongPaths : Structure → Bool → Bool → (ℕ → Type 0) → (ℕ → Type 0) → ℕ → Type 0
AlongPaths m true true = EachPathUnless m
AlongPaths m true false = EachPathUntil m
AlongPaths m false true = SomePathUnless m
AlongPaths m false false = SomePathUntil m

-- the formula holds at state s
abbrev pub Holds : Structure → Form → ℕ → Type 0
Holds m truth s = Unit {0}
Holds m falsity s = ⊥
Holds m (at side local) s = HasLocal m side local s
Holds m (neg f) s = Holds m f s → ⊥
Holds m (both f g) s = Holds m f s × Holds m g s
Holds m (either f g) s = Holds m f s ⊎ Holds m g s
Holds m (implies f g) s = Holds m f s → Holds m g s
Holds m (next all side f) s = After m all side (Holds m f) s
Holds m (always all f) s = AlongPaths m all true (Holds m f) (λ t. ⊥) s
Holds m (sometime all f) s = AlongPaths m all false (λ t. Unit {0}) (Holds m f) s
Holds m (until all weak f g) s = AlongPaths m all weak (Holds m f) (Holds m g) s
