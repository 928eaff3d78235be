-- What it is for a row to be met at a state, and for rows to cover.
use Rattle.std.specs.Prelude.{ℕ, ◌≡◌, ◌<◌, Bool, true, false, List, length}
use Rattle.pair_structure.specs.Structure.{Structure, HasMove, GoesOn, label_at}
use Rattle.pair_structure.specs.declared.side.Side.{Side}
use Rattle.ctl_form.specs.Truth.{Holds}
use Rattle.ctl_form.specs.declared.part.Part.TheVariants.{Until}
use Rattle.closure_sets.specs.ClosureParts.{ClosureParts, IsClosureParts, count, after}
use Rattle.closure_sets.specs.Expansion.{expansion, one_sided}
use Rattle.closure_sets.specs.Full.{Among, EachRow, IsExpansion}
use Rattle.closure_sets.specs.Label.{part_of, form_of}
use Rattle.closure_sets.specs.Row.{Members}

-- member i is true at state s
abbrev pub IsTrueAt : Structure → ClosureParts → ℕ → ℕ → Type 0
IsTrueAt m c s i = Holds m (form_of c i) s

-- each member of the row is true at the state
abbrev pub HoldsWhole : Structure → ClosureParts → ℕ → Members → Type 0
HoldsWhole m c s row = (i : ℕ) → row i ≡ true → IsTrueAt m c s i

-- a side for each E until that is true and not met now: some move of it keeps the until true
abbrev pub IsChosen : Structure → ClosureParts → ℕ → (ℕ → Side) → Type 0
IsChosen m c s chosen = (i f g : ℕ) (weak : Bool) → part_of c i ≡ Until false weak f g → IsTrueAt m c s i → (IsTrueAt m c s g → ⊥) → (t : ℕ) × HasMove m (chosen i) s t × IsTrueAt m c t i

-- the row holds whole; an until of it has its second part where that is true, and else an E until has the next-time of its chosen side
pub record IsMetRow (c : ClosureParts) (chosen : ℕ → Side) (Is : ℕ → Type 0) (row : Members) : Type 0 where
  pub holds : (i : ℕ) → row i ≡ true → Is i
  pub goal : (i f g : ℕ) (all weak : Bool) → i < count c → part_of c i ≡ Until all weak f g → row i ≡ true → Is g → row g ≡ true
  pub pursued : (i f g : ℕ) (weak : Bool) → i < count c → part_of c i ≡ Until false weak f g → row i ≡ true → (Is g → ⊥) → row (after c (chosen i) i) ≡ true

-- at each state of each structure with this label where the seed holds, whatever sides are chosen, some row is met
abbrev pub AreCover : ClosureParts → ℕ × ℕ → Members → List Members → Type 0
AreCover c label seed rows = (m : Structure) → GoesOn m → (s : ℕ) → s < length m.states → label_at m.states s ≡ label → HoldsWhole m c s seed → (chosen : ℕ → Side) → IsChosen m c s chosen → Among (IsMetRow c chosen (IsTrueAt m c s)) rows

-- The rows of an expansion are fully expanded.
abbrev pub ExpansionIsFull : Type 0
ExpansionIsFull = (c : ClosureParts) (label : ℕ × ℕ) (seed : Members) → IsClosureParts c → EachRow (IsExpansion c label seed) (expansion c label seed)

-- The rows of one side are fully expanded.
abbrev pub OneSidedIsFull : Type 0
OneSidedIsFull = (c : ClosureParts) (label : ℕ × ℕ) (seed : Members) → IsClosureParts c → EachRow (IsExpansion c label seed) (one_sided c label seed)

-- The rows of an expansion cover.
abbrev pub ExpansionCovers : Type 0
ExpansionCovers = (c : ClosureParts) (label : ℕ × ℕ) (seed : Members) → IsClosureParts c → AreCover c label seed (expansion c label seed)
