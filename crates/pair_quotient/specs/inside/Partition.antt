-- Partitions of the states of a structure into classes, on the way to the quotient.
use Rattle.std.specs.Prelude.{ℕ, ◌≡◌, ◌<◌, Bool, List, length, slice_index}
use Rattle.pair_structure.specs.declared.side.Side.{Side}
use Rattle.pair_structure.specs.Structure.{Structure, HasMove, label_at}
use Rattle.pair_quotient.specs.Bisimulation.{IsBisimulation, Told}

-- each move of s is matched by a move of t of the same side, to a state of the same class
abbrev pub IsMatched : Structure → List ℕ → ℕ → ℕ → Type 0
IsMatched m classes s t = (side : Side) (s' : ℕ) → HasMove m side s s' → (t' : ℕ) × HasMove m side t t' × (slice_index classes s' ≡ slice_index classes t')

-- each state has a class; states of one class have one label, and bisimilar states one class
pub record IsPartition (m : Structure) (classes : List ℕ) : Type 0 where
  pub long : length classes ≡ length m.states
  pub labels : (s t : ℕ) → s < length m.states → t < length m.states → slice_index classes s ≡ slice_index classes t → label_at m.states s ≡ label_at m.states t
  pub lasting : (test : ℕ → ℕ → Bool) → IsBisimulation m m (Told test) → (s t : ℕ) → s < length m.states → t < length m.states → Told test s t → slice_index classes s ≡ slice_index classes t

-- no state of a class can do what another of it cannot
pub record IsStable (m : Structure) (classes : List ℕ) : Type 0 where
  pub partition : IsPartition m classes
  pub matched : (s t : ℕ) → s < length m.states → t < length m.states → slice_index classes s ≡ slice_index classes t → IsMatched m classes s t

-- states stay in one class where they were in one class and neither can do what the other cannot
pub record IsSplit (m : Structure) (old new : List ℕ) : Type 0 where
  pub long : length new ≡ length old
  pub finer : (s t : ℕ) → s < length m.states → t < length m.states → slice_index new s ≡ slice_index new t → slice_index old s ≡ slice_index old t
  pub apart : (s t : ℕ) → s < length m.states → t < length m.states → slice_index new s ≡ slice_index new t → IsMatched m old s t
  pub together : (s t : ℕ) → s < length m.states → t < length m.states → slice_index old s ≡ slice_index old t → IsMatched m old s t → IsMatched m old t s → slice_index new s ≡ slice_index new t
