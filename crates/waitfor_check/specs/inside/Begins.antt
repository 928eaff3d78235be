-- For each kind the states in which a pair of it may begin.
use Rattle.std.specs.Prelude.{ℕ, ◌≡◌, ◌<◌, ◌↔◌, ◌⊎◌, ◌==◌, List, [], ◌∷◌, length, map, filter, Contains, slice_index_or}
use Rattle.pair_structure.specs.Sides.{local_of}
use Rattle.pair_structure.specs.Structure.{label_at}
use Rattle.interconnection.specs.Shape.{ShapeParts}
use Rattle.conjunctive_compose.specs.System.{SystemParts, edge_at}
use Rattle.conjunctive_compose.specs.Whole.{HasPair, start_of}
use Rattle.waitfor_check.specs.declared.star.Star.{Star}
use Rattle.waitfor_check.specs.Choices.{choices}
use Rattle.waitfor_check.specs.Star.{centre_side, leaf_at, leaf_structure}
use Rattle.waitfor_check.specs.Steps.{places}
use Rattle.waitfor_check.specs.inside.Walk.{Differ}

abbrev pub begins_at : List (List ℕ) → ℕ → List ℕ
begins_at begins kind = slice_index_or begins kind []

-- state 0, or the pair state of one of the first n edges, which is of this kind, in the start
abbrev pub BeginsBelow : SystemParts → ℕ → ℕ → ℕ → Type 0
BeginsBelow sys n kind s = (s ≡ 0) ⊎ ((e : ℕ) × (e < n) × ((edge_at sys e).kind ≡ kind) × HasPair sys (start_of sys) e s)

-- these are, of each kind, the states where one of the first n edges begins
pub record AreBeginsBelow (sys : SystemParts) (n : ℕ) (begins : List (List ℕ)) : Type 0 where
  pub size : length begins ≡ length sys.network.ends
  pub exact : (kind s : ℕ) → kind < length sys.network.ends → Contains (begins_at begins kind) s ↔ BeginsBelow sys n kind s
  pub differ : (kind : ℕ) → Differ (begins_at begins kind)

abbrev pub AreBegins : SystemParts → List (List ℕ) → Type 0
AreBegins sys = AreBeginsBelow sys (length sys.network.edges)

-- those of a leaf at which the centre has this local state
abbrev pub leaf_begins : SystemParts → ShapeParts → List (List ℕ) → ℕ → ℕ → List ℕ
leaf_begins sys shape begins p i = filter (λ t. local_of (centre_side shape i) (label_at (leaf_structure sys shape i).states t) == p) (begins_at begins (leaf_at shape i).0)

-- of each leaf
abbrev pub begins_by : SystemParts → ShapeParts → List (List ℕ) → ℕ → List (List ℕ)
begins_by sys shape begins p = map (leaf_begins sys shape begins p) (places shape)

-- each choice of such states, in which the centre is where the first leaf's state s shows it, is a member
abbrev pub HasAllBegins : SystemParts → Star → List (List ℕ) → ℕ → Type 0
HasAllBegins sys star begins s = (ys : List ℕ) → Contains (choices (begins_by sys star.shape begins (local_of (centre_side star.shape 0) (label_at (leaf_structure sys star.shape 0).states s)))) ys → Contains star.members ys

-- each list has 0 alone
abbrev pub AreZeros : List (List ℕ) → Type 0
AreZeros lists = (k : ℕ) → k < length lists → begins_at lists k ≡ 0 ∷ []

-- the same numbers and this one, each once where each was
pub record IsWith (x : ℕ) (old new : List ℕ) : Type 0 where
  pub exact : (y : ℕ) → Contains new y ↔ Contains old y ⊎ (y ≡ x)
  pub differ : Differ old → Differ new
