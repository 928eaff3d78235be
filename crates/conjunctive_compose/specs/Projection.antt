-- What a run does on one edge.
use Rattle.std.specs.Prelude.{ℕ, ◌≡◌, Option, Some, None, List, [], ◌∷◌}
use Rattle.pair_structure.specs.declared.side.Side.{Side}
use Rattle.pair_structure.specs.Structure.{Structure, HasMove}
use Rattle.conjunctive_compose.specs.declared.wish.Wish.{Wish}
use Rattle.conjunctive_compose.specs.declared.wish.PairMove.{PairMove}
use Rattle.conjunctive_compose.specs.System.{SystemParts, edge_at, side_on}
use Rattle.conjunctive_compose.specs.Whole.{WholeParts, HasPair}
use Rattle.conjunctive_compose.specs.Firing.{fired}

-- from s by these moves, each to the state that it names
abbrev pub IsPairPath : Structure → ℕ → List PairMove → Type 0
IsPairPath m s [] = Unit {0}
IsPairPath m s (move ∷ later) = HasMove m move.side s move.state × IsPairPath m move.state later

-- the first of these moves is to the edge's pair state in w, by this side, if any
abbrev pub Begins : SystemParts → WholeParts → ℕ → Option Side → List PairMove → List PairMove → Type 0
Begins sys w e None moves later = moves ≡ later
Begins sys w e (Some side) moves later = (s : ℕ) × HasPair sys w e s × (moves ≡ record { side = side; state = s } ∷ later)

-- for each firing of one of the edge's processes, its side and the pair state after it
abbrev pub IsProjection : SystemParts → WholeParts → ℕ → List Wish → List PairMove → Type 0
IsProjection sys w e [] moves = moves ≡ []
IsProjection sys w e (wish ∷ wishes) moves = (later : List PairMove) × Begins sys (fired sys w wish) e (side_on (edge_at sys e) wish.process) moves later × IsProjection sys (fired sys w wish) e wishes later
