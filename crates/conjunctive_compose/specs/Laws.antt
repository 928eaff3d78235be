-- The laws of firings and runs.
use Rattle.std.specs.Prelude.{ℕ, ◌≡◌, ◌≢◌, ◌<◌, ◌+◌, ◌∷◌, ◌++◌, Option, Some, None, List, [], length}
use Rattle.pair_structure.specs.declared.side.Side.{Side}
use Rattle.pair_structure.specs.Structure.{Structure, HasMove}
use Rattle.conjunctive_compose.specs.declared.wish.StepAnswer.{StepAnswer}
use Rattle.conjunctive_compose.specs.declared.wish.Wish.{Wish}
use Rattle.conjunctive_compose.specs.declared.wish.PairMove.{PairMove}
use Rattle.conjunctive_compose.specs.System.{SystemParts, IsSystem, IsOn, edge_at, edge_count, side_on, structure_at}
use Rattle.conjunctive_compose.specs.Whole.{WholeParts, start_of, IsProper, HasPair, local_at, start_state, value_at}
use Rattle.conjunctive_compose.specs.Firing.{IsAnswer, Moves, across, fired, value_after}
use Rattle.conjunctive_compose.specs.Reply.{count_of, count_on}
use Rattle.conjunctive_compose.specs.Run.{IsRun, Reaches, whole_after}
use Rattle.conjunctive_compose.specs.Projection.{IsProjection, IsPairPath}

-- the start is proper, and each edge is in the pair state where it starts
pub record IsStart (sys : SystemParts) : Type 0 where
  pub proper : IsProper sys (start_of sys)
  pub pairs : (e : ℕ) → e < edge_count sys → HasPair sys (start_of sys) e (start_state sys e)

abbrev pub StartIsProper : Type 0
StartIsProper = (sys : SystemParts) → IsSystem sys → IsStart sys

-- the process on this side takes a move from s to t; where it is on neither, the state stays
abbrev pub PairStep : Structure → Option Side → ℕ → ℕ → Type 0
PairStep m None s t = s ≡ t
PairStep m (Some side) s t = HasMove m side s t

-- after a firing all edges have pair states again, and each is reached by a move of the process that fired, or stays
pub record KeepsPairs (sys : SystemParts) (w : WholeParts) (wish : Wish) : Type 0 where
  pub proper : IsProper sys (fired sys w wish)
  pub steps : (e s t : ℕ) → e < edge_count sys → HasPair sys w e s → HasPair sys (fired sys w wish) e t → PairStep (structure_at sys e) (side_on (edge_at sys e) wish.process) s t

abbrev pub FiringKeepsPairs : Type 0
FiringKeepsPairs = (sys : SystemParts) (w : WholeParts) (wish : Wish) → IsSystem sys → IsProper sys w → Moves sys w wish → KeepsPairs sys w wish

-- an edge has one pair state at most
abbrev pub OnePairState : Type 0
OnePairState = (sys : SystemParts) (w : WholeParts) (e s t : ℕ) → HasPair sys w e s → HasPair sys w e t → s ≡ t

-- there is a projection of these wishes on edge e, and each is a path from s
pub record ProjectsToPath (sys : SystemParts) (w : WholeParts) (wishes : List Wish) (e s : ℕ) : Type 0 where
  pub some : (moves : List PairMove) × IsProjection sys w e wishes moves
  pub path : (moves : List PairMove) → IsProjection sys w e wishes moves → IsPairPath (structure_at sys e) s moves

-- on each edge the projection of a run from the start is a path from the state where the edge starts
abbrev pub ProjectionIsPath : Type 0
ProjectionIsPath = (sys : SystemParts) (wishes : List Wish) (e : ℕ) → IsSystem sys → IsRun sys (start_of sys) wishes → e < edge_count sys → ProjectsToPath sys (start_of sys) wishes e (start_state sys e)

abbrev pub ReachableIsProper : Type 0
ReachableIsProper = (sys : SystemParts) (w : WholeParts) → IsSystem sys → Reaches sys w → IsProper sys w

-- what a firing leaves as it was: the local states of other processes, the values of edges that are not its process's, and how many
-- firings of such a process or on such an edge a run has when the wish is appended
pub record OthersStayAt (sys : SystemParts) (w : WholeParts) (wish : Wish) : Type 0 where
  pub locals : (k : ℕ) → k ≢ wish.process → local_at (fired sys w wish) k ≡ local_at w k
  pub values : (e : ℕ) → e < length w.shared → side_on (edge_at sys e) wish.process ≡ None → value_at (fired sys w wish) e ≡ value_at w e
  pub counts : (run : List Wish) (k : ℕ) → k ≢ wish.process → count_of (run ++ wish ∷ []) k (length run + 1) ≡ count_of run k (length run)
  pub counts_on : (run : List Wish) (e : ℕ) → side_on (edge_at sys e) wish.process ≡ None → count_on sys (run ++ wish ∷ []) e (length run + 1) ≡ count_on sys run e (length run)

abbrev pub OthersStay : Type 0
OthersStay = (sys : SystemParts) (w : WholeParts) (wish : Wish) → OthersStayAt sys w wish

-- two whole states agree on process k, its edges and its neighbours
pub record AgreeNear (sys : SystemParts) (k : ℕ) (v w : WholeParts) : Type 0 where
  pub own : local_at v k ≡ local_at w k
  pub others : (e : ℕ) (side : Side) → e < edge_count sys → IsOn sys k side e → across sys v side e ≡ across sys w side e
  pub values : (e : ℕ) (side : Side) → e < edge_count sys → IsOn sys k side e → value_at v e ≡ value_at w e

-- where the wish moves in one it moves in the other, and sets the same values
pub record FiresAlike (sys : SystemParts) (v w : WholeParts) (wish : Wish) : Type 0 where
  pub moves : Moves sys v wish → Moves sys w wish
  pub values : (e : ℕ) (side : Side) → e < edge_count sys → IsOn sys wish.process side e → value_after sys v wish e ≡ value_after sys w wish e

abbrev pub NearDecides : Type 0
NearDecides = (sys : SystemParts) (v w : WholeParts) (wish : Wish) → AgreeNear sys wish.process v w → FiresAlike sys v w wish

-- what is near a process decides what its wish is answered, the neighbour that blocks it too
abbrev pub NearDecidesAnswers : Type 0
NearDecidesAnswers = (sys : SystemParts) (v w v' : WholeParts) (wish : Wish) (answer : StepAnswer) → AgreeNear sys wish.process v w → IsAnswer sys v wish answer v' → (w' : WholeParts) × IsAnswer sys w wish answer w'

abbrev pub RunGrows : Type 0
RunGrows = (sys : SystemParts) (w : WholeParts) (run : List Wish) (wish : Wish) → IsRun sys w run → Moves sys (whole_after sys w run) wish → IsRun sys w (run ++ wish ∷ [])
