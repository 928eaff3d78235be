-- Runs, and what they do on one edge.
use Rattle.std.proofs.Common.{ℕ, ◌≡◌, ◌<◌, Option, Some, None, List, [], ◌∷◌, ◌++◌, refl, sym, subst}
use Rattle.pair_structure.specs.declared.side.Side.{Side}
use Rattle.pair_structure.specs.Structure.{HasMove}
use Rattle.conjunctive_compose.specs.declared.wish.Wish.{Wish}
use Rattle.conjunctive_compose.specs.declared.wish.PairMove.{PairMove}
use Rattle.conjunctive_compose.specs.System.{SystemParts, IsSystem, edge_at, edge_count, side_on, structure_at}
use Rattle.conjunctive_compose.specs.Whole.{WholeParts, IsProper, HasPair, start_of, start_state}
use Rattle.conjunctive_compose.specs.Firing.{Moves, fired}
use Rattle.conjunctive_compose.specs.Run.{IsRun, Reaches, whole_after}
use Rattle.conjunctive_compose.specs.Projection.{IsProjection, IsPairPath, Begins}
use Rattle.conjunctive_compose.specs.Laws.{PairStep, ProjectsToPath}
use Rattle.conjunctive_compose.proofs.Pairs.{fired_pairs, fired_proper, one_pair}
use Rattle.conjunctive_compose.proofs.Starts.{start_is_proper}

pub run_proper : (sys : SystemParts) (w : WholeParts) (wishes : List Wish) → IsSystem sys → IsProper sys w → IsRun sys w wishes → IsProper sys (whole_after sys w wishes)
run_proper sys w [] lawful proper run = proper
run_proper sys w (wish ∷ later) lawful proper run = run_proper sys (fired sys w wish) later lawful (fired_proper sys w wish lawful proper run.0) run.1

pub projection_made : (sys : SystemParts) (w : WholeParts) (e : ℕ) (wishes : List Wish) → IsSystem sys → IsProper sys w → IsRun sys w wishes → e < edge_count sys → (moves : List PairMove) × IsProjection sys w e wishes moves
projection_made sys w e [] lawful proper run lt = ([], refl)
projection_made sys w e (wish ∷ wishes) lawful proper run lt =
    let proper' = fired_proper sys w wish lawful proper run.0 in
    let later = projection_made sys (fired sys w wish) e wishes lawful proper' run.1 lt in
    let first = begins sys (fired sys w wish) e (side_on (edge_at sys e) wish.process) later.0 (proper'.pairs e lt) in
    (first.0, (later.0, first.1, later.1))
  where
    begins : (sys : SystemParts) (w : WholeParts) (e : ℕ) (side : Option Side) (later : List PairMove) → (s : ℕ) × HasPair sys w e s → (moves : List PairMove) × Begins sys w e side moves later
    begins sys w e None later pair = (later, refl)
    begins sys w e (Some side) later pair = (record { side = side; state = pair.0 } ∷ later, (pair.0, pair.1, refl))

pub pair_path_begins : (sys : SystemParts) (w : WholeParts) (e s t : ℕ) (side : Option Side) (later moves : List PairMove) → HasPair sys w e t → PairStep (structure_at sys e) side s t → Begins sys w e side moves later → IsPairPath (structure_at sys e) t later → IsPairPath (structure_at sys e) s moves
pair_path_begins sys w e s t None later moves there step begins path =
    let here : IsPairPath (structure_at sys e) s later = rw step path in
    subst (IsPairPath (structure_at sys e) s) (sym begins) here
pair_path_begins sys w e s t (Some side) later moves there step (u, pair, is) path =
    let same : t ≡ u = one_pair sys w e t u there pair in
    let move : HasMove (structure_at sys e) side s u = subst (HasMove (structure_at sys e) side s) same step in
    let on : IsPairPath (structure_at sys e) u later = subst (λ (x : ℕ). IsPairPath (structure_at sys e) x later) same path in
    subst (IsPairPath (structure_at sys e) s) (sym is) (move, on)

pub projection_path : (sys : SystemParts) (w : WholeParts) (e s : ℕ) (wishes : List Wish) (moves : List PairMove) → IsSystem sys → IsProper sys w → IsRun sys w wishes → e < edge_count sys → HasPair sys w e s → IsProjection sys w e wishes moves → IsPairPath (structure_at sys e) s moves
projection_path sys w e s [] moves lawful proper run lt pair is = subst (IsPairPath (structure_at sys e) s) (sym is) tt
projection_path sys w e s (wish ∷ wishes) moves lawful proper run lt pair (later, begins, is) =
    let proper' = fired_proper sys w wish lawful proper run.0 in
    let t = (proper'.pairs e lt).0 in
    let there = (proper'.pairs e lt).1 in
    pair_path_begins sys (fired sys w wish) e s t (side_on (edge_at sys e) wish.process) later moves there (fired_pairs sys w wish lawful proper run.0 e s t lt pair there) begins (projection_path sys (fired sys w wish) e t wishes later lawful proper' run.1 lt there is)

pub run_grows : (sys : SystemParts) (w : WholeParts) (run : List Wish) (wish : Wish) → IsRun sys w run → Moves sys (whole_after sys w run) wish → IsRun sys w (run ++ wish ∷ [])
run_grows sys w [] wish is moves = (moves, tt)
run_grows sys w (x ∷ run) wish is moves = (is.0, run_grows sys (fired sys w x) run wish is.1 moves)

pub projects_to_path : (sys : SystemParts) (wishes : List Wish) (e : ℕ) → IsSystem sys → IsRun sys (start_of sys) wishes → e < edge_count sys → ProjectsToPath sys (start_of sys) wishes e (start_state sys e)
projects_to_path sys wishes e system run lt =
    let start = start_is_proper sys system in
    record {
      some = projection_made sys (start_of sys) e wishes system start.proper run lt;
      path = λ moves is. projection_path sys (start_of sys) e (start_state sys e) wishes moves system start.proper run lt (start.pairs e lt) is;
    }

pub reachable_is_proper : (sys : SystemParts) (w : WholeParts) → IsSystem sys → Reaches sys w → IsProper sys w
reachable_is_proper sys w system (wishes, run, is) = subst (IsProper sys) is (run_proper sys (start_of sys) wishes system (start_is_proper sys system).proper run)
