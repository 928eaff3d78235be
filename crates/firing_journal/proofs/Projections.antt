-- What a run does on one edge, wish by wish.
use Rattle.std.proofs.Common.{ℕ, zero, suc, ◌≡◌, ◌<◌, ◌+◌, Option, Some, None, List, [], ◌∷◌, ◌++◌, length, get_or, take, arith, refl, sym, ◌∙◌, ap, subst}
use Rattle.std.proofs.lemmas.List.{take_more, take_all}
use Rattle.pair_structure.specs.declared.side.Side.{Side}
use Rattle.conjunctive_compose.specs.declared.wish.Wish.{Wish}
use Rattle.conjunctive_compose.specs.declared.wish.PairMove.{PairMove}
use Rattle.conjunctive_compose.specs.declared.wish.StepAnswer.{StepAnswer}
use Rattle.conjunctive_compose.specs.declared.wish.StepAnswer.TheVariants.{Moved, Away, Blocked}
use Rattle.conjunctive_compose.specs.System.{SystemParts, edge_at, side_on}
use Rattle.conjunctive_compose.specs.Whole.{WholeParts, IsProper, start_of}
use Rattle.conjunctive_compose.specs.Firing.{IsAnswer, Moves, fired}
use Rattle.conjunctive_compose.specs.Run.{IsRun, whole_after}
use Rattle.conjunctive_compose.specs.Reply.{after_first}
use Rattle.conjunctive_compose.specs.Projection.{Begins, IsProjection}
use Rattle.firing_journal.specs.declared.journal.Entry.{Entry}
use Rattle.firing_journal.specs.Journal.{wishes_of}
use Rattle.firing_journal.proofs.Replays.{after_more, length-wishes, wish_there}

-- each wish of a run moves in what the ones before it leave
pub moves_at : (sys : SystemParts) (w : WholeParts) (run : List Wish) (i : ℕ) (d : Wish) → i < length run → IsRun sys w run → Moves sys (whole_after sys w (take i run)) (get_or run i d)
moves_at sys w [] i d lt is = absurd (omega arith)
moves_at sys w (x ∷ run) zero d lt is = is.0
moves_at sys w (x ∷ run) (suc i) d lt is = moves_at sys (fired sys w x) run i d (omega arith) is.1

-- a wish that moves is answered so
pub moves_is_fired : (sys : SystemParts) (w v : WholeParts) (wish : Wish) (answer : StepAnswer) → Moves sys w wish → IsAnswer sys w wish answer v → v ≡ fired sys w wish
moves_is_fired sys w v wish Moved moves is = is.1
moves_is_fired sys w v wish (Away local) moves is = absurd (is.1 (moves.leaves ∙ sym is.0))
moves_is_fired sys w v wish (Blocked j) moves (leaves, ((e, side, lt, on, at, shut), lowest), same) = absurd (shut (moves.permit e side lt on))

begins_more : (sys : SystemParts) (w : WholeParts) (e : ℕ) (side : Option Side) (moves later more : List PairMove) → Begins sys w e side moves later → Begins sys w e side (moves ++ more) (later ++ more)
begins_more sys w e None moves later more is = ap (λ (l : List PairMove). l ++ more) is
begins_more sys w e (Some side) moves later more (s, pair, is) = (s, pair, ap (λ (l : List PairMove). l ++ more) is)

-- one more wish at the end
pub projection_grows : (sys : SystemParts) (w : WholeParts) (e : ℕ) (run : List Wish) (wish : Wish) (moves more : List PairMove) → IsProjection sys w e run moves
    → Begins sys (fired sys (whole_after sys w run) wish) e (side_on (edge_at sys e) wish.process) more [] → IsProjection sys w e (run ++ wish ∷ []) (moves ++ more)
projection_grows sys w e [] wish moves more is begins = ([], rw is begins, refl)
projection_grows sys w e (x ∷ run) wish moves more (later, first, is) begins = (later ++ more, begins_more sys (fired sys w x) e (side_on (edge_at sys e) x.process) moves later more first, projection_grows sys (fired sys w x) e run wish later more is begins)

-- the first i wishes leave this whole state, and these are their moves of edge e
pub record ProjectedUpTo (sys : SystemParts) (run : List Wish) (e i : ℕ) (w : WholeParts) (moves : List PairMove) : Type 0 where
  pub whole : w ≡ after_first sys run i
  pub proper : IsProper sys w
  pub projection : IsProjection sys (start_of sys) e (take i run) moves

pub projected_more : (sys : SystemParts) (run : List Wish) (e i : ℕ) (w v : WholeParts) (moves more : List PairMove) (d : Wish) → i < length run → ProjectedUpTo sys run e i w moves → v ≡ fired sys w (get_or run i d) → IsProper sys v
    → Begins sys v e (side_on (edge_at sys e) (get_or run i d).process) more [] → ProjectedUpTo sys run e (i + 1) v (moves ++ more)
projected_more sys run e i w v moves more d lt so is proper begins =
    let here : v ≡ fired sys (after_first sys run i) (get_or run i d) = is ∙ ap (λ (u : WholeParts). fired sys u (get_or run i d)) so.whole in
    record {
      whole = here ∙ sym (after_more sys run i d lt);
      proper = proper;
      projection = rw (take_more run i d lt) (projection_grows sys (start_of sys) e (take i run) (get_or run i d) moves more so.projection (subst (λ (u : WholeParts). Begins sys u e (side_on (edge_at sys e) (get_or run i d).process) more []) here begins));
    }

pub projected_all : (sys : SystemParts) (run : List Wish) (e i : ℕ) (w : WholeParts) (moves : List PairMove) → i ≡ length run → ProjectedUpTo sys run e i w moves → IsProjection sys (start_of sys) e run moves
projected_all sys run e i w moves all so = subst (λ (r : List Wish). IsProjection sys (start_of sys) e r moves) (take_all i run (omega (arith, all))) so.projection

pub moves_there : (sys : SystemParts) (entries : List Entry) (i : ℕ) (w : WholeParts) (e : Entry) → i < length entries → IsRun sys (start_of sys) (wishes_of entries) → w ≡ after_first sys (wishes_of entries) i → Moves sys w (get_or entries i e).wish
moves_there sys entries i w e lt run is =
    let moves = moves_at sys (start_of sys) (wishes_of entries) i e.wish (omega (arith, lt, length-wishes entries)) run in
    let here : Moves sys (after_first sys (wishes_of entries) i) (get_or entries i e).wish = subst (λ (wish : Wish). Moves sys (after_first sys (wishes_of entries) i) wish) (wish_there entries i e.wish e lt) moves in
    subst (λ (u : WholeParts). Moves sys u (get_or entries i e).wish) (sym is) here

-- after one more entry, whose moves of the edge are these
pub entry_projected : (sys : SystemParts) (entries : List Entry) (edge i : ℕ) (w v : WholeParts) (answer : StepAnswer) (moves more all : List PairMove) (e : Entry) → i < length entries → IsRun sys (start_of sys) (wishes_of entries) → ProjectedUpTo sys (wishes_of entries) edge i w moves
    → IsAnswer sys w (get_or entries i e).wish answer v → IsProper sys v → Begins sys v edge (side_on (edge_at sys edge) (get_or entries i e).wish.process) more [] → all ≡ moves ++ more → ProjectedUpTo sys (wishes_of entries) edge (i + 1) v all
entry_projected sys entries edge i w v answer moves more all e lt run so is proper begins all_is =
    let wish = wish_there entries i e.wish e lt in
    let fired_is : v ≡ fired sys w (get_or entries i e).wish = moves_is_fired sys w v (get_or entries i e).wish answer (moves_there sys entries i w e lt run so.whole) is in
    let next = projected_more sys (wishes_of entries) edge i w v moves more e.wish (omega (arith, lt, length-wishes entries)) so (fired_is ∙ ap (λ (x : Wish). fired sys w x) (sym wish)) proper (subst (λ (x : Wish). Begins sys v edge (side_on (edge_at sys edge) x.process) more []) (sym wish) begins) in
    subst (λ (l : List PairMove). ProjectedUpTo sys (wishes_of entries) edge (i + 1) v l) (sym all_is) next

pub start_projected : (sys : SystemParts) (run : List Wish) (edge : ℕ) (w : WholeParts) → w ≡ start_of sys → IsProper sys w → ProjectedUpTo sys run edge 0 w []
start_projected sys run edge w is proper = record { whole = is; proper = proper; projection = refl }
