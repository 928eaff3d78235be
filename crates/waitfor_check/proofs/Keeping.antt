-- With an accepted certificate a firing leaves a peel order.
use Rattle.std.proofs.Common.{ℕ, ◌≡◌, ◌<◌, ◌≤◌, ◌+◌, ◌⊎◌, inl, inr, false, List, [], ◌∷◌, length, get_or, arith, refl, sym, ◌∙◌, ap, subst, Contains}
use Rattle.std.proofs.lemmas.List.{get_or_default}
use Rattle.std.proofs.lemmas.List.Elements.{All-contains}
use Rattle.pair_structure.specs.declared.side.Side.{Side}
use Rattle.pair_structure.specs.Structure.{label_at}
use Rattle.pair_structure.specs.Sides.{local_of}
use Rattle.interconnection.specs.Graph.{end_of, opposite}
use Rattle.conjunctive_compose.proofs.Edges.{role_lawful}
use Rattle.conjunctive_compose.specs.declared.wish.Wish.{Wish}
use Rattle.conjunctive_compose.specs.System.{SystemParts, IsSystem, edge_at, role_of, structure_at, structure_of}
use Rattle.pair_structure.specs.Parts.{role_at}
use Rattle.conjunctive_compose.specs.Whole.{WholeParts, IsProper, HasPair, start_of, local_at}
use Rattle.conjunctive_compose.specs.Firing.{Moves, fired, arc_of, Permits}
use Rattle.conjunctive_compose.specs.Run.{IsRun, whole_after}
use Rattle.conjunctive_compose.specs.Peel.{IsLeaving, IsEnabled, PermitsAll, HasPeelOrder}
use Rattle.conjunctive_compose.proofs.Filters.{Contains-cases, Contains-later}
use Rattle.conjunctive_compose.proofs.Pairs.{fired_proper, own_local, local_of-label_on}
use Rattle.conjunctive_compose.proofs.PeelOrders.{peel_kept}
use Rattle.conjunctive_compose.proofs.Starts.{start_is_proper}
use Rattle.interconnection.specs.Shape.{ShapeParts, most_arcs}
use Rattle.waitfor_check.proofs.LeafEdges.{edges_of, leaf_of, length-edges_of}
use Rattle.waitfor_check.specs.Star.{CentreMayGo, LeavesMayGo, MayTake, leaf_at, leaf_structure, centre_side, arc_numbered}
use Rattle.waitfor_check.specs.declared.star.Star.{Star}
use Rattle.waitfor_check.specs.Accepted.{HasStarts, IsAccepted, IsCalm, IsClosed}
use Rattle.waitfor_check.proofs.Choosing.{search_list, search_below, blockers}
use Rattle.waitfor_check.proofs.Simulation.{IsGoodStar, IsSelection, IsLeafEdge, Shows, Follows, shows_made, follows_start, follows_on, centre_step}
use Rattle.waitfor_check.proofs.Selecting.{edge_of, shape_of, part_is_shape, part_selects, select_few, leaving_arcs, length-leaving_arcs, arc_leaving, leaving_arc, arcs_from-most}
use Rattle.waitfor_check.proofs.Deciding.{permit_or_not, leaving_or_not, centre_permitted, leaf_permitted, side_is}

-- k's side on one of its edges, and the process across
abbrev pub side_of : SystemParts → ℕ → ℕ → Side
side_of sys k e = (leaf_of sys k e).1

abbrev pub beside : SystemParts → ℕ → ℕ → ℕ
beside sys k e = end_of (edge_at sys e) (opposite (side_of sys k e))

-- the arc of k is permitted on the edge; k permits the process across every arc; and what tells against each
abbrev pub Good : SystemParts → WholeParts → ℕ → ℕ → ℕ → Type 0
Good sys w k a e = Permits sys w (side_of sys k e) a e

abbrev pub Bad : SystemParts → WholeParts → ℕ → ℕ → ℕ → Type 0
Bad sys w k a e = Permits sys w (side_of sys k e) a e → ⊥

abbrev pub Fine : SystemParts → WholeParts → ℕ → ℕ → Type 0
Fine sys w k e = (a : ℕ) → IsLeaving sys w (beside sys k e) a → Permits sys w (opposite (side_of sys k e)) a e

abbrev pub Stuck : SystemParts → WholeParts → ℕ → ℕ → Type 0
Stuck sys w k e = (a : ℕ) × IsLeaving sys w (beside sys k e) a × (Permits sys w (opposite (side_of sys k e)) a e → ⊥)

pub fine_or_stuck : (sys : SystemParts) (w : WholeParts) (k e : ℕ) → Fine sys w k e ⊎ Stuck sys w k e
fine_or_stuck sys w k e = elim (search_below (λ a. IsLeaving sys w (beside sys k e) a → Permits sys w (opposite (side_of sys k e)) a e) (λ a. IsLeaving sys w (beside sys k e) a × (Permits sys w (opposite (side_of sys k e)) a e → ⊥)) decide (length (role_of sys (beside sys k e)).arcs)) [
  | inl all ↦ inl (λ a leaving. all a leaving.within leaving)
  | inr (a, lt, (leaving, not)) ↦ inr (a, leaving, not)
]
  where
    decide : (a : ℕ) → (IsLeaving sys w (beside sys k e) a → Permits sys w (opposite (side_of sys k e)) a e) ⊎ (IsLeaving sys w (beside sys k e) a × (Permits sys w (opposite (side_of sys k e)) a e → ⊥))
    decide a = elim (leaving_or_not sys w (beside sys k e) a) [ inr out ↦ inl (λ leaving. absurd (out leaving)) | inl leaving ↦ elim (permit_or_not sys w (opposite (side_of sys k e)) a e) [ inl permit ↦ inl (λ l. permit) | inr not ↦ inr (leaving, not) ] ]

pub enabled_from : (sys : SystemParts) (w : WholeParts) (k a : ℕ) → IsSystem sys → Contains (leaving_arcs sys w k) a → ((e : ℕ) → Contains (edges_of sys k) e → Good sys w k a e) → IsEnabled sys w k
enabled_from sys w k a lawful has all = (a, arc_leaving sys w k a has, λ e side lt on. subst (λ (side : Side). Permits sys w side a e) (side_is sys k e side lawful lt on) (all e (edge_of sys k e side lawful lt on)))

pub permits_all_from : (sys : SystemParts) (w : WholeParts) (k : ℕ) → IsSystem sys → ((e : ℕ) → Contains (edges_of sys k) e → Fine sys w k e) → PermitsAll sys w k
permits_all_from sys w k lawful all e side arc lt on leaving =
    subst (λ (side : Side). IsLeaving sys w (end_of (edge_at sys e) (opposite side)) arc → Permits sys w (opposite side) arc e) (side_is sys k e side lawful lt on) (all e (edge_of sys k e side lawful lt on) arc) leaving

-- what is kept along a run
pub record Keeps (sys : SystemParts) (stars : List Star) (w : WholeParts) : Type 0 where
  pub proper : IsProper sys w
  pub peel : HasPeelOrder sys w
  pub follow : (k : ℕ) (star : Star) (sel : List ℕ) → IsGoodStar sys star → IsSelection sys k star.shape sel → Follows sys star sel w

-- a star whose state after the firing is calm has no blocker for each arc beside a stuck neighbour
pub calm_refutes : (sys : SystemParts) (w : WholeParts) (k : ℕ) (shape : ShapeParts) (sel ys : List ℕ) → IsSystem sys → IsSelection sys k shape sel → Shows sys w sel ys → 0 < length sel
    → ((a : ℕ) → Contains (leaving_arcs sys w k) a → (e : ℕ) × Contains sel e × Bad sys w k a e) → (e : ℕ) × Contains sel e × Stuck sys w k e → LeavesMayGo sys shape ys ⊎ CentreMayGo sys shape ys → ⊥
calm_refutes sys w k shape sel ys lawful chosen shows some blocked stuck calm = elim calm [ inl leaves ↦ leaves_refuted leaves stuck | inr centre ↦ centre_refuted centre ]
  where
    leaf_here : (i : ℕ) → i < length sel → (e : ℕ) → get_or sel i e ≡ e → IsLeafEdge sys k (leaf_at shape i) e × HasPair sys w e (get_or ys i 0) × (side_of sys k e ≡ (leaf_at shape i).1)
    leaf_here i lt e is =
        let same : get_or sel i 0 ≡ e = get_or_default sel i 0 e lt ∙ is in
        let leaf : IsLeafEdge sys k (leaf_at shape i) e = subst (IsLeafEdge sys k (leaf_at shape i)) same (chosen.each i lt) in
        (leaf, subst (λ (e : ℕ). HasPair sys w e (get_or ys i 0)) same (shows.each i lt), side_is sys k e (leaf_at shape i).1 lawful leaf.within leaf.on)

    leaves_refuted : LeavesMayGo sys shape ys → (e : ℕ) × Contains sel e × Stuck sys w k e → ⊥
    leaves_refuted leaves (e, (i, lt, is), (a, leaving, not)) =
        let here = leaf_here i lt e is in
        let leaving' : IsLeaving sys w (end_of (edge_at sys e) (opposite (leaf_at shape i).1)) a = subst (λ (side : Side). IsLeaving sys w (end_of (edge_at sys e) (opposite side)) a) here.2 leaving in
        let permit = leaf_permitted sys w k e (get_or ys i 0) (leaf_at shape i) a lawful here.0 here.1 leaving' (λ in' from. leaves i a (omega (arith, lt, chosen.count)) in' from) in
        not (subst (λ (side : Side). Permits sys w (opposite side) a e) (sym here.2) permit)

    centre_refuted : CentreMayGo sys shape ys → ⊥
    centre_refuted (a, in', each) =
        let lt0 : 0 < length shape.leaves = omega (arith, some, chosen.count) in
        let first = chosen.each 0 some in
        let pair = shows.each 0 some in
        let takes = (each 0 lt0).1 in
        let side = (leaf_at shape 0).1 in
        let e0 = get_or sel 0 0 in
        let local : local_of side (label_at (structure_at sys e0).states (get_or ys 0 0)) ≡ local_at w k = ap (local_of side) pair.label_is ∙ local_of-label_on sys w e0 side ∙ ap (local_at w) first.on in
        let local' : local_of side (label_at (structure_of sys.structures (leaf_at shape 0).0).states (get_or ys 0 0)) ≡ local_at w k = subst (λ (kind : ℕ). local_of side (label_at (structure_of sys.structures kind).states (get_or ys 0 0)) ≡ local_at w k) first.kind local in
        let in_role : a < length (role_of sys k).arcs = subst (λ (r : ℕ). a < length (role_at sys.network.roles r).arcs) chosen.role_is in' in
        let from : (arc_of sys k a).from ≡ local_at w k = subst (λ (r : ℕ). (arc_numbered sys r a).from ≡ local_at w k) chosen.role_is (sym takes.from ∙ local') in
        refuted a in' each (blocked a (leaving_arc sys w k a (record { within = in_role; leaves = from })))
      where
        refuted : (a : ℕ) → a < length (role_at sys.network.roles shape.role).arcs → ((i : ℕ) → i < length shape.leaves → MayTake (leaf_structure sys shape i) (centre_side shape i) (arc_numbered sys shape.role a) (get_or ys i 0)) → (e : ℕ) × Contains sel e × Bad sys w k a e → ⊥
        refuted a in' each (e, (i, lt, is), bad) =
            let here = leaf_here i lt e is in
            let permit = centre_permitted sys w k e (get_or ys i 0) shape.role (leaf_at shape i) a lawful here.0 here.1 chosen.role_is in' (each i (omega (arith, lt, chosen.count))) in
            bad (subst (λ (side : Side). Permits sys w side a e) (sym here.2) permit)

pub good_star : (sys : SystemParts) (stars : List Star) (star : Star) → IsAccepted sys stars → Contains stars star → IsGoodStar sys star
good_star sys stars star accepted has = record { starts = All-contains (HasStarts sys) stars star accepted.starts has; closed = All-contains (IsClosed sys) stars star accepted.closed has; calm = All-contains (IsCalm sys) stars star accepted.calm has }

pub calm_after : (sys : SystemParts) (stars : List Star) (w : WholeParts) (wish : Wish) → IsSystem sys → IsAccepted sys stars → Keeps sys stars w → Moves sys w wish
    → IsEnabled sys (fired sys w wish) wish.process ⊎ PermitsAll sys (fired sys w wish) wish.process
calm_after sys stars w wish lawful accepted keeps moves =
    elim (blockers (Good sys v k) (Bad sys v k) (λ a e. permit_or_not sys v (side_of sys k e) a e) (edges_of sys k) (leaving_arcs sys v k)) [
      | inl (a, has, all) ↦ inl (enabled_from sys v k a lawful has all)
      | inr (few, long, among, each) ↦ elim (search_list (Fine sys v k) (Stuck sys v k) (fine_or_stuck sys v k) (edges_of sys k)) [
        | inl all ↦ inr (permits_all_from sys v k lawful all)
        | inr (e, in', stuck) ↦ absurd (refuted few long among each e in' stuck)
      ]
    ]
  where
    k : ℕ
    k = wish.process

    v : WholeParts
    v = fired sys w wish

    refuted : (few : List ℕ) → length few ≡ length (leaving_arcs sys v k) → ((e : ℕ) → Contains few e → Contains (edges_of sys k) e) → ((a : ℕ) → Contains (leaving_arcs sys v k) a → (e : ℕ) × Contains few e × Bad sys v k a e) → (e : ℕ) → Contains (edges_of sys k) e → Stuck sys v k e → ⊥
    refuted few long among each e in' stuck =
        let role = role_of sys k in
        let process_in : k < length w.locals = rw keeps.proper.locals moves.fits.process_in in
        let arc_in : (arc_of sys k wish.arc).to < length role.locals = ((role_lawful sys k lawful moves.fits.process_in).joins wish.arc (record { from = 0; to = 0; free = false }) moves.fits.arc_in).to in
        let p_in : local_at v k < length role.locals = rw (own_local sys w wish process_in) arc_in in
        let most = arcs_from-most role (local_at v k) p_in in
        let short : length (e ∷ few) ≤ most_arcs role + 1 = omega (arith, long, length-leaving_arcs sys v k, most) in
        let chosen = select_few sys k (e ∷ few) short (λ x has. elim (Contains-cases e few x has) [ inl same ↦ subst (Contains (edges_of sys k)) same in' | inr l ↦ among x l ]) in
        let sel = chosen.0 in
        let e_in : Contains sel e = chosen.3 e (0, omega arith, refl) in
        let some : 0 < length sel = omega (arith, e_in.1) in
        let found = accepted.shapes k (shape_of sys k sel) moves.fits.process_in (omega (arith, in'.1, length-edges_of sys k)) (part_is_shape sys k sel chosen.1 chosen.2) in
        let star = found.1 in
        let good : IsGoodStar sys star = good_star sys stars star accepted (found.0, found.2, found.3) in
        let selects : IsSelection sys k star.shape sel = subst (λ (shape : ShapeParts). IsSelection sys k shape sel) (sym found.4) (part_selects sys k sel chosen.1) in
        let made = shows_made sys w sel keeps.proper (λ i lt. (selects.each i lt).within) in
        let made' = shows_made sys v sel (fired_proper sys w wish lawful keeps.proper moves) (λ i lt. (selects.each i lt).within) in
        let has = keeps.follow k star sel good selects made.0 made.1 in
        let step = centre_step sys w wish star.shape sel made.0 made'.0 lawful keeps.proper moves selects made.1 made'.1 in
        calm_refutes sys v k star.shape sel made'.0 lawful selects made'.1 some
        (λ a leaving. let old = each a leaving in (old.0, chosen.3 old.0 (Contains-later e few old.0 old.1), old.2))
        (e, e_in, stuck) (good.calm wish.arc made.0 made'.0 has step)

pub keeps_on : (sys : SystemParts) (stars : List Star) (w : WholeParts) (wishes : List Wish) → IsSystem sys → IsAccepted sys stars → Keeps sys stars w → IsRun sys w wishes → Keeps sys stars (whole_after sys w wishes)
keeps_on sys stars w [] lawful accepted keeps run = keeps
keeps_on sys stars w (wish ∷ wishes) lawful accepted keeps run = keeps_on sys stars (fired sys w wish) wishes lawful accepted next run.1
  where
    next : Keeps sys stars (fired sys w wish)
    next = record {
      proper = fired_proper sys w wish lawful keeps.proper run.0;
      peel = peel_kept sys w wish lawful keeps.proper run.0 keeps.peel (calm_after sys stars w wish lawful accepted keeps run.0);
      follow = λ k star sel good chosen. follows_on sys w wish k star sel lawful keeps.proper run.0 good chosen (keeps.follow k star sel good chosen);
    }

pub keeps_start : (sys : SystemParts) (stars : List Star) → IsSystem sys → IsAccepted sys stars → Keeps sys stars (start_of sys)
keeps_start sys stars lawful accepted = record {
  proper = (start_is_proper sys lawful).proper;
  peel = accepted.start;
  follow = λ k star sel good chosen. follows_start sys k star sel good chosen;
}
