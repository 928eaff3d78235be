-- A star as a view of the whole state.
use Rattle.std.proofs.Common.{ℕ, zero, suc, ◌≡◌, ◌≢◌, ◌<◌, ◌⊎◌, inl, inr, Option, None, List, [], ◌∷◌, length, get_or, set, arith, refl, sym, ◌∙◌, ap, subst, Contains, get_or-set_same, get_or-set_other}
use Rattle.std.proofs.lemmas.Bool.{cases_order, cases_eq}
use Rattle.std.proofs.lemmas.List.{ext_get_or, length-set}
use Rattle.pair_structure.specs.declared.side.Side.{Side}
use Rattle.pair_structure.specs.declared.side.Side.TheVariants.{A, B}
use Rattle.pair_structure.specs.Structure.{HasMove}
use Rattle.pair_structure.specs.Sides.{local_of}
use Rattle.interconnection.specs.Graph.{JoinSame, end_of, opposite}
use Rattle.interconnection.specs.Network.{role_of as role_number}
use Rattle.conjunctive_compose.specs.declared.wish.Wish.{Wish}
use Rattle.interconnection.specs.declared.parts.Edge.{Edge}
use Rattle.conjunctive_compose.specs.System.{SystemParts, IsSystem, IsOn, edge_at, edge_count, side_on, structure_at, structure_of}
use Rattle.conjunctive_compose.specs.Whole.{WholeParts, IsProper, HasPair, start_of, local_at}
use Rattle.conjunctive_compose.specs.Firing.{Moves, fired, arc_of}
use Rattle.conjunctive_compose.specs.Laws.{PairStep}
use Rattle.conjunctive_compose.proofs.Sides.{side_known, by_side}
use Rattle.pair_structure.specs.Structure.{label_at}
use Rattle.conjunctive_compose.proofs.Edges.{edge_lawful}
use Rattle.conjunctive_compose.proofs.Pairs.{fired_pairs, one_pair, own_local, local_of-label_on}
use Rattle.interconnection.specs.Shape.{ShapeParts}
use Rattle.waitfor_check.specs.Star.{CentreStep, IsStarState, LeafStep, TakesArc, arc_numbered, centre_at, centre_side, leaf_at, leaf_structure}
use Rattle.waitfor_check.specs.declared.star.Star.{Star}
use Rattle.waitfor_check.specs.Accepted.{HasStarts, IsCalm, IsClosed, MayBegin}
use Rattle.waitfor_check.proofs.Choosing.{search_below}

-- what is told of a star by an accepted certificate
pub record IsGoodStar (sys : SystemParts) (star : Star) : Type 0 where
  pub starts : HasStarts sys star
  pub closed : IsClosed sys star
  pub calm : IsCalm sys star

-- edge e of process k stands for this leaf
pub record IsLeafEdge (sys : SystemParts) (k : ℕ) (leaf : ℕ × Side) (e : ℕ) : Type 0 where
  pub within : e < edge_count sys
  pub kind : (edge_at sys e).kind ≡ leaf.0
  pub on : IsOn sys k leaf.1 e

-- these edges of process k stand for the leaves of the shape
pub record IsSelection (sys : SystemParts) (k : ℕ) (shape : ShapeParts) (sel : List ℕ) : Type 0 where
  pub role_is : shape.role ≡ role_number sys.network.processes k
  pub count : length sel ≡ length shape.leaves
  pub each : (i : ℕ) → i < length sel → IsLeafEdge sys k (leaf_at shape i) (get_or sel i 0)
  pub differ : (i j : ℕ) → i < length sel → j < length sel → get_or sel i 0 ≡ get_or sel j 0 → i ≡ j

-- the pair states of these edges
pub record Shows (sys : SystemParts) (w : WholeParts) (sel xs : List ℕ) : Type 0 where
  pub count : length xs ≡ length sel
  pub each : (i : ℕ) → i < length sel → HasPair sys w (get_or sel i 0) (get_or xs i 0)

pub shows_made : (sys : SystemParts) (w : WholeParts) (sel : List ℕ) → IsProper sys w → ((i : ℕ) → i < length sel → get_or sel i 0 < edge_count sys) → (xs : List ℕ) × Shows sys w sel xs
shows_made sys w [] proper within = ([], record { count = refl; each = λ i lt. absurd (omega arith) })
shows_made sys w (e ∷ sel) proper within =
    let first = proper.pairs e (within 0 (omega arith)) in
    let rest = shows_made sys w sel proper (λ i lt. within (suc i) (omega arith)) in
    (first.0 ∷ rest.0, record { count = ap {B = ℕ} (λ n. suc n) rest.1.count; each = each first.0 rest.0 first.1 rest.1.each })
  where
    each : (s : ℕ) (xs : List ℕ) → HasPair sys w e s → ((i : ℕ) → i < length sel → HasPair sys w (get_or sel i 0) (get_or xs i 0)) → (i : ℕ) → i < suc (length sel) → HasPair sys w (get_or (e ∷ sel) i 0) (get_or (s ∷ xs) i 0)
    each s xs pair all zero lt = pair
    each s xs pair all (suc i) lt = all i (omega arith)

-- whatever the star shows is a member
abbrev pub Follows : SystemParts → Star → List ℕ → WholeParts → Type 0
Follows sys star sel w = (xs : List ℕ) → Shows sys w sel xs → Contains star.members xs

-- the pair states agree on the centre
pub shows_star : (sys : SystemParts) (w : WholeParts) (k : ℕ) (shape : ShapeParts) (sel xs : List ℕ) → IsSelection sys k shape sel → Shows sys w sel xs → IsStarState sys shape xs
shows_star sys w k shape sel xs chosen shows = record {
  count = shows.count ∙ chosen.count;
  within = λ i lt. (let in' : i < length sel = omega (arith, lt, chosen.count) in subst (λ kind. get_or xs i 0 < length (structure_of sys.structures kind).states) (chosen.each i in').kind (shows.each i in').within);
  agree = λ i lt. local i (omega (arith, lt, chosen.count)) ∙ sym (local 0 (omega (arith, lt, chosen.count)));
}
  where
    local : (i : ℕ) → i < length sel → centre_at sys shape xs i ≡ local_at w k
    local i lt =
        let leaf = chosen.each i lt in
        let e = get_or sel i 0 in
        let here : local_of (centre_side shape i) (label_at (structure_at sys e).states (get_or xs i 0)) ≡ local_at w k = ap {B = ℕ} (local_of (centre_side shape i)) (shows.each i lt).label_is ∙ local_of-label_on sys w e (centre_side shape i) ∙ ap {B = ℕ} (local_at w) leaf.on in
        subst (λ kind. local_of (centre_side shape i) (label_at (structure_of sys.structures kind).states (get_or xs i 0)) ≡ local_at w k) leaf.kind here

pub follows_start : (sys : SystemParts) (k : ℕ) (star : Star) (sel : List ℕ) → IsGoodStar sys star → IsSelection sys k star.shape sel → Follows sys star sel (start_of sys)
follows_start sys k star sel good chosen xs shows = good.starts xs (shows_star sys (start_of sys) k star.shape sel xs chosen shows) (λ i lt. begins i (omega (arith, lt, chosen.count)))
  where
    begins : (i : ℕ) → i < length sel → MayBegin sys (leaf_at star.shape i).0 (get_or xs i 0)
    begins i lt = let leaf = chosen.each i lt in inr (get_or sel i 0, leaf.within, leaf.kind, shows.each i lt)

-- the step of the centre
pub centre_step : (sys : SystemParts) (w : WholeParts) (wish : Wish) (shape : ShapeParts) (sel xs ys : List ℕ) → IsSystem sys → IsProper sys w → Moves sys w wish → IsSelection sys wish.process shape sel
    → Shows sys w sel xs → Shows sys (fired sys w wish) sel ys → CentreStep sys shape wish.arc xs ys
centre_step sys w wish shape sel xs ys lawful proper moves chosen before behind = record {
  within = rw chosen.role_is moves.fits.arc_in;
  before = before.count ∙ chosen.count;
  behind = behind.count ∙ chosen.count;
  each = λ i lt. each i (omega (arith, lt, chosen.count));
}
  where
    each : (i : ℕ) → i < length sel → TakesArc (leaf_structure sys shape i) (centre_side shape i) (arc_numbered sys shape.role wish.arc) (get_or xs i 0) (get_or ys i 0)
    each i lt =
        let leaf = chosen.each i lt in
        let e = get_or sel i 0 in
        let k = wish.process in
        let m = structure_at sys e in
        let side = centre_side shape i in
        let s = get_or xs i 0 in
        let t = get_or ys i 0 in
        let arc = arc_of sys k wish.arc in
        let step = fired_pairs sys w wish lawful proper moves e s t leaf.within (before.each i lt) (behind.each i lt) in
        let known = side_known (edge_at sys e) k side (edge_lawful sys e lawful leaf.within).differ leaf.on in
        let process_in : k < length w.locals = rw proper.locals moves.fits.process_in in
        let took : TakesArc m side arc s t = record {
          move = subst (λ (o : Option Side). PairStep m o s t) known step;
          from = ap (local_of side) (before.each i lt).label_is ∙ local_of-label_on sys w e side ∙ ap (local_at w) leaf.on ∙ sym moves.leaves;
          to = ap (local_of side) (behind.each i lt).label_is ∙ local_of-label_on sys (fired sys w wish) e side ∙ ap (local_at (fired sys w wish)) leaf.on ∙ own_local sys w wish process_in;
        } in
        let of_kind : TakesArc (leaf_structure sys shape i) side arc s t = subst (λ (kind : ℕ). TakesArc (structure_of sys.structures kind) side arc s t) leaf.kind took in
        subst (λ (r : ℕ). TakesArc (leaf_structure sys shape i) side (arc_numbered sys r wish.arc) s t) (sym chosen.role_is) of_kind

pub other_side : (edge : Edge) (k j : ℕ) (own side : Side) → k ≢ j → end_of edge own ≡ k → end_of edge side ≡ j → side ≡ opposite own
other_side edge k j A A ne own on = absurd (ne (sym own ∙ on))
other_side edge k j A B ne own on = refl
other_side edge k j B A ne own on = refl
other_side edge k j B B ne own on = absurd (ne (sym own ∙ on))

pub join_same : (x y : Edge) (k j : ℕ) (s t : Side) → end_of x s ≡ k → end_of y t ≡ k → end_of x (opposite s) ≡ j → end_of y (opposite t) ≡ j → JoinSame x y
join_same x y k j A A p q u v = inl (p ∙ sym q, u ∙ sym v)
join_same x y k j A B p q u v = inr (p ∙ sym q, u ∙ sym v)
join_same x y k j B A p q u v = inr (u ∙ sym v, p ∙ sym q)
join_same x y k j B B p q u v = inl (u ∙ sym v, p ∙ sym q)

-- a process is on an edge, or not
pub is_on_or_not : (sys : SystemParts) (j e : ℕ) → (side_on (edge_at sys e) j ≡ None) ⊎ ((side : Side) × IsOn sys j side e)
is_on_or_not sys j e = by_side (edge_at sys e) j (λ (o : Option Side). (o ≡ None) ⊎ ((side : Side) × IsOn sys j side e)) (λ side on. inr (side, on)) (λ nea neb. inl refl)

single : (sys : SystemParts) (e f : ℕ) → IsSystem sys → e < f → f < edge_count sys → JoinSame (edge_at sys e) (edge_at sys f) → ⊥
single sys e f lawful lt lt' same = lawful.network.single e f (record { a = 0; b = 0; kind = 0 }) lt lt' same

-- a process is beside another by one edge at most
pub one_edge : (sys : SystemParts) (k j e f : ℕ) (own own' side side' : Side) → IsSystem sys → k ≢ j → e < edge_count sys → f < edge_count sys → IsOn sys k own e → IsOn sys k own' f → IsOn sys j side e → IsOn sys j side' f → e ≡ f
one_edge sys k j e f own own' side side' lawful ne lt lt' on on' at at' = elim (cases_order e f) [
  | inl same ↦ same
  | inr o ↦ elim o [
    | inl l ↦ absurd (single sys e f lawful l lt' (join_same (edge_at sys e) (edge_at sys f) k j own own' on on' at_e at_f))
    | inr l ↦ absurd (single sys f e lawful l lt (join_same (edge_at sys f) (edge_at sys e) k j own' own on' on at_f at_e))
  ]
]
  where
    at_e : end_of (edge_at sys e) (opposite own) ≡ j
    at_e = subst (λ (s : Side). end_of (edge_at sys e) s ≡ j) (other_side (edge_at sys e) k j own side ne on at) at

    at_f : end_of (edge_at sys f) (opposite own') ≡ j
    at_f = subst (λ (s : Side). end_of (edge_at sys f) s ≡ j) (other_side (edge_at sys f) k j own' side' ne on' at') at'

-- the step of a leaf, or of none
pub leaf_step : (sys : SystemParts) (w : WholeParts) (wish : Wish) (k : ℕ) (star : Star) (sel xs ys : List ℕ) → IsSystem sys → IsProper sys w → Moves sys w wish → IsGoodStar sys star → IsSelection sys k star.shape sel → k ≢ wish.process
    → Shows sys w sel xs → Shows sys (fired sys w wish) sel ys → Contains star.members xs → Contains star.members ys
leaf_step sys w wish k star sel xs ys lawful proper moves good chosen ne before behind has =
    elim (search_below (λ i. side_on (edge_at sys (get_or sel i 0)) wish.process ≡ None) (λ i. (side : Side) × IsOn sys wish.process side (get_or sel i 0)) (λ i. is_on_or_not sys wish.process (get_or sel i 0)) (length sel)) [
      | inl none ↦ subst (Contains star.members) (ext_get_or 0 xs ys (before.count ∙ sym behind.count) (λ i lt. (let in' : i < length sel = omega (arith, before.count) in stays i in' (none i in')))) has
      | inr (i, lt, (side, on)) ↦ one i lt side on
    ]
  where
    goes : (i : ℕ) → i < length sel → PairStep (structure_at sys (get_or sel i 0)) (side_on (edge_at sys (get_or sel i 0)) wish.process) (get_or xs i 0) (get_or ys i 0)
    goes i lt = fired_pairs sys w wish lawful proper moves (get_or sel i 0) (get_or xs i 0) (get_or ys i 0) (chosen.each i lt).within (before.each i lt) (behind.each i lt)

    stays : (i : ℕ) → i < length sel → side_on (edge_at sys (get_or sel i 0)) wish.process ≡ None → get_or xs i 0 ≡ get_or ys i 0
    stays i lt none = subst (λ (o : Option Side). PairStep (structure_at sys (get_or sel i 0)) o (get_or xs i 0) (get_or ys i 0)) none (goes i lt)

    one : (i : ℕ) → i < length sel → (side : Side) → IsOn sys wish.process side (get_or sel i 0) → Contains star.members ys
    one i lt side on =
        let leaf = chosen.each i lt in
        let e = get_or sel i 0 in
        let t = get_or ys i 0 in
        let own = centre_side star.shape i in
        let lawful_e = edge_lawful sys e lawful leaf.within in
        let known = side_known (edge_at sys e) wish.process side lawful_e.differ on in
        let move : HasMove (structure_at sys e) side (get_or xs i 0) t = subst (λ (o : Option Side). PairStep (structure_at sys e) o (get_or xs i 0) t) known (goes i lt) in
        let move' : HasMove (structure_at sys e) (opposite own) (get_or xs i 0) t = subst (λ (s : Side). HasMove (structure_at sys e) s (get_or xs i 0) t) (other_side (edge_at sys e) k wish.process own side ne leaf.on on) move in
        let step : LeafStep sys star.shape i t xs = record { within = rw (← chosen.count) lt; move = subst (λ (kind : ℕ). HasMove (structure_of sys.structures kind) (opposite own) (get_or xs i 0) t) leaf.kind move' } in
        let same : set xs i t ≡ ys = ext_get_or 0 (set xs i t) ys (length-set xs i t ∙ before.count ∙ sym behind.count) (λ j lt'. at i lt side on j (omega (arith, lt', length-set xs i t, before.count)) (cases_eq j i)) in
        subst (Contains star.members) same (good.closed xs (set xs i t) has (inr (i, t, step, refl)))
      where
        at : (i : ℕ) → i < length sel → (side : Side) → IsOn sys wish.process side (get_or sel i 0) → (j : ℕ) → j < length sel → (j ≡ i) ⊎ (j ≡ i → ⊥) → get_or (set xs i (get_or ys i 0)) j 0 ≡ get_or ys j 0
        at i lt side on j lt' (inl same) = rw same (get_or-set_same xs i (get_or ys i 0) 0 (omega (arith, before.count)))
        at i lt side on j lt' (inr differ) = get_or-set_other xs i j (get_or ys i 0) 0 differ ∙ stays j lt' (elim (is_on_or_not sys wish.process (get_or sel j 0)) [
          | inl none ↦ none
          | inr (side', on') ↦ absurd (differ (chosen.differ j i lt' lt (one_edge sys k wish.process (get_or sel j 0) (get_or sel i 0) (centre_side star.shape j) (centre_side star.shape i) side' side lawful ne (chosen.each j lt').within (chosen.each i lt).within (chosen.each j lt').on (chosen.each i lt).on on' on)))
        ])

pub follows_on : (sys : SystemParts) (w : WholeParts) (wish : Wish) (k : ℕ) (star : Star) (sel : List ℕ) → IsSystem sys → IsProper sys w → Moves sys w wish → IsGoodStar sys star → IsSelection sys k star.shape sel → Follows sys star sel w → Follows sys star sel (fired sys w wish)
follows_on sys w wish k star sel lawful proper moves good chosen follows ys behind =
    let made = shows_made sys w sel proper (λ i lt. (chosen.each i lt).within) in
    let has = follows made.0 made.1 in
    elim (cases_eq k wish.process) [
      | inl same ↦ (let chosen' : IsSelection sys wish.process star.shape sel = subst (λ (k : ℕ). IsSelection sys k star.shape sel) same chosen in
          good.closed made.0 ys has (inl (wish.arc, centre_step sys w wish star.shape sel made.0 ys lawful proper moves chosen' made.1 behind)))
      | inr ne ↦ leaf_step sys w wish k star sel made.0 ys lawful proper moves good chosen ne made.1 behind has
    ]
