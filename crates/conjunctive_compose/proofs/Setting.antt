-- The values of a process's edges, set one after another.
use Rattle.std.proofs.Common.{ℕ, ◌≡◌, ◌<◌, ◌+◌, ◌⊎◌, inl, inr, Option, Some, None, List, [], length, get_or, set, map, arith, refl, sym, ◌∙◌, ap, subst}
use Rattle.std.specs.List.{range_with_len}
use Rattle.std.proofs.lemmas.Bool.{cases_eq}
use Rattle.std.proofs.lemmas.List.{ext_get_or, get_or-set_other, get_or-set_same, get_or_default, length-set}
use Rattle.std.proofs.lemmas.List.FromFn.{get_or-map-range_with_len, length-map-range_with_len}
use Rattle.pair_structure.specs.declared.side.Side.{Side}
use Rattle.skeleton_extract.specs.declared.command.Command.{Command}
use Rattle.skeleton_extract.specs.Permission.{picked}
use Rattle.interconnection.specs.declared.parts.Beside.{Beside}
use Rattle.interconnection.specs.Graph.{IsBeside, end_of}
use Rattle.pair_structure.specs.Sides.{opposite}
use Rattle.conjunctive_compose.specs.declared.wish.Wish.{Wish}
use Rattle.conjunctive_compose.specs.System.{SystemParts, IsOn, IsSystem, edge_at, side_on}
use Rattle.conjunctive_compose.specs.Whole.{HasSizes, WholeParts, value_at}
use Rattle.conjunctive_compose.specs.Firing.{AllPermit, permitted, value_after, value_by, with_values}
use Rattle.conjunctive_compose.proofs.Edges.{edge_lawful}
use Rattle.conjunctive_compose.proofs.Neighbours.{AreBeside}
use Rattle.conjunctive_compose.proofs.Permissions.{permits_open}
use Rattle.conjunctive_compose.proofs.Sides.{by_side, side_known}

-- the values of the first n edges are set, and no other
pub record SetUpTo (sys : SystemParts) (old new : WholeParts) (wish : Wish) (list : List Beside) (n : ℕ) : Type 0 where
  pub locals : new.locals ≡ old.locals
  pub count : length new.shared ≡ length old.shared
  pub done : (i : ℕ) (d : Beside) → i < n → value_at new (get_or list i d).edge ≡ value_after sys old wish (get_or list i d).edge
  pub rest : (e : ℕ) → ((i : ℕ) (d : Beside) → i < n → (get_or list i d).edge ≡ e → ⊥) → value_at new e ≡ value_at old e

pub set_start : (sys : SystemParts) (old : WholeParts) (wish : Wish) (list : List Beside) → SetUpTo sys old old wish list 0
set_start sys old wish list = record { locals = refl; count = refl; done = λ i d lt. absurd (omega arith); rest = λ e h. refl }

pub set_sizes : (sys : SystemParts) (old new : WholeParts) (wish : Wish) (list : List Beside) (n : ℕ) → HasSizes sys old → SetUpTo sys old new wish list n → HasSizes sys new
set_sizes sys old new wish list n sizes so = record { locals = ap {B = ℕ} length so.locals ∙ sizes.locals; values = so.count ∙ sizes.values }

-- an edge stands once in the list
pub edges_apart : (sys : SystemParts) (k : ℕ) (list : List Beside) (i j : ℕ) (d : Beside) → IsSystem sys → AreBeside sys k list → i < j → j < length list → (get_or list i d).edge ≡ (get_or list j d).edge → ⊥
edges_apart sys k list i j d lawful are lt in' same =
    let x = get_or list i d in
    let y = get_or list j d in
    let isx = are.each i d (omega arith) in
    let isy = are.each j d in' in
    let differ = (edge_lawful sys y.edge lawful isy.within).differ in
    let onx : IsOn sys k x.side y.edge = subst (λ (e : ℕ). IsOn sys k x.side e) same isx.own in
    let sides : Some x.side ≡ Some y.side = sym (side_known (edge_at sys y.edge) k x.side differ onx) ∙ side_known (edge_at sys y.edge) k y.side differ isy.own in
    let side : x.side ≡ y.side = cc in
    let process : x.process ≡ y.process = sym isx.other ∙ ap {B = ℕ} (λ e. end_of (edge_at sys e) (opposite x.side)) same ∙ ap {B = ℕ} (λ (s : Side). end_of (edge_at sys y.edge) (opposite s)) side ∙ isy.other in
    omega (arith, are.rising i j d lt in', process)

-- at the next edge what is permitted is as before
pub same_open : (sys : SystemParts) (old new : WholeParts) (wish : Wish) (list : List Beside) (n : ℕ) (d : Beside) → IsSystem sys → AreBeside sys wish.process list → n < length list → SetUpTo sys old new wish list n
    → permitted sys new (get_or list n d).side wish.arc (get_or list n d).edge ≡ permitted sys old (get_or list n d).side wish.arc (get_or list n d).edge
same_open sys old new wish list n d lawful are lt so =
    let untouched : value_at new (get_or list n d).edge ≡ value_at old (get_or list n d).edge = so.rest (get_or list n d).edge (λ i d' l same. edges_apart sys wish.process list i n d lawful are l lt (ap {B = ℕ} (λ (x : Beside). x.edge) (get_or_default list i d d' (omega arith)) ∙ same)) in
    rw (so.locals, untouched) refl

pub still_open : (sys : SystemParts) (old new : WholeParts) (wish : Wish) (list : List Beside) (n : ℕ) (d : Beside) → IsSystem sys → AreBeside sys wish.process list → n < length list → SetUpTo sys old new wish list n → AllPermit sys old wish.process wish.arc
    → permitted sys new (get_or list n d).side wish.arc (get_or list n d).edge ≡ [] → ⊥
still_open sys old new wish list n d lawful are lt so permit none =
    let b = get_or list n d in
    let is = are.each n d lt in
    permits_open sys old b.side wish.arc b.edge (permit b.edge b.side is.within is.own) (sym (same_open sys old new wish list n d lawful are lt so) ∙ none)

pub set_step : (sys : SystemParts) (old new : WholeParts) (wish : Wish) (list : List Beside) (n : ℕ) (d : Beside) (v : ℕ) → IsSystem sys → HasSizes sys old → AreBeside sys wish.process list → n < length list → SetUpTo sys old new wish list n
    → v ≡ (picked (permitted sys new (get_or list n d).side wish.arc (get_or list n d).edge) wish.pick).set
    → SetUpTo sys old (record { locals = new.locals; shared = set new.shared (get_or list n d).edge v }) wish list (n + 1)
set_step sys old new wish list n d v lawful sizes are lt so is = record {
  locals = so.locals;
  count = length-set new.shared b.edge v ∙ so.count;
  done = λ i d' le. done i d' (omega (arith, le)) (cases_eq i n);
  rest = λ e h. get_or-set_other new.shared b.edge e v 0 (λ same. h n d (omega arith) (sym same)) ∙ so.rest e (λ i d' l. h i d' (omega (arith, l)));
}
  where
    b : Beside
    b = get_or list n d

    isb : IsBeside sys.network.edges wish.process (get_or list n d)
    isb = are.each n d lt

    value_is : v ≡ value_after sys old wish (get_or list n d).edge
    value_is = is ∙ ap {B = ℕ} (λ (cs : List Command). (picked cs wish.pick).set) (same_open sys old new wish list n d lawful are lt so) ∙ sym (ap {B = ℕ} (value_by sys old wish (get_or list n d).edge) (side_known (edge_at sys (get_or list n d).edge) wish.process (get_or list n d).side (edge_lawful sys (get_or list n d).edge lawful isb.within).differ isb.own))

    done : (i : ℕ) (d' : Beside) → i < n + 1 → (i ≡ n) ⊎ (i ≡ n → ⊥) → get_or (set new.shared (get_or list n d).edge v) (get_or list i d').edge 0 ≡ value_after sys old wish (get_or list i d').edge
    done i d' le (inl same) = let at : get_or list n d ≡ get_or list i d' = get_or_default list n d d' lt ∙ ap {B = Beside} (λ k. get_or list k d') (sym same) in subst (λ (x : Beside). get_or (set new.shared (get_or list n d).edge v) x.edge 0 ≡ value_after sys old wish x.edge) at (get_or-set_same new.shared (get_or list n d).edge v 0 (omega (arith, so.count, sizes.values, isb.within)) ∙ value_is)
    done i d' le (inr ne) =
        let l : i < n = omega arith in
        get_or-set_other new.shared (get_or list n d).edge (get_or list i d').edge v 0 (λ same. edges_apart sys wish.process list i n d lawful are l lt (ap {B = ℕ} (λ (x : Beside). x.edge) (get_or_default list i d d' (omega arith)) ∙ same)) ∙ so.done i d' l

pub not_on : (sys : SystemParts) (k e : ℕ) (b : Beside) → IsSystem sys → side_on (edge_at sys e) k ≡ None → IsBeside sys.network.edges k b → b.edge ≡ e → ⊥
not_on sys k e b lawful none is same =
    let known = side_known (edge_at sys b.edge) k b.side (edge_lawful sys b.edge lawful is.within).differ is.own in
    let here : side_on (edge_at sys b.edge) k ≡ None = rw same none in cc

pub same_whole : (a b c d : List ℕ) → a ≡ b → c ≡ d → ◌≡◌ {A = WholeParts} (record { locals = a; shared = c }) (record { locals = b; shared = d })
same_whole a b c d p q = cc

pub is_on_or_not : (sys : SystemParts) (j e : ℕ) → (side_on (edge_at sys e) j ≡ None) ⊎ ((side : Side) × IsOn sys j side e)
is_on_or_not sys j e = by_side (edge_at sys e) j (λ (o : Option Side). (o ≡ None) ⊎ ((side : Side) × IsOn sys j side e)) (λ side on. inr (side, on)) (λ nea neb. inl refl)

pub set_all : (sys : SystemParts) (old new : WholeParts) (wish : Wish) (list : List Beside) → IsSystem sys → HasSizes sys old → AreBeside sys wish.process list → SetUpTo sys old new wish list (length list) → new ≡ with_values sys old wish
set_all sys old new wish list lawful sizes are so = same_whole new.locals old.locals new.shared _ so.locals (ext_get_or 0 new.shared (map (value_after sys old wish) (range_with_len 0 (length old.shared))) (so.count ∙ sym (length-map-range_with_len (value_after sys old wish) 0 (length old.shared))) each)
  where
    each : (e : ℕ) → e < length new.shared → get_or new.shared e 0 ≡ get_or (map (value_after sys old wish) (range_with_len 0 (length old.shared))) e 0
    each e lt =
        let in' : e < length old.shared = omega (arith, so.count) in
        by_value e lt (is_on_or_not sys wish.process e) ∙ sym (get_or-map-range_with_len (value_after sys old wish) 0 (length old.shared) e e 0 in' (omega arith))
      where
        by_value : (e : ℕ) → e < length new.shared → (side_on (edge_at sys e) wish.process ≡ None) ⊎ ((side : Side) × IsOn sys wish.process side e) → value_at new e ≡ value_after sys old wish e
        by_value e lt (inl none) = so.rest e (λ i d l same. not_on sys wish.process e (get_or list i d) lawful none (are.each i d l) same) ∙ sym (ap {B = ℕ} (value_by sys old wish e) none)
        by_value e lt (inr (side, on)) =
            let b : Beside = record { process = end_of (edge_at sys e) (opposite side); edge = e; side = side } in
            let found = are.all e side (omega (arith, so.count, sizes.values)) on in
            subst (λ (x : Beside). value_at new x.edge ≡ value_after sys old wish x.edge) found.2 (so.done found.0 b found.1)
