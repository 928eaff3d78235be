-- What a tableau's rules say of an edge.
use Rattle.std.proofs.Common.{ℕ, zero, suc, ◌≡◌, ◌<◌, inl, inr, Option, Some, None, List, [], ◌∷◌, length, subst, sym, ◌∙◌, arith, Contains}
use Rattle.pair_structure.specs.Role.{RoleParts}
use Rattle.pair_structure.specs.declared.side.Side.{Side}
use Rattle.closure_sets.specs.ClosureParts.{ClosureParts, IsClosureParts}
use Rattle.closure_sets.specs.Cover.{ExpansionIsFull, OneSidedIsFull}
use Rattle.closure_sets.specs.Expansion.{expansion}
use Rattle.closure_sets.specs.Firsts.{IsOneOf}
use Rattle.closure_sets.specs.Full.{EachRow, IsExpansion}
use Rattle.closure_sets.specs.Row.{Members}
use Rattle.tableau_graph.specs.Graph.{HasChild, graph_of, IsSomeNext, TableauIsGraph, TableauFollowsArcs, TableauStarts, TableauHasChildren}
use Rattle.tableau_graph.specs.Rules.{Follows, LeadsTo, AreChildren, IsSuccessor, AreSuccessors, IsTableau}
use Rattle.tableau_graph.specs.TableauParts.{TableauParts, offered, and_at, or_at, pair_of, row_of, origin_of, seed_of, edges_at}
use Rattle.tableau_graph.specs.declared.breadth.Breadth.{Breadth}
use Rattle.tableau_graph.specs.declared.breadth.Breadth.TheVariants.{Whole, OneSided}

-- a list of lists has edges only at the numbers of its lists
pub edges_within : (lists : List (List ℕ)) (i x : ℕ) → Contains (edges_at lists i) x → i < length lists
edges_within [] i x h = absurd (omega (arith, h.1))
edges_within (xs ∷ lists) zero x h = omega arith
edges_within (xs ∷ lists) (suc i) x h = let lt : i < length lists = edges_within lists i x h in omega (arith, lt)

-- what holds of each row of a list holds of one that stands in it
pub each_stands : (X : Members → Type 0) (rows : List Members) (row : Members) → EachRow X rows → IsOneOf rows row → X row
each_stands X [] row each h = absurd h
each_stands X (r ∷ rows) row each (inl e) = subst X e each.0
each_stands X (r ∷ rows) row each (inr h) = each_stands X rows row each.1 h

pub children_of : (t : TableauParts) → IsTableau t → (o n : ℕ) → Contains (edges_at t.children o) n → AreChildren t (or_at t.ors o) (edges_at t.children o)
children_of t k o n h = k.rules.children o (edges_within t.children o n h)

-- the rows that are offered are fully expanded
offered_is_full : ExpansionIsFull → OneSidedIsFull → (breadth : Breadth) (c : ClosureParts) (label : ℕ × ℕ) (seed : Members) → IsClosureParts c → EachRow (IsExpansion c label seed) (offered breadth c label seed)
offered_is_full full sided Whole c label seed k = full c label seed k
offered_is_full full sided OneSided c label seed k = sided c label seed k

-- a child's row is one of the expansion of its OR node's
pub expansion_at : ExpansionIsFull → OneSidedIsFull → (t : TableauParts) → IsTableau t → (o n : ℕ) → Contains (edges_at t.children o) n → IsExpansion t.closure (pair_of (and_at t.ands n)) (seed_of (or_at t.ors o)) (row_of (and_at t.ands n))
expansion_at full sided t k o n h =
    let label : ℕ × ℕ = pair_of (and_at t.ands n) in
    let seed : Members = seed_of (or_at t.ors o) in
    each_stands (IsExpansion t.closure label seed) (offered t.breadth t.closure label seed) (row_of (and_at t.ands n)) (offered_is_full full sided t.breadth t.closure label seed k.rules.closure) ((children_of t k o n h).each n h).row

-- each AND node's row is one of the expansion of an OR node's
pub expansion_of_node : ExpansionIsFull → OneSidedIsFull → (t : TableauParts) → IsTableau t → (n : ℕ) → n < length t.ands → (seed : Members) × IsExpansion t.closure (pair_of (and_at t.ands n)) seed (row_of (and_at t.ands n))
expansion_of_node full sided t k n lt =
    let reached = k.rules.ands_reached n lt in
    (seed_of (or_at t.ors reached.0), expansion_at full sided t k reached.0 n reached.2)

pub successors_of : (t : TableauParts) → IsTableau t → (n : ℕ) → n < length t.ands → AreSuccessors t (and_at t.ands n) (edges_at t.successors n)
successors_of t k n lt = let same : length t.successors ≡ length t.ands = k.all_ands in k.rules.successors n (omega (arith, lt, same))

-- the OR node that a member EXs h leads to
pub successor_at : (t : TableauParts) → IsTableau t → (n i h : ℕ) (side : Side) → IsSomeNext t.closure (graph_of t) n i side h → IsSuccessor t.closure (and_at t.ands n) side h (or_at t.ors ((graph_of t).next_or n i))
successor_at t k n i h side s = ((successors_of t k n s.node).each i h side s.part s.member).1

pub successor_within : (t : TableauParts) → IsTableau t → (n i h : ℕ) (side : Side) → IsSomeNext t.closure (graph_of t) n i side h → (graph_of t).next_or n i < length t.children
successor_within t k n i h side s =
    let next = successors_of t k n s.node in
    let lt : (graph_of t).next_or n i < length t.ors = next.within ((graph_of t).next_or n i) (next.each i h side s.part s.member).0 in
    let same : length t.children ≡ length t.ors = k.all_ors in
    omega (arith, lt, same)

pub tableau_is_graph : ExpansionIsFull → OneSidedIsFull → TableauIsGraph
tableau_is_graph full sided t k = record {
  within = λ o n h. (children_of t k o n h).within n h;
  full = λ n lt. (expansion_of_node full sided t k n lt).1.full;
  literals = λ n i lt below has. (expansion_of_node full sided t k n lt).1.literals i below has;
  seeded = λ n i h side s. (successor_at t k n i h side s).seed;
  keeps = λ o n j h has. (expansion_at full sided t k o n h).seeded j has;
}

leads_side : (a b : RoleParts) (found : Option Side) (side : Side) (origin from to : ℕ × ℕ) → LeadsTo a b found origin to → found ≡ Some side → origin ≡ from → Follows a b side from to
leads_side a b found side origin from to leads e same = subst (λ l. Follows a b side l to) same (subst (λ o. LeadsTo a b o origin to) e leads)

side_leads : (a b : RoleParts) (found : Option Side) (side : Side) (origin from to : ℕ × ℕ) → Follows a b side from to → found ≡ Some side → origin ≡ from → LeadsTo a b found origin to
side_leads a b found side origin from to follows e same = subst (λ o. LeadsTo a b o origin to) (sym e) (subst (λ l. Follows a b side l to) (sym same) follows)

root_leads : (a b : RoleParts) (found : Option Side) (origin to : ℕ × ℕ) → LeadsTo a b found origin to → found ≡ None → to ≡ origin
root_leads a b found origin to leads e = subst (λ o. LeadsTo a b o origin to) e leads

pub tableau_follows_arcs : TableauFollowsArcs
tableau_follows_arcs t k n i h child side s has =
    let at : IsSuccessor t.closure (and_at t.ands n) side h (or_at t.ors ((graph_of t).next_or n i)) = successor_at t k n i h side s in
    let leads = ((children_of t k ((graph_of t).next_or n i) child has).each child has).leads in
    leads_side t.a t.b (or_at t.ors ((graph_of t).next_or n i)).side side (origin_of (or_at t.ors ((graph_of t).next_or n i))) (pair_of (and_at t.ands n)) (pair_of (and_at t.ands child)) leads at.sided at.origin

pub tableau_starts : TableauStarts
tableau_starts t k child has =
    let leads = ((children_of t k 0 child has).each child has).leads in
    root_leads t.a t.b (or_at t.ors 0).side (origin_of (or_at t.ors 0)) (pair_of (and_at t.ands child)) leads k.rules.root.sided ∙ k.rules.root.origin

pub tableau_has_children : TableauHasChildren
tableau_has_children t k whole n i h side s label follows =
    let at : IsSuccessor t.closure (and_at t.ands n) side h (or_at t.ors ((graph_of t).next_or n i)) = successor_at t k n i h side s in
    let leads = side_leads t.a t.b (or_at t.ors ((graph_of t).next_or n i)).side side (origin_of (or_at t.ors ((graph_of t).next_or n i))) (pair_of (and_at t.ands n)) label follows at.sided at.origin in
    subst (λ (b : Breadth). EachRow (HasChild (graph_of t) ((graph_of t).next_or n i) label) (offered b t.closure label (seed_of (or_at t.ors ((graph_of t).next_or n i))))) whole ((k.rules.children ((graph_of t).next_or n i) (successor_within t k n i h side s)).all label leads)
