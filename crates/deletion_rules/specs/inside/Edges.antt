-- The edges of a tableau the other way round: from children to their OR nodes, and from OR nodes to the members that lead to them.
use Rattle.std.specs.Prelude.{ℕ, ◌≡◌, ◌<◌, ◌&&◌, Bool, List, Contains, length}
use Rattle.pair_structure.specs.declared.side.Side.{Side}
use Rattle.closure_sets.specs.Label.{part_of}
use Rattle.tableau_graph.specs.Graph.{graph_of, IsSomeNext}
use Rattle.tableau_graph.specs.TableauParts.{TableauParts, and_at, edges_at, is_some_next, row_of}
use Rattle.pair_structure.specs.Lists.{list_at}
use Rattle.deletion_rules.specs.declared.edges.Arrow.{Arrow}

-- the OR node is one of the first k, and the AND node a child of it
abbrev pub IsParent : TableauParts → ℕ → ℕ → ℕ → Type 0
IsParent t k n o = (o < k) × Contains (edges_at t.children o) n

-- of each AND node the OR nodes, of the first k, of which it is a child
pub record AreParents (t : TableauParts) (k : ℕ) (parents : List (List ℕ)) : Type 0 where
  pub long : length parents ≡ length t.ands
  pub each : (n o : ℕ) → Contains (list_at parents n) o → IsParent t k n o
  pub all : (n o : ℕ) → IsParent t k n o → Contains (list_at parents n) o

-- member i of the AND node n is some EXs h, and leads to the OR node
abbrev pub Leads : TableauParts → ℕ → ℕ → ℕ → Type 0
Leads t n i o = ((h : ℕ) × (side : Side) × IsSomeNext t.closure (graph_of t) n i side h) × ((graph_of t).next_or n i ≡ o)

-- so do arrows
abbrev pub IsArrow : TableauParts → ℕ → Arrow → Type 0
IsArrow t o arrow = Leads t arrow.node arrow.member o

abbrev pub arrow_of : ℕ → ℕ → Arrow
arrow_of n i = record { node = n; member = i }

-- of each OR node the arrows of the first k AND nodes that lead to it
pub record AreArrows (t : TableauParts) (k : ℕ) (arrows : List (List Arrow)) : Type 0 where
  pub long : length arrows ≡ length t.ors
  pub each : (o : ℕ) (arrow : Arrow) → Contains (list_at arrows o) arrow → IsArrow t o arrow
  pub all : (n i o : ℕ) → n < k → Leads t n i o → Contains (list_at arrows o) (arrow_of n i)

-- all edges
pub record AreEdges (t : TableauParts) (parents : List (List ℕ)) (arrows : List (List Arrow)) : Type 0 where
  pub up : AreParents t (length t.ors) parents
  pub back : AreArrows t (length t.ands) arrows

-- whether member i of the AND node is some EXs h
abbrev pub is_next : TableauParts → ℕ → ℕ → Bool
is_next t n i = row_of (and_at t.ands n) i && is_some_next (part_of t.closure i)
