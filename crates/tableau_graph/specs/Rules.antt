-- The rules that make a tableau, or a part of it (Emerson and Clarke 1982).
use Rattle.std.specs.Prelude.{ℕ, zero, suc, ◌≡◌, ◌<◌, ◌≤◌, ◌⊎◌, ◌↔◌, false, true, Option, Some, None, List, length, Contains, slice_get}
use Rattle.pair_structure.specs.Role.{RoleParts, IsRole, HasOneStart, first_start}
use Rattle.pair_structure.specs.Structure.{TakesArc, OtherStays}
use Rattle.pair_structure.specs.declared.side.Side.{Side}
use Rattle.ctl_form.specs.declared.part.Part.TheVariants.{Next}
use Rattle.closure_sets.specs.ClosureParts.{ClosureParts, IsClosureParts, count}
use Rattle.closure_sets.specs.Firsts.{IsOneOf}
use Rattle.closure_sets.specs.Full.{Has, EachRow}
use Rattle.closure_sets.specs.Label.{part_of}
use Rattle.closure_sets.specs.Row.{Members}
use Rattle.tableau_graph.specs.TableauParts.{TableauParts, offered, and_at, or_at, pair_of, row_of, origin_of, seed_of, edges_at, somes_below, next_of}
use Rattle.tableau_graph.specs.declared.nodes.AndNode.{AndNode}
use Rattle.tableau_graph.specs.declared.nodes.OrNode.{OrNode}

-- from one pair to the other, this side takes an arc and the other stays
abbrev pub Follows : RoleParts → RoleParts → Side → ℕ × ℕ → ℕ × ℕ → Type 0
Follows a b side from to = TakesArc a.arcs b.arcs side from to × OtherStays side from to

-- the pairs that an OR node leads to: its own at the root, and else the ends of the arcs of its side
abbrev pub LeadsTo : RoleParts → RoleParts → Option Side → ℕ × ℕ → ℕ × ℕ → Type 0
LeadsTo a b None from to = to ≡ from
LeadsTo a b (Some side) from to = Follows a b side from to

-- the seed has h, each x for an AXs x of the row, and nothing else
abbrev pub IsCarried : ClosureParts → Members → Side → ℕ → Members → Type 0
IsCarried c row side h seed = (j : ℕ) → Has seed j ↔ ((j ≡ h) ⊎ ((x : ℕ) × (part_of c x ≡ Next true side j) × Has row x))

-- the node without a side, with the start of each role, and the roots of all conjuncts
pub record IsRoot (t : TableauParts) (node : OrNode) : Type 0 where
  pub sided : node.side ≡ None
  pub origin : origin_of node ≡ (first_start t.a, first_start t.b)
  pub seed : (j : ℕ) → Has (seed_of node) j ↔ Contains t.closure.roots j

-- the AND node has a pair that the OR node leads to, and a row that is offered of its row there
pub record IsChild (t : TableauParts) (node : OrNode) (child : AndNode) : Type 0 where
  pub leads : LeadsTo t.a t.b node.side (origin_of node) (pair_of child)
  pub row : IsOneOf (offered t.breadth t.closure (pair_of child) (seed_of node)) (row_of child)

-- some node of the list has this pair and row
abbrev pub HasNode : TableauParts → List ℕ → ℕ × ℕ → Members → Type 0
HasNode t numbers pair row = (n : ℕ) × Contains numbers n × (pair_of (and_at t.ands n) ≡ pair) × (row_of (and_at t.ands n) ≡ row)

-- the children of an OR node: they all are, and none is missing
pub record AreChildren (t : TableauParts) (node : OrNode) (numbers : List ℕ) : Type 0 where
  pub within : (n : ℕ) → Contains numbers n → n < length t.ands
  pub each : (n : ℕ) → Contains numbers n → IsChild t node (and_at t.ands n)
  pub all : (pair : ℕ × ℕ) → LeadsTo t.a t.b node.side (origin_of node) pair → EachRow (HasNode t numbers pair) (offered t.breadth t.closure pair (seed_of node))

-- the OR node that an AND node's EXs h leads to
pub record IsSuccessor (c : ClosureParts) (node : AndNode) (side : Side) (h : ℕ) (successor : OrNode) : Type 0 where
  pub sided : successor.side ≡ Some side
  pub origin : origin_of successor ≡ pair_of node
  pub seed : IsCarried c (row_of node) side h (seed_of successor)

-- the successors of an AND node: one for each EXs h of its row, in rising order of these members
pub record AreSuccessors (t : TableauParts) (node : AndNode) (numbers : List ℕ) : Type 0 where
  pub long : length numbers ≡ somes_below t.closure (row_of node) (count t.closure)
  pub within : (o : ℕ) → Contains numbers o → o < length t.ors
  pub each : (i h : ℕ) (side : Side) → part_of t.closure i ≡ Next false side h → Has (row_of node) i → Contains numbers (next_of t.closure node numbers i) × IsSuccessor t.closure node side h (or_at t.ors (next_of t.closure node numbers i))

-- the OR node is reached from the root by k times a child and its successor
abbrev pub IsReachedBy : TableauParts → ℕ → ℕ → Type 0
IsReachedBy t zero o = o ≡ 0
IsReachedBy t (suc k) o = (p : ℕ) × (n : ℕ) × IsReachedBy t k p × Contains (edges_at t.children p) n × Contains (edges_at t.successors n) o

abbrev pub IsReachedOr : TableauParts → ℕ → Type 0
IsReachedOr t o = (k : ℕ) × IsReachedBy t k o

abbrev pub IsReachedAnd : TableauParts → ℕ → Type 0
IsReachedAnd t n = (o : ℕ) × IsReachedOr t o × Contains (edges_at t.children o) n

-- no node stands twice
abbrev pub AreApart : {N : Type 0} → List N → Type 0
AreApart {N} nodes = (n k : ℕ) (node : N) → slice_get nodes n ≡ Some node → slice_get nodes k ≡ Some node → n ≡ k

-- each role has one start, no two nodes of a kind have one label, and the nodes that are expanded are so by the rules
pub record FollowsRules (t : TableauParts) : Type 0 where
  pub closure : IsClosureParts t.closure
  pub role_a : IsRole t.a
  pub role_b : IsRole t.b
  pub one_a : HasOneStart t.a
  pub one_b : HasOneStart t.b
  pub some : 0 < length t.ors
  pub root : IsRoot t (or_at t.ors 0)
  pub ands_apart : AreApart t.ands
  pub ors_apart : AreApart t.ors
  pub listed_ors : length t.children ≤ length t.ors
  pub listed_ands : length t.successors ≤ length t.ands
  pub children : (o : ℕ) → o < length t.children → AreChildren t (or_at t.ors o) (edges_at t.children o)
  pub successors : (n : ℕ) → n < length t.successors → AreSuccessors t (and_at t.ands n) (edges_at t.successors n)
  pub ands_reached : (n : ℕ) → n < length t.ands → IsReachedAnd t n
  pub ors_reached : (o : ℕ) → o < length t.ors → IsReachedOr t o

-- the graph of the rules, of its breadth: each of its nodes is expanded
pub record IsTableau (t : TableauParts) : Type 0 where
  pub rules : FollowsRules t
  pub all_ors : length t.children ≡ length t.ors
  pub all_ands : length t.successors ≡ length t.ands
