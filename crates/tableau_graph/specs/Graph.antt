-- A graph of AND and OR nodes by number, as the rules of deletion and unravelling speak of it, and what a tableau's graph is.
use Rattle.std.specs.Prelude.{ℕ, ◌≡◌, ◌<◌, false, List, Contains, length, Some, slice_get}
use Rattle.pair_structure.specs.Role.{RoleParts, first_start}
use Rattle.pair_structure.specs.Structure.{Structure, HasMove, IsOver}
use Rattle.pair_structure.specs.declared.side.Side.{Side}
use Rattle.ctl_form.specs.declared.part.Part.TheVariants.{Next}
use Rattle.closure_sets.specs.ClosureParts.{ClosureParts, count}
use Rattle.closure_sets.specs.Cover.{HoldsWhole, IsChosen, IsMetRow, IsTrueAt}
use Rattle.closure_sets.specs.Expansion.{expansion}
use Rattle.closure_sets.specs.Full.{Has, IsFull, EachRow}
use Rattle.closure_sets.specs.Label.{part_of, wrong_of}
use Rattle.closure_sets.specs.Row.{Members}
use Rattle.tableau_graph.specs.Rules.{Follows, IsCarried, IsTableau}
use Rattle.tableau_graph.specs.TableauParts.{TableauParts, IsWhole, and_at, or_at, pair_of, row_of, seed_of, edges_at, next_of}

-- ands: how many AND nodes there are; next_or n i: the OR successor of the AND node n for its member i, some EXs h
pub record Graph : Type 0 where
  pub ands : ℕ
  pub label : ℕ → ℕ × ℕ
  pub row : ℕ → Members
  pub seed : ℕ → Members
  pub children : ℕ → List ℕ
  pub next_or : ℕ → ℕ → ℕ

-- member i of the AND node n is EXs h
pub record IsSomeNext (c : ClosureParts) (g : Graph) (n i : ℕ) (side : Side) (h : ℕ) : Type 0 where
  pub node : n < g.ands
  pub member : Has (g.row n) i
  pub part : part_of c i ≡ Next false side h

-- rows are full and have no literal that is false at their label; seeds are what next-times carry, and children hold them
pub record IsGraph (c : ClosureParts) (g : Graph) : Type 0 where
  pub within : (o n : ℕ) → Contains (g.children o) n → n < g.ands
  pub full : (n : ℕ) → n < g.ands → IsFull c (g.row n)
  pub literals : (n i : ℕ) → n < g.ands → i < count c → Has (g.row n) i → wrong_of c (g.label n) i ≡ false
  pub seeded : (n i h : ℕ) (side : Side) → IsSomeNext c g n i side h → IsCarried c (g.row n) side h (g.seed (g.next_or n i))
  pub keeps : (o n j : ℕ) → Contains (g.children o) n → Has (g.seed o) j → Has (g.row n) j

-- the children of a successor are at the ends of arcs of its side
abbrev pub FollowArcs : RoleParts → RoleParts → ClosureParts → Graph → Type 0
FollowArcs a b c g = (n i h child : ℕ) (side : Side) → IsSomeNext c g n i side h → Contains (g.children (g.next_or n i)) child → Follows a b side (g.label n) (g.label child)

-- the children of the root are where both start
abbrev pub StartsAtRoot : RoleParts → RoleParts → Graph → ℕ → Type 0
StartsAtRoot a b g root = (child : ℕ) → Contains (g.children root) child → g.label child ≡ (first_start a, first_start b)

-- some child of the OR node has this label and this row
abbrev pub HasChild : Graph → ℕ → ℕ × ℕ → Members → Type 0
HasChild g o label row = (child : ℕ) × Contains (g.children o) child × (g.label child ≡ label) × (g.row child ≡ row)

-- at each label that an arc leads to, each row of the expansion is a child's
abbrev pub HasChildren : RoleParts → RoleParts → ClosureParts → Graph → Type 0
HasChildren a b c g = (n i h : ℕ) (side : Side) → IsSomeNext c g n i side h → (label : ℕ × ℕ) → Follows a b side (g.label n) label → EachRow (HasChild g (g.next_or n i) label) (expansion c label (g.seed (g.next_or n i)))

-- some child of the OR node is met at the state
abbrev pub HasMetChild : ClosureParts → Graph → Structure → (ℕ → Side) → ℕ → ℕ → Type 0
HasMetChild c g m chosen o s = (child : ℕ) × Contains (g.children o) child × (slice_get m.states s ≡ Some (g.label child)) × IsMetRow c chosen (IsTrueAt m c s) (g.row child)

-- the children of a successor cover: at each state that a move of its side leads to from a state with the node's label
abbrev pub ChildrenCover : RoleParts → RoleParts → ClosureParts → Graph → Type 0
ChildrenCover a b c g = (m : Structure) → IsOver a b m → (n i h : ℕ) (side : Side) → IsSomeNext c g n i side h → (s t : ℕ) → slice_get m.states s ≡ Some (g.label n) → HasMove m side s t → HoldsWhole m c t (g.seed (g.next_or n i))
    → (chosen : ℕ → Side) → IsChosen m c t chosen → HasMetChild c g m chosen (g.next_or n i) t

-- the children of the root cover: at state 0 of each structure where its members hold
abbrev pub RootCovers : RoleParts → RoleParts → ClosureParts → Graph → ℕ → Type 0
RootCovers a b c g root = (m : Structure) → IsOver a b m → HoldsWhole m c 0 (g.seed root) → (chosen : ℕ → Side) → IsChosen m c 0 chosen → HasMetChild c g m chosen root 0

-- a tableau's graph; its root is 0
abbrev pub graph_of : TableauParts → Graph
graph_of t = record {
  ands = length t.ands;
  label = λ n. pair_of (and_at t.ands n);
  row = λ n. row_of (and_at t.ands n);
  seed = λ o. seed_of (or_at t.ors o);
  children = λ o. edges_at t.children o;
  next_or = λ n i. next_of t.closure (and_at t.ands n) (edges_at t.successors n) i;
}

abbrev pub TableauIsGraph : Type 0
TableauIsGraph = (t : TableauParts) → IsTableau t → IsGraph t.closure (graph_of t)

abbrev pub TableauFollowsArcs : Type 0
TableauFollowsArcs = (t : TableauParts) → IsTableau t → FollowArcs t.a t.b t.closure (graph_of t)

abbrev pub TableauStarts : Type 0
TableauStarts = (t : TableauParts) → IsTableau t → StartsAtRoot t.a t.b (graph_of t) 0

abbrev pub TableauHasChildren : Type 0
TableauHasChildren = (t : TableauParts) → IsTableau t → IsWhole t → HasChildren t.a t.b t.closure (graph_of t)

abbrev pub TableauCovers : Type 0
TableauCovers = (t : TableauParts) → IsTableau t → IsWhole t → ChildrenCover t.a t.b t.closure (graph_of t)

abbrev pub TableauRootCovers : Type 0
TableauRootCovers = (t : TableauParts) → IsTableau t → IsWhole t → RootCovers t.a t.b t.closure (graph_of t) 0
