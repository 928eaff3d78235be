-- Shapes: a role with some of the labels of a process's edges.
use Rattle.std.specs.Prelude.{ℕ, ◌≡◌, ◌<◌, ◌≤◌, ◌+◌, ◌*◌, ◌==◌, min, max, cond, List, [], ◌∷◌, length, map, filter, count_by, slice_index_or}
use Rattle.std.specs.List.{range_with_len}
use Rattle.std.specs.List.Sorted.{IsNonDecreasingBy}
use Rattle.pair_structure.specs.declared.side.Side.{Side}
use Rattle.pair_structure.specs.declared.side.Side.TheVariants.{A, B}
use Rattle.pair_structure.specs.declared.side.LocalArc.{LocalArc}
use Rattle.pair_structure.specs.Parts.{role_at}
use Rattle.pair_structure.specs.Role.{RoleParts}
use Rattle.pair_structure.specs.Structure.{side_number}
use Rattle.interconnection.specs.declared.parts.Edge.{Edge}
use Rattle.interconnection.specs.Graph.{joins, degree_of}
use Rattle.interconnection.specs.Network.{NetworkParts, role_of}

-- a shape as a value: the number of a role, and for each leaf a kind and the centre's side
pub record ShapeParts : Type 0 where
  pub role : ℕ
  pub leaves : List (ℕ × Side)

-- the label of an edge of process k: its kind, and k's side
abbrev pub label_of : ℕ → Edge → ℕ × Side
label_of k edge = (edge.kind, cond (edge.a == k) A B)

-- the labels of k's edges, in the order of the edges
abbrev pub labels_of : List Edge → ℕ → List (ℕ × Side)
labels_of edges k = map (label_of k) (filter (joins k) edges)

-- the place of a label in their order: by kind, then a before b
abbrev pub rank : ℕ × Side → ℕ
rank label = 2 * label.0 + side_number label.1

-- how often a list has the label of this rank
abbrev pub times : ℕ → List (ℕ × Side) → ℕ
times r labels = count_by (λ label. rank label == r) labels

-- some of these labels, sorted, each at most as often as it stands there
pub record IsChoice (labels leaves : List (ℕ × Side)) : Type 0 where
  pub sorted : IsNonDecreasingBy rank leaves
  pub chosen : (r : ℕ) → times r leaves ≤ times r labels

abbrev pub greatest : List ℕ → ℕ
greatest [] = 0
greatest (n ∷ more) = max n (greatest more)

-- how many arcs leave a local state
abbrev pub arcs_from : List LocalArc → ℕ → ℕ
arcs_from arcs p = count_by (λ (arc : LocalArc). arc.from == p) arcs

-- the greatest number of arcs that leave one local state
abbrev pub most_arcs : RoleParts → ℕ
most_arcs role = greatest (map (arcs_from role.arcs) (range_with_len 0 (length role.locals)))

-- how many leaves a shape of k has
abbrev pub leaf_count : NetworkParts → ℕ → ℕ
leaf_count net k = min (degree_of net.edges k) (most_arcs (role_at net.roles (role_of net.processes k)) + 1)

-- a shape of process k
pub record IsShapeOf (net : NetworkParts) (k : ℕ) (shape : ShapeParts) : Type 0 where
  pub role_is : shape.role ≡ role_of net.processes k
  pub count : length shape.leaves ≡ leaf_count net k
  pub choice : IsChoice (labels_of net.edges k) shape.leaves

abbrev pub rank_at : List (ℕ × Side) → ℕ → ℕ
rank_at leaves i = rank (slice_index_or leaves i (0, A))

-- of two lists of labels the first comes before: where they first differ it has the lower label
abbrev pub IsBelow : List (ℕ × Side) → List (ℕ × Side) → Type 0
IsBelow xs ys = (p : ℕ) × (p < length xs) × ((i : ℕ) → i < p → rank_at xs i ≡ rank_at ys i) × (rank_at xs p < rank_at ys p)

-- the first of the shapes of k
pub record IsFirstShape (net : NetworkParts) (k : ℕ) (shape : ShapeParts) : Type 0 where
  pub is : IsShapeOf net k shape
  pub first : (other : ShapeParts) → IsShapeOf net k other → IsBelow other.leaves shape.leaves → ⊥

-- the next shape of k after this one
pub record IsNextShape (net : NetworkParts) (k : ℕ) (shape next : ShapeParts) : Type 0 where
  pub is : IsShapeOf net k next
  pub above : IsBelow shape.leaves next.leaves
  pub between : (other : ShapeParts) → IsShapeOf net k other → IsBelow shape.leaves other.leaves → IsBelow other.leaves next.leaves → ⊥

-- no shape of k comes after this one
abbrev pub IsLastShape : NetworkParts → ℕ → ShapeParts → Type 0
IsLastShape net k shape = (other : ShapeParts) → IsShapeOf net k other → IsBelow shape.leaves other.leaves → ⊥
