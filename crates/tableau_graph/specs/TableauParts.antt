-- What contracts see of a tableau: its AND nodes and its OR nodes in the order of their numbers, and the edges between them.
use Rattle.std.specs.Prelude.{ℕ, zero, suc, ◌≡◌, Bool, true, false, ◌&&◌, None, List, [], slice_index_or}
use Rattle.pair_structure.specs.Role.{RoleParts}
use Rattle.ctl_form.specs.declared.part.Part.{Part}
use Rattle.ctl_form.specs.declared.part.Part.TheVariants.{Yes, No, Lit, Both, Either, Next, Until}
use Rattle.closure_sets.specs.ClosureParts.{ClosureParts}
use Rattle.closure_sets.specs.Expansion.{expansion, one_sided}
use Rattle.closure_sets.specs.Label.{part_of}
use Rattle.closure_sets.specs.Row.{Members, set_of}
use Rattle.closure_sets.specs.declared.row.Row.{Row}
use Rattle.tableau_graph.specs.declared.breadth.Breadth.{Breadth}
use Rattle.tableau_graph.specs.declared.breadth.Breadth.TheVariants.{Whole, OneSided}
use Rattle.tableau_graph.specs.declared.nodes.AndNode.{AndNode}
use Rattle.tableau_graph.specs.declared.nodes.OrNode.{OrNode}

-- the rows that a graph of this breadth offers of a seed at a label
abbrev pub offered : Breadth → ClosureParts → ℕ × ℕ → Members → List Members
offered Whole c label seed = expansion c label seed
offered OneSided c label seed = one_sided c label seed

-- children: of each OR node the numbers of AND nodes; successors: of each AND node the numbers of OR nodes
pub record TableauParts : Type 0 where
  pub closure : ClosureParts
  pub a : RoleParts
  pub b : RoleParts
  pub breadth : Breadth
  pub ands : List AndNode
  pub ors : List OrNode
  pub children : List (List ℕ)
  pub successors : List (List ℕ)

-- each row of an expansion is offered
abbrev pub IsWhole : TableauParts → Type 0
IsWhole t = t.breadth ≡ Whole

abbrev pub no_row : Row
no_row = record { words = [] }

abbrev pub and_at : List AndNode → ℕ → AndNode
and_at ands n = slice_index_or ands n (record { a = 0; b = 0; row = no_row })

abbrev pub or_at : List OrNode → ℕ → OrNode
or_at ors o = slice_index_or ors o (record { side = None; a = 0; b = 0; row = no_row })

-- the local pair and the row of an AND node
abbrev pub pair_of : AndNode → ℕ × ℕ
pair_of n = (n.a, n.b)

abbrev pub row_of : AndNode → Members
row_of n = set_of n.row.words

-- the local pair that an OR node is entered from, and its row, which its children hold
abbrev pub origin_of : OrNode → ℕ × ℕ
origin_of o = (o.a, o.b)

abbrev pub seed_of : OrNode → Members
seed_of o = set_of o.row.words

-- the numbers in a list of lists
abbrev pub edges_at : List (List ℕ) → ℕ → List ℕ
edges_at lists i = slice_index_or lists i []

-- whether a part is some EXs g
abbrev pub is_some_next : Part → Bool
is_some_next (Next false side g) = true
is_some_next (Next true side g) = false
is_some_next Yes = false
is_some_next No = false
is_some_next (Lit side local is) = false
is_some_next (Both f g) = false
is_some_next (Either f g) = false
is_some_next (Until all weak f g) = false

abbrev pub one_more : Bool → ℕ → ℕ
one_more true n = suc n
one_more false n = n

-- how many members of the row below i are some EXs g
abbrev pub somes_below : ClosureParts → Members → ℕ → ℕ
somes_below c row zero = 0
somes_below c row (suc i) = one_more (row i && is_some_next (part_of c i)) (somes_below c row i)

-- the OR node that an AND node's member i, some EXs g, leads to, of its successors: they are in the rising order of these members
abbrev pub next_of : ClosureParts → AndNode → List ℕ → ℕ → ℕ
next_of c node successors i = slice_index_or successors (somes_below c (row_of node) i) 0
