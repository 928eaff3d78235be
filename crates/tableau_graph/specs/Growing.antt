-- How a tableau grows: the nodes of one expansion, and the parts so far.
use Rattle.std.specs.Prelude.{ℕ, ◌≡◌, ◌<◌, ◌⊎◌, ◌↔◌, ◌+◌, ◌-◌, ◌^◌, ◌&&◌, Bool, true, false, Option, Some, List, length, map, Contains, slice_get, MatchOption}
use Rattle.std.specs.Global.{Vec}
use Rattle.pair_structure.specs.Role.{RoleParts}
use Rattle.pair_structure.specs.Sides.{local_of, with_local}
use Rattle.pair_structure.specs.declared.side.LocalArc.{LocalArc}
use Rattle.pair_structure.specs.declared.side.Side.{Side}
use Rattle.ctl_form.specs.declared.part.Part.{Part}
use Rattle.ctl_form.specs.declared.part.Part.TheVariants.{Next}
use Rattle.closure_sets.specs.ClosureParts.{ClosureParts}
use Rattle.closure_sets.specs.Firsts.{IsOneOf}
use Rattle.closure_sets.specs.Full.{Has, EachRow}
use Rattle.closure_sets.specs.Label.{part_of}
use Rattle.closure_sets.specs.Row.{Members}
use Rattle.closure_sets.specs.declared.row.Row.{Row}
use Rattle.tableau_graph.specs.Rules.{IsSuccessor}
use Rattle.tableau_graph.specs.TableauParts.{TableauParts, offered, pair_of, row_of, is_some_next, somes_below}
use Rattle.tableau_graph.specs.declared.breadth.Breadth.{Breadth}
use Rattle.tableau_graph.specs.declared.growing.Growing.{Growing}
use Rattle.tableau_graph.specs.declared.nodes.AndNode.{AndNode}
use Rattle.tableau_graph.specs.declared.nodes.OrNode.{OrNode}

-- an arc leads this side from the pair's local state to that of the other pair
abbrev pub IsEnd : Side → ℕ × ℕ → LocalArc → ℕ × ℕ → Type 0
IsEnd side pair arc end = (arc.from ≡ local_of side pair) × (end ≡ with_local side pair arc.to)

-- the pairs at the ends of the arcs that leave this side's local state
abbrev pub AreEnds : Side → ℕ × ℕ → List LocalArc → List (ℕ × ℕ) → Type 0
AreEnds side pair arcs ends = (end : ℕ × ℕ) → Contains ends end ↔ ((arc : LocalArc) × Contains arcs arc × IsEnd side pair arc end)

abbrev pub and_with : ℕ × ℕ → Row → AndNode
and_with pair row = record { a = pair.0; b = pair.1; row = row }

-- some node has this pair and these members
abbrev pub HasAnd : List AndNode → ℕ × ℕ → Members → Type 0
HasAnd nodes pair row = (node : AndNode) × Contains nodes node × (pair_of node ≡ pair) × (row_of node ≡ row)

-- the nodes of a seed at these pairs: one for each row that is offered
pub record AreNodesAt (c : ClosureParts) (breadth : Breadth) (pairs : List (ℕ × ℕ)) (seed : Members) (nodes : List AndNode) : Type 0 where
  pub each : (node : AndNode) → Contains nodes node → Contains pairs (pair_of node) × IsOneOf (offered breadth c (pair_of node) seed) (row_of node)
  pub all : (pair : ℕ × ℕ) → Contains pairs pair → EachRow (HasAnd nodes pair) (offered breadth c pair seed)

-- the set has each x for an AXs x that is a member below n of the row, and nothing else
abbrev pub IsCarriedBelow : ClosureParts → Members → Side → ℕ → Members → Type 0
IsCarriedBelow c row side n set = (j : ℕ) → Has set j ↔ ((x : ℕ) × (x < n) × (part_of c x ≡ Next true side j) × Has row x)

-- the set with x more, where the part is AXs x and its member is in the row
abbrev pub IsCarriedTo : Side → Part → Bool → Members → Members → Type 0
IsCarriedTo side part has before after = (j : ℕ) → Has after j ↔ (Has before j ⊎ ((has ≡ true) × (part ≡ Next true side j)))

-- the OR node for member i, where that is some EXs h of the row
abbrev pub IsNextNode : ClosureParts → AndNode → ℕ → Option OrNode → Type 0
IsNextNode c node i found = MatchOption found ((row_of node i && is_some_next (part_of c i)) ≡ false) (λ o. ((row_of node i && is_some_next (part_of c i)) ≡ true) × ((h : ℕ) (side : Side) → part_of c i ≡ Next false side h → IsSuccessor c node side h o))

-- the OR nodes for the members below n
pub record AreNextNodes (c : ClosureParts) (node : AndNode) (n : ℕ) (nodes : List OrNode) : Type 0 where
  pub long : length nodes ≡ somes_below c (row_of node) n
  pub each : (i h : ℕ) (side : Side) → i < n → part_of c i ≡ Next false side h → Has (row_of node) i → (o : OrNode) × (slice_get nodes (somes_below c (row_of node) i) ≡ Some o) × IsSuccessor c node side h o

-- the lists that vectors hold
abbrev pub lists_of : List (Vec ℕ) → List (List ℕ)
lists_of vectors = map (λ (v : Vec ℕ). v.items) vectors

-- the tableau so far
abbrev pub parts_of : ClosureParts → RoleParts → RoleParts → Growing → TableauParts
parts_of c a b g = record { closure = c; a = a; b = b; breadth = g.breadth; ands = g.ands; ors = g.ors; children = lists_of g.children.items; successors = lists_of g.successors.items }

-- more than what can still be expanded
abbrev pub room_of : Growing → ℕ
room_of g = (2 ^ 64 - length g.children.items) + (2 ^ 64 - length g.successors.items)
