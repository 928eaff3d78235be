-- What makes a structure an unravelling of a set of nodes: each state has a node, and pursues one strong until at a time, in turn.
use Rattle.std.specs.Prelude.{ℕ, ◌≡◌, ◌⊎◌, ◌<◌, ◌≤◌, Bool, true, false, List, Contains, Some, length, slice_get, slice_index_or}
use Rattle.pair_structure.specs.Structure.{Structure, GoesOn, HasMove}
use Rattle.pair_structure.specs.declared.side.Side.{Side}
use Rattle.ctl_form.specs.declared.part.Part.TheVariants.{Next, Until}
use Rattle.closure_sets.specs.ClosureParts.{ClosureParts, count, after}
use Rattle.closure_sets.specs.Cover.{IsTrueAt}
use Rattle.closure_sets.specs.Full.{Has}
use Rattle.closure_sets.specs.Label.{part_of}
use Rattle.closure_sets.specs.Row.{Members}
use Rattle.tableau_graph.specs.Graph.{Graph, graph_of}
use Rattle.tableau_graph.specs.Rules.{IsTableau}
use Rattle.tableau_graph.specs.TableauParts.{TableauParts}
use Rattle.deletion_rules.specs.declared.position.Position.{Position}

-- what an unravelling goes by: the strong untils in the order of their turns, the member EXs u through which an E target u goes on, and the rank of an until at a node
pub record Plan : Type 0 where
  pub targets : List ℕ
  pub keep : Position → ℕ
  pub rank : ℕ → ℕ → ℕ

abbrev pub target_at : Plan → ℕ → ℕ
target_at plan place = slice_index_or plan.targets place 0

-- the until that is pursued
abbrev pub target : Plan → Position → ℕ
target plan p = target_at plan p.place

abbrev pub row_at : Graph → Position → Members
row_at g p = g.row p.node

-- member u is a strong until of the row, of all paths or of some, and not met there
abbrev pub IsPending : ClosureParts → Members → Bool → ℕ → Type 0
IsPending c row all u = (f : ℕ) × (g : ℕ) × (part_of c u ≡ Until all false f g) × Has row u × (Has row g → ⊥)

-- the target pends
abbrev pub Pends : ClosureParts → Graph → Plan → Bool → Position → Type 0
Pends c g plan all p = IsPending c (row_at g p) all (target plan p)

-- in a round, place y lies behind x and before x', where x' may be x again
abbrev pub IsPassed : ℕ → ℕ → ℕ → Type 0
IsPassed x x' y = ((x < y) × (y < x')) ⊎ ((x' ≤ x) × ((x < y) ⊎ (y < x')))

-- the place moves on, and passes nothing that pends behind the move
abbrev pub MovesOn : ClosureParts → Graph → Plan → Position → Position → Type 0
MovesOn c g plan p q = (y : ℕ) → y < length plan.targets → IsPassed p.place q.place y → (all : Bool) → IsPending c (row_at g q) all (target_at plan y) → ⊥

-- the target stays; or it pends no longer, and the place moves on
abbrev pub StaysWhilePending : ClosureParts → Graph → Plan → Position → Position → Type 0
StaysWhilePending c g plan p q = (q.place ≡ p.place) ⊎ (MovesOn c g plan p q × ((all : Bool) → IsPending c (row_at g q) all (target plan p) → ⊥))

-- the rank of the target falls, and it stays while it pends
pub record Pursues (c : ClosureParts) (g : Graph) (plan : Plan) (p q : Position) : Type 0 where
  pub falls : plan.rank (target plan p) q.node < plan.rank (target plan p) p.node
  pub stays : StaysWhilePending c g plan p q

-- member i has the successor through which the E target goes on
abbrev pub IsKeptBy : Graph → Plan → Position → ℕ → Type 0
IsKeptBy g plan p i = g.next_or p.node i ≡ g.next_or p.node (plan.keep p)

-- the move from p to q that member i, some EXs h, gives
pub record IsStep (c : ClosureParts) (g : Graph) (plan : Plan) (p : Position) (i : ℕ) (q : Position) : Type 0 where
  pub child : Contains (g.children (g.next_or p.node i)) q.node
  pub idle : (Pends c g plan true p → ⊥) → (Pends c g plan false p → ⊥) → MovesOn c g plan p q
  pub each : Pends c g plan true p → Pursues c g plan p q
  pub kept : Pends c g plan false p → IsKeptBy g plan p i → Pursues c g plan p q
  pub others : Pends c g plan false p → (IsKeptBy g plan p i → ⊥) → MovesOn c g plan p q

-- what a plan has to be for a closure: all strong untils take turns
abbrev pub HasTargets : ClosureParts → Plan → Type 0
HasTargets c plan = (u f g : ℕ) (all : Bool) → u < count c → part_of c u ≡ Until all false f g → (y : ℕ) × (y < length plan.targets) × (target_at plan y ≡ u)

-- each state has a position, and its node's label; each EXs h of its row has its move, and each move is one of these
pub record IsUnravelled (c : ClosureParts) (g : Graph) (m : Structure) (plan : Plan) (at : ℕ → Position) : Type 0 where
  pub goes_on : GoesOn m
  pub targets : HasTargets c plan
  pub nodes : (s : ℕ) → s < length m.states → (at s).node < g.ands
  pub placed : (s : ℕ) → s < length m.states → 0 < length plan.targets → (at s).place < length plan.targets
  pub labels : (s : ℕ) → s < length m.states → slice_get m.states s ≡ Some (g.label (at s).node)
  pub steps : (s : ℕ) → s < length m.states → (side : Side) (t : ℕ) → HasMove m side s t → (i : ℕ) × (h : ℕ) × (part_of c i ≡ Next false side h) × Has (row_at g (at s)) i × IsStep c g plan (at s) i (at t)
  pub goes : (s : ℕ) → s < length m.states → (i h : ℕ) (side : Side) → part_of c i ≡ Next false side h → Has (row_at g (at s)) i → (t : ℕ) × HasMove m side s t × IsStep c g plan (at s) i (at t)
  pub keep : (s : ℕ) → s < length m.states → Pends c g plan false (at s) → (side : Side) × (plan.keep (at s) ≡ after c side (target plan (at s))) × Has (row_at g (at s)) (plan.keep (at s))

-- Each formula of a node's row is true at that node's states.
abbrev pub RowsAreTrue : Type 0
RowsAreTrue = (t : TableauParts) → IsTableau t → (m : Structure) (plan : Plan) (at : ℕ → Position) → IsUnravelled t.closure (graph_of t) m plan at → (s i : ℕ) → s < length m.states → Has (row_at (graph_of t) (at s)) i → IsTrueAt m t.closure s i
