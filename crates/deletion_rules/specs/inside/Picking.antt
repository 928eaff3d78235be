-- How the steps of an unravelling are picked: the living child of lowest rank, and the next place whose until pends.
use Rattle.std.specs.Prelude.{ℕ, ◌≡◌, ◌<◌, ◌≤◌, Bool, true, false, Option, Some, None, List, Contains}
use Rattle.pair_structure.specs.Role.{RoleParts}
use Rattle.pair_structure.specs.Structure.{IsLabel}
use Rattle.pair_structure.specs.declared.side.Side.{Side}
use Rattle.closure_sets.specs.ClosureParts.{ClosureParts, after}
use Rattle.closure_sets.specs.Full.{Has}
use Rattle.closure_sets.specs.Row.{Members}
use Rattle.tableau_graph.specs.Graph.{Graph}
use Rattle.deletion_rules.specs.Deletion.{HasLower}
use Rattle.deletion_rules.specs.Unravel.{Plan, target, row_at, IsPending, Pends, IsPassed}
use Rattle.deletion_rules.specs.declared.position.Position.{Position}

-- a living node of the list, of which none has a lower rank; one without a rank only where none has one
pub record IsBest (lives : ℕ → Bool) (rank : ℕ → Option ℕ) (nodes : List ℕ) (best : ℕ) : Type 0 where
  pub among : Contains nodes best
  pub living : lives best ≡ true
  pub lowest : (n j : ℕ) → Contains nodes n → lives n ≡ true → rank n ≡ Some j → (k : ℕ) × (rank best ≡ Some k) × (k ≤ j)

-- a place that comes behind x in a round of so many, so that none with the property is passed
pub record IsNextPlace (X : ℕ → Type 0) (size x next : ℕ) : Type 0 where
  pub within : next < size
  pub passes : (y : ℕ) → y < size → IsPassed x next y → X y → ⊥

-- the until pends, of whichever kind
abbrev pub Pending : ClosureParts → Members → ℕ → Type 0
Pending c row u = (all : Bool) × IsPending c row all u

abbrev pub or_zero : Option ℕ → ℕ
or_zero (Some n) = n
or_zero None = 0

-- the plan of a kept set: ranks are the set's, and an E target that pends at a living node goes on where its rank falls
pub record IsPlan (c : ClosureParts) (g : Graph) (lives : ℕ → Bool) (rank : ℕ → ℕ → Option ℕ) (plan : Plan) : Type 0 where
  pub ranks : (u n : ℕ) → plan.rank u n ≡ or_zero (rank n u)
  pub keeps : (p : Position) → lives p.node ≡ true → Pends c g plan false p → (side : Side) × (plan.keep p ≡ after c side (target plan p)) × Has (row_at g p) (plan.keep p) × HasLower g lives rank (target plan p) (or_zero (rank p.node (target plan p))) (g.next_or p.node (plan.keep p))

-- a living node whose label is within the roles, and a place of the round
pub record IsGood (a b : RoleParts) (g : Graph) (lives : ℕ → Bool) (size : ℕ) (p : Position) : Type 0 where
  pub living : lives p.node ≡ true
  pub label : IsLabel a b (g.label p.node)
  pub place : p.place < size
