-- What the laws of deletion say of a graph and a closure of its own, before they are said of tableaux.
use Rattle.std.specs.Prelude.{ℕ, ◌<◌, Bool, length}
use Rattle.pair_structure.specs.Role.{RoleParts}
use Rattle.pair_structure.specs.Structure.{IsOver, Structure}
use Rattle.closure_sets.specs.ClosureParts.{ClosureParts, IsClosureParts}
use Rattle.closure_sets.specs.Cover.{HoldsWhole, IsTrueAt}
use Rattle.closure_sets.specs.Full.{Has}
use Rattle.tableau_graph.specs.Graph.{Graph, IsGraph, ChildrenCover, RootCovers}
use Rattle.deletion_rules.specs.Deletion.{Fulfilled, IsStrong, IsSupported, LivesOr}
use Rattle.deletion_rules.specs.Laws.{AreWithin, GoneFor}
use Rattle.deletion_rules.specs.Met.{Meets, MetLive, RoundOf}
use Rattle.deletion_rules.specs.Unravel.{Plan, IsUnravelled, row_at}
use Rattle.deletion_rules.specs.declared.position.Position.{Position}
use Rattle.deletion_rules.specs.declared.target.Target.{Target}

abbrev pub MetAreSupportedOfGraph : Type 0
MetAreSupportedOfGraph = (a b : RoleParts) (c : ClosureParts) → IsClosureParts c → (g : Graph) → IsGraph c g → ChildrenCover a b c g → (lives : ℕ → Bool) → MetLive a b c g lives
    → (m : Structure) → IsOver a b m → (s n : ℕ) → s < length m.states → Meets m c g s n → IsSupported c g lives n

abbrev pub RanksAreBoundedOfGraph : Type 0
RanksAreBoundedOfGraph = (a b : RoleParts) (c : ClosureParts) → IsClosureParts c → (g : Graph) → IsGraph c g → ChildrenCover a b c g → (lives : ℕ → Bool) → MetLive a b c g lives
    → (m : Structure) → IsOver a b m → (s n : ℕ) → s < length m.states → Meets m c g s n → (u : Target) → IsStrong c g n u → (k : ℕ) → RoundOf m c u.all u.f u.g k s → Fulfilled c g lives u k n

abbrev pub RemovalKeepsMetOfGraph : Type 0
RemovalKeepsMetOfGraph = (a b : RoleParts) (c : ClosureParts) → IsClosureParts c → (g : Graph) → IsGraph c g → ChildrenCover a b c g → (lives left : ℕ → Bool) → MetLive a b c g lives → GoneFor c g lives left → MetLive a b c g left

abbrev pub SupportRisesOfGraph : Type 0
SupportRisesOfGraph = (c : ClosureParts) (g : Graph) (lives more : ℕ → Bool) → AreWithin lives more → (n : ℕ) → IsSupported c g lives n → IsSupported c g more n

abbrev pub DeadIsUnsatisfiableOfGraph : Type 0
DeadIsUnsatisfiableOfGraph = (a b : RoleParts) (c : ClosureParts) → IsClosureParts c → (g : Graph) → IsGraph c g → (root : ℕ) → RootCovers a b c g root → (lives : ℕ → Bool) → MetLive a b c g lives → (LivesOr g lives root → ⊥)
    → (m : Structure) → IsOver a b m → HoldsWhole m c 0 (g.seed root) → ⊥

abbrev pub RowsAreTrueOfGraph : Type 0
RowsAreTrueOfGraph = (c : ClosureParts) → IsClosureParts c → (g : Graph) → IsGraph c g → (m : Structure) (plan : Plan) (at : ℕ → Position) → IsUnravelled c g m plan at → (s i : ℕ) → s < length m.states → Has (row_at g (at s)) i → IsTrueAt m c s i
