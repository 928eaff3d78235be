-- The laws of deletion. What is met is asked of whole tableaux alone.
use Rattle.std.specs.Prelude.{ℕ, ◌≡◌, ◌⊎◌, ◌<◌, Bool, true, false, length}
use Rattle.pair_structure.specs.Structure.{IsOver, Structure}
use Rattle.closure_sets.specs.ClosureParts.{ClosureParts}
use Rattle.closure_sets.specs.Cover.{HoldsWhole}
use Rattle.tableau_graph.specs.Graph.{Graph, graph_of}
use Rattle.tableau_graph.specs.Rules.{IsTableau}
use Rattle.tableau_graph.specs.TableauParts.{IsWhole, TableauParts}
use Rattle.deletion_rules.specs.Deletion.{Fulfilled, IsStrong, IsSupported, LivesOr}
use Rattle.deletion_rules.specs.Met.{Meets, MetLive, RoundOf}
use Rattle.deletion_rules.specs.declared.target.Target.{Target}

-- A node that a state meets is supported, where all that is met lives.
abbrev pub MetAreSupported : Type 0
MetAreSupported = (t : TableauParts) → IsTableau t → IsWhole t → (lives : ℕ → Bool) → MetLive t.a t.b t.closure (graph_of t) lives
    → (m : Structure) → IsOver t.a t.b m → (s n : ℕ) → s < length m.states → Meets m t.closure (graph_of t) s n → IsSupported t.closure (graph_of t) lives n

-- The rank of A[f U g] at a node is at most its depth at a state that meets the node, and that of E[f U g] at most its least path.
abbrev pub RanksAreBounded : Type 0
RanksAreBounded = (t : TableauParts) → IsTableau t → IsWhole t → (lives : ℕ → Bool) → MetLive t.a t.b t.closure (graph_of t) lives
    → (m : Structure) → IsOver t.a t.b m → (s n : ℕ) → s < length m.states → Meets m t.closure (graph_of t) s n
    → (u : Target) → IsStrong t.closure (graph_of t) n u → (k : ℕ) → RoundOf m t.closure u.all u.f u.g k s → Fulfilled t.closure (graph_of t) lives u k n

-- the nodes that are gone were gone before, or are not supported
abbrev pub GoneFor : ClosureParts → Graph → (ℕ → Bool) → (ℕ → Bool) → Type 0
GoneFor c g lives left = (n : ℕ) → n < g.ands → left n ≡ false → (lives n ≡ false) ⊎ (IsSupported c g lives n → ⊥)

-- Nodes that are not supported may go, all at once.
abbrev pub RemovalKeepsMet : Type 0
RemovalKeepsMet = (t : TableauParts) → IsTableau t → IsWhole t → (lives left : ℕ → Bool) → MetLive t.a t.b t.closure (graph_of t) lives → GoneFor t.closure (graph_of t) lives left
    → MetLive t.a t.b t.closure (graph_of t) left

-- the first nodes are among the others
abbrev pub AreWithin : (ℕ → Bool) → (ℕ → Bool) → Type 0
AreWithin lives more = (n : ℕ) → lives n ≡ true → more n ≡ true

-- What is supported under fewer living nodes is so under more.
abbrev pub SupportRises : Type 0
SupportRises = (t : TableauParts) (lives more : ℕ → Bool) → AreWithin lives more → (n : ℕ) → IsSupported t.closure (graph_of t) lives n → IsSupported t.closure (graph_of t) more n

-- Where no child of the root lives, no structure over the roles makes the root's members true at its state 0.
abbrev pub DeadIsUnsatisfiable : Type 0
DeadIsUnsatisfiable = (t : TableauParts) → IsTableau t → IsWhole t → (lives : ℕ → Bool) → MetLive t.a t.b t.closure (graph_of t) lives → (LivesOr (graph_of t) lives 0 → ⊥)
    → (m : Structure) → IsOver t.a t.b m → HoldsWhole m t.closure 0 ((graph_of t).seed 0) → ⊥
