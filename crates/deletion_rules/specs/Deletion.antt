-- The rules that delete nodes, and a set of nodes from which they delete nothing (Emerson and Clarke 1982).
use Rattle.std.specs.Prelude.{ℕ, zero, suc, ◌≡◌, ◌⊎◌, ◌<◌, ◌≤◌, Bool, true, false, Option, Some, Contains}
use Rattle.pair_structure.specs.declared.side.Side.{Side}
use Rattle.ctl_form.specs.declared.part.Part.TheVariants.{Until}
use Rattle.closure_sets.specs.ClosureParts.{ClosureParts, after}
use Rattle.closure_sets.specs.Full.{Has}
use Rattle.closure_sets.specs.Label.{part_of}
use Rattle.tableau_graph.specs.Graph.{Graph, IsSomeNext}
use Rattle.deletion_rules.specs.declared.target.Target.{Target}

-- some living child of the OR node is such
abbrev pub SomeChild : Graph → (ℕ → Bool) → ℕ → (ℕ → Type 0) → Type 0
SomeChild g lives o X = (n : ℕ) × Contains (g.children o) n × (lives n ≡ true) × X n

-- some living child
abbrev pub LivesOr : Graph → (ℕ → Bool) → ℕ → Type 0
LivesOr g lives o = SomeChild g lives o (λ n. Unit {0})

-- the OR nodes through which an until u goes on from the node are such: each successor for one of all paths, that for EXs u of some side for one of some path
abbrev pub GoesOnBy : ClosureParts → Graph → Bool → ℕ → ℕ → (ℕ → Type 0) → Type 0
GoesOnBy c g true u n X = (i h : ℕ) (side : Side) → IsSomeNext c g n i side h → X (g.next_or n i)
GoesOnBy c g false u n X = (side : Side) × Has (g.row n) (after c side u) × X (g.next_or n (after c side u))

-- the until is fulfilled at the node with rank at most k: its part g is in the row; or its part f is, and it goes on to living children with a lower rank
abbrev pub Fulfilled : ClosureParts → Graph → (ℕ → Bool) → Target → ℕ → ℕ → Type 0
Fulfilled c g lives u zero n = Has (g.row n) u.g
Fulfilled c g lives u (suc k) n = Has (g.row n) u.g ⊎ (Has (g.row n) u.f × GoesOnBy c g u.all u.member n (λ o. SomeChild g lives o (Fulfilled c g lives u k)))

-- the strong until is in the node's row
pub record IsStrong (c : ClosureParts) (g : Graph) (n : ℕ) (u : Target) : Type 0 where
  pub part : part_of c u.member ≡ Until u.all false u.f u.g
  pub member : Has (g.row n) u.member

-- no rule deletes the node
pub record IsSupported (c : ClosureParts) (g : Graph) (lives : ℕ → Bool) (n : ℕ) : Type 0 where
  pub successors : (i h : ℕ) (side : Side) → IsSomeNext c g n i side h → LivesOr g lives (g.next_or n i)
  pub fulfilled : (u : Target) → IsStrong c g n u → (k : ℕ) × Fulfilled c g lives u k n

-- some living child of the OR node has a lower rank
abbrev pub HasLower : Graph → (ℕ → Bool) → (ℕ → ℕ → Option ℕ) → ℕ → ℕ → ℕ → Type 0
HasLower g lives rank u r o = SomeChild g lives o (λ n. (j : ℕ) × (rank n u ≡ Some j) × (j < r))

-- the until is met at the node, or its rank r falls as it goes on
abbrev pub Falls : ClosureParts → Graph → (ℕ → Bool) → (ℕ → ℕ → Option ℕ) → Target → ℕ → ℕ → Type 0
Falls c g lives rank u r n = Has (g.row n) u.g ⊎ (Has (g.row n) u.f × GoesOnBy c g u.all u.member n (HasLower g lives rank u.member r))

-- a rank for each strong until of each living node, which falls along the living children; and no other ranks
pub record AreRanks (c : ClosureParts) (g : Graph) (lives : ℕ → Bool) (rank : ℕ → ℕ → Option ℕ) : Type 0 where
  pub some : (n : ℕ) (u : Target) → lives n ≡ true → IsStrong c g n u → (r : ℕ) × (rank n u.member ≡ Some r) × Falls c g lives rank u r n
  pub only : (n i r : ℕ) → rank n i ≡ Some r → (lives n ≡ true) × ((u : Target) × (u.member ≡ i) × IsStrong c g n u)

-- a set of nodes from which the rules delete nothing, with the ranks of their strong untils
pub record IsKept (c : ClosureParts) (g : Graph) (lives : ℕ → Bool) (rank : ℕ → ℕ → Option ℕ) : Type 0 where
  pub nodes : (n : ℕ) → lives n ≡ true → n < g.ands
  pub successors : (n i h : ℕ) (side : Side) → lives n ≡ true → IsSomeNext c g n i side h → LivesOr g lives (g.next_or n i)
  pub ranks : AreRanks c g lives rank

-- the rules fulfil the until at the node with rank r, and with no lower one
pub record IsLeastRank (c : ClosureParts) (g : Graph) (lives : ℕ → Bool) (u : Target) (n r : ℕ) : Type 0 where
  pub fulfilled : Fulfilled c g lives u r n
  pub least : (k : ℕ) → Fulfilled c g lives u k n → r ≤ k

-- so does each rank
abbrev pub AreLeastRanks : ClosureParts → Graph → (ℕ → Bool) → (ℕ → ℕ → Option ℕ) → Type 0
AreLeastRanks c g lives rank = (n r : ℕ) (u : Target) → lives n ≡ true → IsStrong c g n u → rank n u.member ≡ Some r → IsLeastRank c g lives u n r
