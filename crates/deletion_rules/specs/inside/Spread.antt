-- How marks of a strong until spread, a round at a time: from the nodes that were marked last back along children and successors.
use Rattle.std.specs.Prelude.{ℕ, ◌≡◌, ◌⊎◌, ◌<◌, ◌+◌, Bool, true, false, Option, Some, List, Contains, length}
use Rattle.pair_structure.specs.declared.side.Side.{Side}
use Rattle.closure_sets.specs.ClosureParts.{ClosureParts, after}
use Rattle.closure_sets.specs.Full.{Has}
use Rattle.tableau_graph.specs.Graph.{graph_of, IsSomeNext}
use Rattle.tableau_graph.specs.TableauParts.{TableauParts}
use Rattle.deletion_rules.specs.inside.Cursors.{flag_of}
use Rattle.deletion_rules.specs.Deletion.{HasLower}
use Rattle.deletion_rules.specs.inside.Edges.{IsArrow}
use Rattle.pair_structure.specs.Lists.{list_at}
use Rattle.deletion_rules.specs.Marks.{lives_of, mark_at, open_count, rank_of, AreSound, IsMarkedBy, IsSeen}
use Rattle.deletion_rules.specs.declared.edges.Arrow.{Arrow}
use Rattle.deletion_rules.specs.declared.target.Target.{Target}

-- the OR node has one of these nodes as a child
abbrev pub IsParentOf : List (List ℕ) → List ℕ → ℕ → Type 0
IsParentOf parents nodes o = (n : ℕ) × Contains nodes n × Contains (list_at parents n) o

-- the OR nodes that are named are reached, and those that were not before stand in the list
pub record Reaching (Named : ℕ → Type 0) (before : List Bool) (old : List ℕ) (after : List Bool) (new : List ℕ) : Type 0 where
  pub long : length after ≡ length before
  pub kept : (o : ℕ) → flag_of before o ≡ true → flag_of after o ≡ true
  pub all : (o : ℕ) → Named o → flag_of after o ≡ true
  pub only : (o : ℕ) → flag_of after o ≡ true → (flag_of before o ≡ true) ⊎ (Named o × Contains new o)
  pub listed : (o : ℕ) → Contains old o → Contains new o
  pub fresh : (o : ℕ) → Contains new o → Contains old o ⊎ (flag_of after o ≡ true)

-- member i is EXs of the until u, for some side
abbrev pub IsNextTime : ClosureParts → ℕ → ℕ → Type 0
IsNextTime c u i = (side : Side) × (i ≡ after c side u)

-- the OR successors that the until u needs are reached: each, or that for EXs u of some side
abbrev pub IsLed : TableauParts → List Bool → Bool → ℕ → ℕ → Type 0
IsLed t reached true u n = (i h : ℕ) (side : Side) → IsSomeNext t.closure (graph_of t) n i side h → flag_of reached ((graph_of t).next_or n i) ≡ true
IsLed t reached false u n = (side : Side) × Has ((graph_of t).row n) (after t.closure side u) × (flag_of reached ((graph_of t).next_or n (after t.closure side u)) ≡ true)

-- a living node that has the until and its part f, and is led on
pub record IsPassing (t : TableauParts) (lives reached : List Bool) (target : Target) (n : ℕ) : Type 0 where
  pub living : lives_of lives n ≡ true
  pub member : Has ((graph_of t).row n) target.member
  pub f : Has ((graph_of t).row n) target.f
  pub led : IsLed t reached target.all target.member n

-- the arrow leads to an OR node that is reached
abbrev pub IsReaching : TableauParts → List Bool → Arrow → Type 0
IsReaching t reached arrow = (o : ℕ) × IsArrow t o arrow × (flag_of reached o ≡ true)

-- what the until asks of an arrow to an OR node that is reached: all others are too, or it is one for EXs u
abbrev pub IsLedBy : TableauParts → List Bool → Bool → ℕ → Arrow → Type 0
IsLedBy t reached true u arrow = IsLed t reached true u arrow.node
IsLedBy t reached false u arrow = IsNextTime t.closure u arrow.member

-- the arrow lets its node pass
pub record IsAdmitted (t : TableauParts) (lives reached : List Bool) (target : Target) (arrow : Arrow) : Type 0 where
  pub living : lives_of lives arrow.node ≡ true
  pub member : Has ((graph_of t).row arrow.node) target.member
  pub f : Has ((graph_of t).row arrow.node) target.f
  pub led : IsLedBy t reached target.all target.member arrow

abbrev pub IsMarked : List (Option ℕ) → ℕ → Type 0
IsMarked marks n = (r : ℕ) × (mark_at marks n ≡ Some r)

-- an arrow to one of these OR nodes
abbrev pub IsArrowTo : List (List Arrow) → List ℕ → Arrow → Type 0
IsArrowTo arrows ors arrow = (o : ℕ) × Contains ors o × Contains (list_at arrows o) arrow

-- nodes that pass are marked with the round and put behind the others of the list, those of the named arrows among them
pub record Visits (t : TableauParts) (lives reached : List Bool) (target : Target) (round : ℕ) (Named : Arrow → Type 0) (before : List (Option ℕ)) (old : List ℕ) (after : List (Option ℕ)) (new : List ℕ) : Type 0 where
  pub long : length after ≡ length before
  pub kept : (n r : ℕ) → mark_at before n ≡ Some r → mark_at after n ≡ Some r
  pub added : (n r : ℕ) → mark_at after n ≡ Some r → (mark_at before n ≡ Some r) ⊎ ((r ≡ round) × IsPassing t lives reached target n × Contains new n)
  pub listed : (n : ℕ) → Contains old n → Contains new n
  pub fresh : (n : ℕ) → Contains new n → Contains old n ⊎ IsMarked after n
  pub all : (arrow : Arrow) → Named arrow → IsAdmitted t lives reached target arrow → IsMarked after arrow.node
  pub fewer : open_count after + length new ≡ open_count before + length old

-- a living node that has the until and its part g
pub record IsMetAt (t : TableauParts) (lives : List Bool) (target : Target) (n : ℕ) : Type 0 where
  pub living : lives_of lives n ≡ true
  pub member : Has ((graph_of t).row n) target.member
  pub g : Has ((graph_of t).row n) target.g

-- of the first k nodes, those at which the until is met are marked with 0, and listed
pub record AreFirst (t : TableauParts) (lives : List Bool) (target : Target) (k : ℕ) (marks : List (Option ℕ)) (nodes : List ℕ) : Type 0 where
  pub long : length marks ≡ k
  pub met : (n : ℕ) → n < k → IsMetAt t lives target n → IsMarked marks n
  pub only : (n r : ℕ) → mark_at marks n ≡ Some r → (r ≡ 0) × IsMetAt t lives target n × Contains nodes n
  pub listed : (n : ℕ) → Contains nodes n → IsMarked marks n
  pub fewer : open_count marks + length nodes ≡ k

-- marks of the rounds before this one: the OR nodes with a marked child are reached, but for those of the nodes that were marked last, and each node that passes by what is reached has a mark
pub record IsSpread (t : TableauParts) (lives : List Bool) (target : Target) (round : ℕ) (marks : List (Option ℕ)) (reached : List Bool) (nodes : List ℕ) : Type 0 where
  pub sound : AreSound t.closure (graph_of t) (lives_of lives) target round marks
  pub listed : (n : ℕ) → Contains nodes n → IsMarked marks n
  pub long : length reached ≡ length t.ors
  pub lower : (o : ℕ) → flag_of reached o ≡ true → HasLower (graph_of t) (lives_of lives) (rank_of marks) target.member round o
  pub caught : (o n : ℕ) → o < length t.ors → Contains ((graph_of t).children o) n → IsMarked marks n → (flag_of reached o ≡ true) ⊎ Contains nodes n
  pub met : (n : ℕ) → IsMetAt t lives target n → IsMarked marks n
  pub passing : (n : ℕ) → IsPassing t lives reached target n → IsMarked marks n
  pub prompt : (n r : ℕ) → r < round → IsSeen t.closure (graph_of t) (lives_of lives) marks target r n → IsMarkedBy marks r n
