-- Marks of a strong until: where it is fulfilled, and in which round that was seen.
use Rattle.std.specs.Prelude.{ℕ, ◌≡◌, ◌⊎◌, ◌<◌, ◌≤◌, Bool, true, false, Option, Some, None, List, [], length, slice_index_or, is_none, count_by, map}
use Rattle.std.specs.Global.{Vec}
use Rattle.ctl_form.specs.declared.part.Part.TheVariants.{Until}
use Rattle.closure_sets.specs.ClosureParts.{ClosureParts}
use Rattle.closure_sets.specs.Full.{Has}
use Rattle.closure_sets.specs.Label.{part_of}
use Rattle.tableau_graph.specs.Graph.{Graph, IsSomeNext}
use Rattle.pair_structure.specs.declared.side.Side.{Side}
use Rattle.deletion_rules.specs.Deletion.{Falls, IsStrong, IsSupported, LivesOr}
use Rattle.deletion_rules.specs.Targets.{target_with}
use Rattle.deletion_rules.specs.declared.target.Target.{Target}

-- whether the node lives, by a list of truth values
abbrev pub lives_of : List Bool → ℕ → Bool
lives_of lives n = slice_index_or lives n false

-- the mark of a node
abbrev pub mark_at : List (Option ℕ) → ℕ → Option ℕ
mark_at marks n = slice_index_or marks n None

-- marks of one until as ranks
abbrev pub rank_of : List (Option ℕ) → ℕ → ℕ → Option ℕ
rank_of marks n u = mark_at marks n

-- a living node that has the until, at which it is met or goes on to lower marks than the round
pub record IsSeen (c : ClosureParts) (g : Graph) (lives : ℕ → Bool) (marks : List (Option ℕ)) (u : Target) (round n : ℕ) : Type 0 where
  pub living : lives n ≡ true
  pub member : Has (g.row n) u.member
  pub falls : Falls c g lives (rank_of marks) u round n

-- marks that were made in rounds before this one
pub record AreSound (c : ClosureParts) (g : Graph) (lives : ℕ → Bool) (u : Target) (round : ℕ) (marks : List (Option ℕ)) : Type 0 where
  pub long : length marks ≡ g.ands
  pub below : (n r : ℕ) → mark_at marks n ≡ Some r → r < round
  pub seen : (n r : ℕ) → mark_at marks n ≡ Some r → IsSeen c g lives marks u r n

-- how many nodes have no mark
abbrev pub open_count : List (Option ℕ) → ℕ
open_count marks = count_by (λ (mark : Option ℕ). is_none mark) marks

-- the node has a mark of at most r
abbrev pub IsMarkedBy : List (Option ℕ) → ℕ → ℕ → Type 0
IsMarkedBy marks r n = (k : ℕ) × (k ≤ r) × (mark_at marks n ≡ Some k)

-- marks that were made as soon as they could be: where the until is met or goes on to marks below r, the node has one of at most r
pub record AreMarks (c : ClosureParts) (g : Graph) (lives : ℕ → Bool) (u : Target) (marks : List (Option ℕ)) : Type 0 where
  pub round : ℕ
  pub sound : AreSound c g lives u round marks
  pub full : (n r : ℕ) → IsSeen c g lives marks u r n → IsMarkedBy marks r n

-- the marks of member i, where it is a strong until; and no marks, where it is not
pub record AreMarksOf (c : ClosureParts) (g : Graph) (lives : ℕ → Bool) (i : ℕ) (marks : List (Option ℕ)) : Type 0 where
  pub strong : (all : Bool) (f g' : ℕ) → part_of c i ≡ Until all false f g' → AreMarks c g lives (target_with all i f g') marks
  pub other : ((all : Bool) (f g' : ℕ) → part_of c i ≡ Until all false f g' → ⊥) → marks ≡ []

-- the marks of each member, as lists
abbrev pub lists_of : List (Vec (Option ℕ)) → List (List (Option ℕ))
lists_of table = map (λ (marks : Vec (Option ℕ)). marks.items) table

abbrev pub marks_at : List (List (Option ℕ)) → ℕ → List (Option ℕ)
marks_at table u = slice_index_or table u []

-- a table of marks as ranks
abbrev pub ranks_of : List (List (Option ℕ)) → ℕ → ℕ → Option ℕ
ranks_of table n u = mark_at (marks_at table u) n

-- the marks of the first members
pub record AreTable (c : ClosureParts) (g : Graph) (lives : ℕ → Bool) (k : ℕ) (table : List (List (Option ℕ))) : Type 0 where
  pub long : length table ≡ k
  pub each : (u : ℕ) → u < k → AreMarksOf c g lives u (marks_at table u)

-- a node that stays: it lives, its successors do, and its strong untils have marks
pub record IsLeft (c : ClosureParts) (g : Graph) (lives : ℕ → Bool) (table : List (List (Option ℕ))) (n : ℕ) : Type 0 where
  pub living : lives n ≡ true
  pub successors : (i h : ℕ) (side : Side) → IsSomeNext c g n i side h → LivesOr g lives (g.next_or n i)
  pub marked : (u : Target) → IsStrong c g n u → (r : ℕ) × (ranks_of table n u.member ≡ Some r)

-- what is left of the first nodes, and that what is gone was gone before or is not supported
pub record AreLeft (c : ClosureParts) (g : Graph) (lives : ℕ → Bool) (table : List (List (Option ℕ))) (k : ℕ) (left : List Bool) : Type 0 where
  pub long : length left ≡ k
  pub stays : (n : ℕ) → n < k → lives_of left n ≡ true → IsLeft c g lives table n
  pub gone : (n : ℕ) → n < k → lives_of left n ≡ false → (lives n ≡ false) ⊎ (IsSupported c g lives n → ⊥)

-- how many nodes live
abbrev pub living_count : List Bool → ℕ
living_count lives = count_by (λ (living : Bool). living) lives
