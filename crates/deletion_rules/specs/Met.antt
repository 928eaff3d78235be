-- Which nodes a state of a structure meets.
use Rattle.std.specs.Prelude.{ℕ, suc, ◌≡◌, ◌<◌, Bool, true, false, Some, length, slice_get}
use Rattle.pair_structure.specs.Role.{RoleParts}
use Rattle.pair_structure.specs.Structure.{Structure, HasMove, IsOver}
use Rattle.pair_structure.specs.declared.side.Side.{Side}
use Rattle.ctl_form.specs.Rounds.{Round}
use Rattle.ctl_form.specs.Truth.{Holds}
use Rattle.ctl_form.specs.declared.part.Part.TheVariants.{Until}
use Rattle.closure_sets.specs.ClosureParts.{ClosureParts}
use Rattle.closure_sets.specs.Cover.{IsChosen, IsMetRow, IsTrueAt}
use Rattle.closure_sets.specs.Label.{part_of, form_of}
use Rattle.tableau_graph.specs.Graph.{Graph}

-- the until over f and g as far as k moves show it, by the truth of members
abbrev pub RoundOf : Structure → ClosureParts → Bool → ℕ → ℕ → ℕ → ℕ → Type 0
RoundOf m c all f g k s = Round m all false (Holds m (form_of c f)) (Holds m (form_of c g)) k s

-- the chosen side of a strong E until lies on a shortest way
abbrev pub IsShortest : Structure → ClosureParts → ℕ → (ℕ → Side) → Type 0
IsShortest m c s chosen = (i f g : ℕ) → part_of c i ≡ Until false false f g → (k : ℕ) → (IsTrueAt m c s g → ⊥) → RoundOf m c false f g (suc k) s → (t : ℕ) × HasMove m (chosen i) s t × RoundOf m c false f g k t

-- the state s meets the node n
pub record Meets (m : Structure) (c : ClosureParts) (g : Graph) (s n : ℕ) : Type 0 where
  pub node : n < g.ands
  pub label : slice_get m.states s ≡ Some (g.label n)
  pub chosen : ℕ → Side
  pub lawful : IsChosen m c s chosen
  pub shortest : IsShortest m c s chosen
  pub met : IsMetRow c chosen (IsTrueAt m c s) (g.row n)

-- each node that is met by a state of a structure over the roles lives
abbrev pub MetLive : RoleParts → RoleParts → ClosureParts → Graph → (ℕ → Bool) → Type 0
MetLive a b c g lives = (m : Structure) → IsOver a b m → (s n : ℕ) → s < length m.states → Meets m c g s n → lives n ≡ true
