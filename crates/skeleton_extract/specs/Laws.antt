-- The laws of ordinals and commands.
use Rattle.std.specs.Prelude.{ℕ, ◌≡◌, ◌<◌, ◌↔◌, List, length, Contains}
use Rattle.pair_structure.specs.declared.side.LocalArc.{LocalArc}
use Rattle.pair_structure.specs.declared.side.Side.{Side}
use Rattle.pair_structure.specs.Ordinal.{IsStateAt, ordinal_of}
use Rattle.pair_structure.specs.Role.{RoleParts}
use Rattle.pair_structure.specs.Structure.{Structure, HasMove, IsOver, label_at}
use Rattle.skeleton_extract.specs.declared.command.Command.{Command}
use Rattle.skeleton_extract.specs.Commands.{IsCommand, IsListed}
use Rattle.pair_structure.specs.Sides.{opposite, local_of, with_local}

-- no two states have one label and one ordinal
abbrev pub OnePairState : Type 0
OnePairState = (states : List (ℕ × ℕ)) (label : ℕ × ℕ) (x s t : ℕ) → IsStateAt states label x s → IsStateAt states label x t → s ≡ t

-- at the pair state with a command's other local state and its x, on the arc, there is a move to the pair state with its set
abbrev pub CommandMoves : Type 0
CommandMoves = (a b : RoleParts) (m : Structure) (side : Side) (arc : LocalArc) (c : Command) (label : ℕ × ℕ) (s : ℕ) → IsOver a b m → IsCommand m side arc c
    → IsStateAt m.states label c.x s → local_of side label ≡ arc.from → local_of (opposite side) label ≡ c.other → (t : ℕ) × HasMove m side s t × IsStateAt m.states (with_local side label arc.to) c.set t

-- two states whose labels differ by the arc alone
pub record JoinedBy (m : Structure) (side : Side) (arc : LocalArc) (s t : ℕ) : Type 0 where
  pub from_in : s < length m.states
  pub to_in : t < length m.states
  pub from : local_of side (label_at m.states s) ≡ arc.from
  pub to : local_of side (label_at m.states t) ≡ arc.to
  pub stays : local_of (opposite side) (label_at m.states s) ≡ local_of (opposite side) (label_at m.states t)

-- there is a move exactly where the list of its arc has its command
abbrev pub MovesBack : Type 0
MovesBack = (a b : RoleParts) (m : Structure) (side : Side) (arc : LocalArc) (commands : List Command) (s t : ℕ) → IsOver a b m → IsListed m side arc commands → JoinedBy m side arc s t
    → HasMove m side s t ↔ Contains commands (record { other = local_of (opposite side) (label_at m.states s); x = ordinal_of m.states s; set = ordinal_of m.states t })
