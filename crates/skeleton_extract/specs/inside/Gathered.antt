-- How commands are gathered: move by move, each put into the list of its arc.
use Rattle.std.specs.Prelude.{ℕ, ◌≡◌, ◌<◌, ◌↔◌, ◌==◌, ◌&&◌, Bool, List, length, All, Contains, filter, map}
use Rattle.pair_structure.specs.declared.side.LocalArc.{LocalArc}
use Rattle.pair_structure.specs.declared.side.Move.{Move}
use Rattle.pair_structure.specs.declared.side.Side.{Side}
use Rattle.pair_structure.specs.Ordinal.{is_same_side, ordinal_of}
use Rattle.pair_structure.specs.Role.{HasArc}
use Rattle.pair_structure.specs.Parts.{arc_at}
use Rattle.pair_structure.specs.Structure.{Structure, label_at}
use Rattle.skeleton_extract.specs.declared.command.Command.{Command}
use Rattle.skeleton_extract.specs.inside.ArcNumbers.{number_at}
use Rattle.pair_structure.specs.Lists.{list_at}
use Rattle.skeleton_extract.specs.Commands.{IsRising}
use Rattle.pair_structure.specs.Sides.{opposite, local_of}

-- the local states of its own side that a move leaves and reaches
abbrev pub leaves_at : List (ℕ × ℕ) → Move → ℕ
leaves_at states move = local_of move.side (label_at states move.from)

abbrev pub comes_to : List (ℕ × ℕ) → Move → ℕ
comes_to states move = local_of move.side (label_at states move.to)

abbrev pub number_of : List (ℕ × ℕ) → List (List ℕ) → Move → ℕ
number_of states rows move = number_at rows (leaves_at states move) (comes_to states move)

abbrev pub command_of : List (ℕ × ℕ) → Move → Command
command_of states move = record { other = local_of (opposite move.side) (label_at states move.from); x = ordinal_of states move.from; set = ordinal_of states move.to }

-- the move is one of this side, on this arc
abbrev pub takes : List (ℕ × ℕ) → Side → LocalArc → Move → Bool
takes states side arc move = is_same_side move.side side && ((leaves_at states move == arc.from) && (comes_to states move == arc.to))

-- the commands of the moves on an arc, in the order of the moves
abbrev pub given_on : List (ℕ × ℕ) → Side → LocalArc → List Move → List Command
given_on states side arc moves = map (command_of states) (filter (takes states side arc) moves)

-- a list for each arc, with the commands that the moves give
pub record AreGathered (states : List (ℕ × ℕ)) (moves : List Move) (side : Side) (arcs : List LocalArc) (lists : List (List Command)) : Type 0 where
  pub count : length lists ≡ length arcs
  pub each : (arc : ℕ) → arc < length arcs → list_at lists arc ≡ given_on states side (arc_at arcs arc) moves

-- the first n lists are put in order, and none has gained or lost a command
pub record AreArranged (n : ℕ) (old lists : List (List Command)) : Type 0 where
  pub size : length lists ≡ length old
  pub rising : (arc : ℕ) → arc < n → IsRising (list_at lists arc)
  pub same : (arc : ℕ) (c : Command) → Contains (list_at lists arc) c ↔ Contains (list_at old arc) c

-- the move joins two states, by one of these arcs
pub record FollowsArc (states : List (ℕ × ℕ)) (arcs : List LocalArc) (move : Move) : Type 0 where
  pub from : move.from < length states
  pub to : move.to < length states
  pub arc : HasArc arcs (leaves_at states move) (comes_to states move)

-- the moves of this side follow its arcs
abbrev pub AreFollowed : Structure → Side → List LocalArc → Type 0
AreFollowed m side arcs = All (λ (move : Move). move.side ≡ side → FollowsArc m.states arcs move) m.moves
