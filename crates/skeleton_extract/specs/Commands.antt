-- What the moves of a structure command.
use Rattle.std.specs.Prelude.{ℕ, ◌≡◌, ◌<◌, ◌⊎◌, ◌↔◌, List, length, AllPairs, Contains}
use Rattle.pair_structure.specs.declared.side.LocalArc.{LocalArc}
use Rattle.pair_structure.specs.declared.side.Side.{Side}
use Rattle.pair_structure.specs.declared.side.Side.TheVariants.{A, B}
use Rattle.pair_structure.specs.Ordinal.{ordinal_of}
use Rattle.pair_structure.specs.Role.{RoleParts}
use Rattle.pair_structure.specs.Parts.{arc_at}
use Rattle.pair_structure.specs.Structure.{Structure, HasMove, label_at}
use Rattle.skeleton_extract.specs.declared.command.Command.{Command}
use Rattle.pair_structure.specs.Lists.{list_at}
use Rattle.pair_structure.specs.Sides.{arcs_of, local_of, opposite}

-- the move of this side from s to t is on this arc, and gives this command
pub record IsCommandOfMove (m : Structure) (side : Side) (arc : LocalArc) (c : Command) (s t : ℕ) : Type 0 where
  pub move : HasMove m side s t
  pub from : local_of side (label_at m.states s) ≡ arc.from
  pub to : local_of side (label_at m.states t) ≡ arc.to
  pub other : local_of (opposite side) (label_at m.states s) ≡ c.other
  pub x : ordinal_of m.states s ≡ c.x
  pub set : ordinal_of m.states t ≡ c.set

-- some move gives it
abbrev pub IsCommand : Structure → Side → LocalArc → Command → Type 0
IsCommand m side arc c = (s t : ℕ) × IsCommandOfMove m side arc c s t

-- by other, then x, then set
abbrev pub IsBelow : Command → Command → Type 0
IsBelow c d = (c.other < d.other) ⊎ ((c.other ≡ d.other) × ((c.x < d.x) ⊎ ((c.x ≡ d.x) × (c.set < d.set))))

-- each command is below each later one, so that none stands twice
abbrev pub IsRising : List Command → Type 0
IsRising commands = AllPairs IsBelow commands

-- for each side and each arc of that side a list of commands
pub record Lists : Type 0 where
  pub a : List (List Command)
  pub b : List (List Command)

abbrev pub lists_of : Lists → Side → List (List Command)
lists_of lists A = lists.a
lists_of lists B = lists.b

abbrev pub commands_of : Lists → Side → ℕ → List Command
commands_of lists side arc = list_at (lists_of lists side) arc

-- each of the lists rises
abbrev pub AllRise : List (List Command) → Type 0
AllRise lists = (arc : ℕ) → arc < length lists → IsRising (list_at lists arc)

-- the list has exactly the commands of the moves on this arc, rising
pub record IsListed (m : Structure) (side : Side) (arc : LocalArc) (commands : List Command) : Type 0 where
  pub rising : IsRising commands
  pub exact : (c : Command) → Contains commands c ↔ IsCommand m side arc c

-- a list for each of the arcs, and no more
pub record AreListed (m : Structure) (side : Side) (arcs : List LocalArc) (lists : List (List Command)) : Type 0 where
  pub count : length lists ≡ length arcs
  pub each : (arc : ℕ) → arc < length arcs → IsListed m side (arc_at arcs arc) (list_at lists arc)

-- a list of commands for each arc of the two roles, and no more
pub record HasLists (a b : RoleParts) (lists : Lists) : Type 0 where
  pub count : (side : Side) → length (lists_of lists side) ≡ length (arcs_of side a b)

-- the commands of a structure over the two roles
pub record IsSkeleton (a b : RoleParts) (m : Structure) (lists : Lists) : Type 0 where
  pub has_lists : HasLists a b lists
  pub listed : (side : Side) (arc : ℕ) → arc < length (arcs_of side a b) → IsListed m side (arc_at (arcs_of side a b) arc) (commands_of lists side arc)
