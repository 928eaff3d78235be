-- What a firing does to the pair of one edge: it is decided by the wish and the state of this pair alone.
use Rattle.std.specs.Prelude.{ℕ, ◌≡◌, ◌<◌, List, length}
use Rattle.pair_structure.specs.Ordinal.{ordinal_of}
use Rattle.pair_structure.specs.Sides.{local_of, opposite}
use Rattle.pair_structure.specs.Structure.{label_at}
use Rattle.skeleton_extract.specs.declared.command.Command.{Command}
use Rattle.skeleton_extract.specs.Commands.{commands_of}
use Rattle.skeleton_extract.specs.Permission.{permitted_of}
use Rattle.interconnection.specs.declared.parts.Beside.{Beside}
use Rattle.conjunctive_compose.specs.declared.wish.Wish.{Wish}
use Rattle.conjunctive_compose.specs.System.{SystemParts, lists_at, structure_at}
use Rattle.conjunctive_compose.specs.Whole.{WholeParts, HasPair, IsProper}
use Rattle.conjunctive_compose.specs.Firing.{Moves, Permits, arc_of, fired}

-- s is a state of the edge's structure, in which the wish's process is where its arc begins
pub record IsLeft (sys : SystemParts) (wish : Wish) (b : Beside) (s : ℕ) : Type 0 where
  pub within : s < length (structure_at sys b.edge).states
  pub leaves : local_of b.side (label_at (structure_at sys b.edge).states s) ≡ (arc_of sys wish.process wish.arc).from

-- in no whole state in which the edge's pair has state s does the neighbour permit the arc
abbrev pub NeverPermits : SystemParts → Wish → Beside → ℕ → Type 0
NeverPermits sys wish b s = (w : WholeParts) → HasPair sys w b.edge s → Permits sys w b.side wish.arc b.edge → ⊥

-- in each whole state in which it has state s the neighbour permits the arc, and a firing there takes the pair to state t
pub record IsNextPair (sys : SystemParts) (wish : Wish) (b : Beside) (s t : ℕ) : Type 0 where
  pub within : t < length (structure_at sys b.edge).states
  pub permits : (w : WholeParts) → HasPair sys w b.edge s → Permits sys w b.side wish.arc b.edge
  pub goes : (w : WholeParts) → IsProper sys w → HasPair sys w b.edge s → Moves sys w wish → HasPair sys (fired sys w wish) b.edge t

-- the commands of the arc that name what state s shows: the neighbour's local state, and the ordinal of s
abbrev pub permitted_at : SystemParts → Wish → Beside → ℕ → List Command
permitted_at sys wish b s = permitted_of (commands_of (lists_at sys b.edge) b.side wish.arc) (local_of (opposite b.side) (label_at (structure_at sys b.edge).states s)) (ordinal_of (structure_at sys b.edge).states s)
