-- The moves of a side from a state, by a number that rises with the moves.
use Rattle.std.specs.Prelude.{ℕ, ◌+◌, ◌*◌}
use Rattle.pair_structure.specs.declared.side.Side.{Side}
use Rattle.pair_structure.specs.Structure.{side_number}

-- lower states first, and at one state a before b
abbrev pub turn : ℕ → Side → ℕ
turn state side = 2 * state + side_number side
