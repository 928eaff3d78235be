-- The moves that a next-time speaks of.
use Rattle.std.specs.Prelude.{ℕ, ◌≡◌, ◌<◌, Option, Some, None, Bool, List}
use Rattle.pair_structure.specs.declared.side.Side.{Side}
use Rattle.pair_structure.specs.declared.side.Move.{Move}
use Rattle.pair_structure.specs.StructureFault.{move_at}
use Rattle.ctl_form.specs.Row.{IsAt}

-- a move by this side is one that is spoken of
abbrev pub IsOf : Option Side → Side → Type 0
IsOf (Some side) by = by ≡ side
IsOf None by = Unit {0}

-- of the first n moves, one that is spoken of leads from s to where p is true
abbrev pub SomeLeads : List Move → Option Side → List Bool → ℕ → ℕ → Type 0
SomeLeads moves side p n s = (j : ℕ) × (j < n) × ((move_at moves j).from ≡ s) × IsOf side (move_at moves j).side × IsAt p (move_at moves j).to
