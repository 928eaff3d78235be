-- The parts of lists, by their numbers.
use Rattle.std.specs.Prelude.{ℕ, List, [], false, slice_index_or}
use Rattle.pair_structure.specs.declared.side.LocalArc.{LocalArc}
use Rattle.pair_structure.specs.declared.side.Move.{Move}
use Rattle.pair_structure.specs.declared.side.Side.TheVariants.{A}
use Rattle.pair_structure.specs.Role.{RoleParts}

-- names, in the order of their numbers
abbrev pub Names : Type 0
Names = List (List ℕ)

-- a name of a list by its number; past the end the empty one
abbrev pub name_at : Names → ℕ → List ℕ
name_at names n = slice_index_or names n []

-- a role of a list by its number; past the end one with nothing
abbrev pub role_at : List RoleParts → ℕ → RoleParts
role_at roles n = slice_index_or roles n (record { name = []; locals = []; starts = []; arcs = [] })

-- an arc of a list by its number; past the end one that joins nothing
abbrev pub arc_at : List LocalArc → ℕ → LocalArc
arc_at arcs n = slice_index_or arcs n (record { from = 0; to = 0; free = false })

-- a move of a list by its number; past the end one of no matter
abbrev pub move_at : List Move → ℕ → Move
move_at moves n = slice_index_or moves n (record { from = 0; side = A; to = 0 })
