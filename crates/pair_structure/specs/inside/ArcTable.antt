-- Which local states arcs join, as rows of marks.
use Rattle.std.specs.Prelude.{ℕ, ◌<◌, ◌↔◌, Bool, false, IsTrue, List, [], slice_index_or}
use Rattle.pair_structure.specs.declared.limits.TheConstants.{MAX_LOCALS}
use Rattle.pair_structure.specs.declared.side.LocalArc.{LocalArc}
use Rattle.pair_structure.specs.Role.{HasArc}

-- the mark in row p at q; outside the rows there is none
abbrev pub is_marked : List (List Bool) → ℕ → ℕ → Bool
is_marked rows p q = slice_index_or (slice_index_or rows p []) q false

-- both ends of the arc have a row
abbrev pub IsInTable : LocalArc → Type 0
IsInTable arc = (arc.from < MAX_LOCALS) × (arc.to < MAX_LOCALS)

-- the marks are the arcs
abbrev pub IsTableOf : List (List Bool) → List LocalArc → Type 0
IsTableOf rows arcs = (p q : ℕ) → IsTrue (is_marked rows p q) ↔ HasArc arcs p q
