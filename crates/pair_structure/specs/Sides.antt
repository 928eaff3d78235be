-- The two sides, and what belongs to each: of a label, and of the two roles.
use Rattle.std.specs.Prelude.{ℕ, List}
use Rattle.pair_structure.specs.declared.side.LocalArc.{LocalArc}
use Rattle.pair_structure.specs.declared.side.Side.{Side}
use Rattle.pair_structure.specs.declared.side.Side.TheVariants.{A, B}
use Rattle.pair_structure.specs.Role.{RoleParts}

abbrev pub opposite : Side → Side
opposite A = B
opposite B = A

-- the local state of this side
abbrev pub local_of : Side → ℕ × ℕ → ℕ
local_of A label = label.0
local_of B label = label.1

-- the label with this local state of that side
abbrev pub with_local : Side → ℕ × ℕ → ℕ → ℕ × ℕ
with_local A label p = (p, label.1)
with_local B label p = (label.0, p)

-- the role of this side
abbrev pub role_of : Side → RoleParts → RoleParts → RoleParts
role_of A a b = a
role_of B a b = b

-- the arcs of this side
abbrev pub arcs_of : Side → RoleParts → RoleParts → List LocalArc
arcs_of A a b = a.arcs
arcs_of B a b = b.arcs
