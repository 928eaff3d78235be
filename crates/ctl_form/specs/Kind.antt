-- What a kind of pairs asks of a structure, and a specification of a solution.
use Rattle.std.specs.Prelude.{ℕ, ◌<◌, true, false, Some, List, [], ◌∷◌, ◌++◌, map, filter, All}
use Rattle.pair_structure.specs.declared.side.Side.{Side}
use Rattle.pair_structure.specs.declared.side.Side.TheVariants.{A, B}
use Rattle.pair_structure.specs.declared.side.LocalArc.{LocalArc}
pub use Rattle.pair_structure.specs.Parts.{role_at}
use Rattle.pair_structure.specs.Role.{RoleParts}
use Rattle.pair_structure.specs.Structure.{Structure, IsOver, start_count}
use Rattle.ctl_form.specs.declared.pair_spec.PairSpec.{PairSpec}
use Rattle.ctl_form.specs.Form.{Form, at, implies, next, always}
use Rattle.ctl_form.specs.Truth.{Holds}

-- a free arc: wherever the side is at the arc's beginning, some move takes the arc
abbrev pub free_form : Side → LocalArc → Form
free_form side arc = always true (implies (at side arc.from) (next false (Some side) (at side arc.to)))

abbrev pub free_forms : Side → List LocalArc → List Form
free_forms side arcs = map (free_form side) (filter (λ (arc : LocalArc). arc.free) arcs)

-- the clauses, then the free arcs of side a, then those of side b
abbrev pub whole_forms : RoleParts → RoleParts → List Form → List Form
whole_forms a b clauses = clauses ++ free_forms A a.arcs ++ free_forms B b.arcs

-- a structure over the roles at each of whose start states all of these hold
pub record Satisfies (a b : RoleParts) (clauses : List Form) (m : Structure) : Type 0 where
  pub over : IsOver a b m
  pub holds : (s : ℕ) → s < start_count a b → All (λ f. Holds m f s) (whole_forms a b clauses)

-- the structure satisfies the kind
abbrev pub SatisfiesKind : List RoleParts → PairSpec → Structure → Type 0
SatisfiesKind roles kind m = Satisfies (role_at roles kind.role_a) (role_at roles kind.role_b) kind.clauses m

-- one structure for each kind, and each satisfies its kind
abbrev pub Solves : List RoleParts → List PairSpec → List Structure → Type 0
Solves roles [] [] = Unit {0}
Solves roles [] (m ∷ structures) = ⊥
Solves roles (kind ∷ kinds) [] = ⊥
Solves roles (kind ∷ kinds) (m ∷ structures) = SatisfiesKind roles kind m × Solves roles kinds structures
