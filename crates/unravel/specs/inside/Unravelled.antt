-- What one tableau tells.
use Rattle.std.specs.Prelude.{Option, Some, None}
use Rattle.pair_structure.specs.Structure.{Structure}
use Rattle.tableau_graph.specs.TableauParts.{TableauParts, IsWhole}
use Rattle.deletion_rules.specs.Pruned.{IsUnsatisfiable}
use Rattle.deletion_rules.specs.Satisfying.{Satisfies}

-- a structure that satisfies the conjuncts; or none, where of a whole tableau nothing is left
abbrev pub IsUnravelledOf : TableauParts → Option Structure → Type 0
IsUnravelledOf t (Some m) = Satisfies t.a t.b t.closure m
IsUnravelledOf t None = IsWhole t → IsUnsatisfiable t
