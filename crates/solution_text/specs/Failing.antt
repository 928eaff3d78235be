-- Which kind of a specification a solution fails first.
use Rattle.std.specs.Prelude.{ℕ, ◌<◌, List, [], length, slice_index_or}
use Rattle.pair_structure.specs.Role.{RoleParts}
use Rattle.pair_structure.specs.Structure.{Structure}
use Rattle.ctl_form.specs.declared.pair_spec.PairSpec.{PairSpec}
use Rattle.ctl_form.specs.Kind.{SatisfiesKind}
use Rattle.ctl_text.specs.Value.{kind_at}

-- a structure of a list by its number; past the end one without states
abbrev pub structure_at : List Structure → ℕ → Structure
structure_at structures n = slice_index_or structures n (record { states = []; moves = [] })

-- the kind's structure does not satisfy it, and that of each kind before it does
pub record IsFirstFailing (roles : List RoleParts) (kinds : List PairSpec) (structures : List Structure) (kind : ℕ) : Type 0 where
  pub within : kind < length kinds
  pub fails : SatisfiesKind roles (kind_at kinds kind) (structure_at structures kind) → ⊥
  pub before : (earlier : ℕ) → earlier < kind → SatisfiesKind roles (kind_at kinds earlier) (structure_at structures earlier)
