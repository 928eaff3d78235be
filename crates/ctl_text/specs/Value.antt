-- What a specification says, as a value.
use Rattle.std.specs.Prelude.{ℕ, Option, Some, None, List, [], map, position, slice_index_or}
use Rattle.std.specs.Option.{unwrap_or}
use Rattle.std.specs.Str.{bytes_eq}
use Rattle.pair_structure.specs.Parts.{role_at}
use Rattle.pair_structure.specs.Role.{RoleParts, first_start}
use Rattle.ctl_form.specs.declared.pair_spec.PairSpec.{PairSpec}
use Rattle.formula_text.specs.Sets.{SetParts, Atoms}
use Rattle.ctl_text.specs.declared.format.Format.{Format}
use Rattle.interconnection.specs.declared.parts.Process.{Process}
use Rattle.interconnection.specs.declared.parts.Edge.{Edge}
pub use Rattle.interconnection.specs.Graph.{AreJoined}
use Rattle.interconnection.specs.Network.{NetworkParts}
pub use Rattle.interconnection.specs.Network.{process_at}

-- roles, kinds of pairs, processes and edges, each numbered by its place
pub record SpecParts : Type 0 where
  pub roles : List RoleParts
  pub kinds : List PairSpec
  pub processes : List Process
  pub edges : List Edge

-- what is declared above a line: the format of the text, and the parts of a specification, with the sets of each role
pub record Declared : Type 0 where
  pub format : Format
  pub roles : List RoleParts
  pub sets : List (List SetParts)
  pub kinds : List PairSpec
  pub processes : List Process
  pub edges : List Edge

-- the specification that is declared: sets are names alone, and not of it
abbrev pub spec_of : Declared → SpecParts
spec_of v = record { roles = v.roles; kinds = v.kinds; processes = v.processes; edges = v.edges }

-- the sets of a role by its number, and none past the end
abbrev pub sets_at : List (List SetParts) → ℕ → List SetParts
sets_at sets n = slice_index_or sets n []

-- what atoms of a side with this role may name
abbrev pub atoms_at : Declared → ℕ → Atoms
atoms_at v n = record { locals = (role_at v.roles n).locals; sets = sets_at v.sets n }

abbrev pub set_names : List SetParts → List (List ℕ)
set_names = map (λ s. s.name)

abbrev pub role_names : List RoleParts → List (List ℕ)
role_names = map (λ r. r.name)

abbrev pub kind_names : List PairSpec → List (List ℕ)
kind_names = map (λ k. k.name)

-- the numbers of the two roles of each kind
abbrev pub kind_ends : List PairSpec → List (ℕ × ℕ)
kind_ends = map (λ k. (k.role_a, k.role_b))

-- the network of a specification: kind k of it has the two roles of kind k
abbrev pub network_of : SpecParts → NetworkParts
network_of v = record { roles = v.roles; ends = kind_ends v.kinds; processes = v.processes; edges = v.edges }

abbrev pub process_names : List Process → List (List ℕ)
process_names = map (λ p. p.name)

-- the number of a name among these, and 0 where there is none
abbrev pub number_in : List (List ℕ) → List ℕ → ℕ
number_in names name = unwrap_or (position (λ x. bytes_eq x name) names) 0

-- the role of this name, and that of number 0 where there is none
abbrev pub role_named : List RoleParts → List ℕ → RoleParts
role_named roles name = role_at roles (number_in (role_names roles) name)

-- the local state where a process of the role begins: that of this name, or else the role's first start
abbrev pub start_named : RoleParts → Option (List ℕ) → ℕ
start_named r None = first_start r
start_named r (Some name) = number_in r.locals name

-- a kind by its number; past the end one over role 0
abbrev pub kind_at : List PairSpec → ℕ → PairSpec
kind_at kinds n = slice_index_or kinds n (record { name = []; role_a = 0; role_b = 0; clauses = [] })
