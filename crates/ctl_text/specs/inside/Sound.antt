-- What stands above a line and an open group keep, as long as each line is taken.
use Rattle.std.specs.Prelude.{ℕ, ◌≡◌, ◌≢◌, ◌<◌, ◌≤◌, ◌+◌, List, length, All, AllPairs}
use Rattle.pair_structure.specs.declared.limits.TheConstants.{MAX_ARCS, MAX_LOCALS}
use Rattle.interconnection.specs.declared.limits.TheConstants.{MAX_KINDS, MAX_ROLES}
use Rattle.pair_structure.specs.declared.side.LocalArc.{LocalArc}
use Rattle.pair_structure.specs.Role.{JoinsTwo, RoleParts}
use Rattle.interconnection.specs.Graph.{degree_of}
use Rattle.interconnection.specs.Network.{AreLawful}
use Rattle.ctl_text.specs.Format.{most_processes, most_neighbours}
use Rattle.ctl_text.specs.Value.{kind_ends}
use Rattle.ctl_text.specs.State.{OpenParts, State, Group, in_role, in_kind}

pub record AreLocals (names : List (List ℕ)) : Type 0 where
  pub few_locals : length names ≤ MAX_LOCALS
  pub names_differ : AllPairs (λ x y. x ≢ y) names

pub record AreStarts (count : ℕ) (starts : List ℕ) : Type 0 where
  pub within : All (λ start. start < count) starts
  pub starts_differ : AllPairs (λ x y. x ≢ y) starts

pub record AreArcs (count : ℕ) (made : List LocalArc) : Type 0 where
  pub few_arcs : length made ≤ MAX_ARCS
  pub joins : All (JoinsTwo count) made
  pub ends_differ : AllPairs (λ (x y : LocalArc). x.from ≡ y.from → x.to ≡ y.to → ⊥) made

-- all that makes a role, but for a start and an arc that leaves each local state
pub record IsSoundRole (r : OpenParts) : Type 0 where
  pub locals : AreLocals r.locals
  pub starts : AreStarts (length r.locals) r.starts
  pub arcs : AreArcs (length r.locals) r.arcs

abbrev pub IsSound : Group → Type 0
IsSound (in_role r) = IsSoundRole r
IsSound group = Unit {0}

-- how many roles, and how many kinds, are open
abbrev pub open_roles : Group → ℕ
open_roles (in_role r) = 1
open_roles group = 0

abbrev pub open_kinds : Group → ℕ
open_kinds (in_kind k) = 1
open_kinds group = 0

-- the roles of an open kind are declared
abbrev pub HasItsRoles : List RoleParts → Group → Type 0
HasItsRoles roles (in_kind k) = (k.role_a < length roles) × (k.role_b < length roles)
HasItsRoles roles group = Unit {0}

abbrev pub HasStart : RoleParts → Type 0
HasStart r = 0 < length r.starts

pub record IsSoundState (s : State) : Type 0 where
  pub few_roles : length s.parts.roles + open_roles s.group ≤ MAX_ROLES
  pub starts : All HasStart s.parts.roles
  pub few_kinds : length s.parts.kinds + open_kinds s.group ≤ MAX_KINDS
  pub few_processes : length s.parts.processes ≤ most_processes s.parts.format
  pub group : IsSound s.group
  pub kind_roles : HasItsRoles s.parts.roles s.group
  pub network : AreLawful s.parts.roles (kind_ends s.parts.kinds) s.parts.processes s.parts.edges
  pub few_edges : (k : ℕ) → degree_of s.parts.edges k ≤ most_neighbours s.parts.format
