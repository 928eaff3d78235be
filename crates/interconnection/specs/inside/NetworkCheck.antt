-- What is checked of the parts of a network, one after another, in the order of the faults.
use Rattle.std.specs.Prelude.{ℕ, ◌<◌, ◌≤◌, List, length}
use Rattle.pair_structure.specs.Role.{RoleParts}
use Rattle.interconnection.specs.declared.fault.NetworkFault.{NetworkFault}
use Rattle.interconnection.specs.declared.fault.NetworkFault.TheVariants.{EdgeTwice, Memory}
use Rattle.interconnection.specs.declared.limits.TheConstants.{MAX_KINDS, MAX_NEIGHBOURS, MAX_PROCESSES, MAX_ROLES}
use Rattle.interconnection.specs.declared.parts.Edge.{Edge}
use Rattle.interconnection.specs.declared.parts.Process.{Process}
use Rattle.interconnection.specs.Graph.{degree_of, edge_at}
use Rattle.interconnection.specs.Network.{AreRoles, BeginsInStart, HasRoles, IsInRange, JoinsTwo, ends_of, process_at, role_of}
use Rattle.interconnection.specs.NetworkFault.{HasEarlier, IsPassed}

-- so many roles, kinds and processes are within their limits
pub record AreFew (role_count kind_count process_count : ℕ) : Type 0 where
  pub roles : role_count ≤ MAX_ROLES
  pub kinds : kind_count ≤ MAX_KINDS
  pub processes : process_count ≤ MAX_PROCESSES

-- this is the lowest limit that is passed
pub record IsFirstPassed (roles kinds processes limit : ℕ) : Type 0 where
  pub passed : IsPassed roles kinds processes limit
  pub first : (lower : ℕ) → lower < limit → IsPassed roles kinds processes lower → ⊥

-- what is checked of roles, kinds and processes
pub record AreParts (roles : List RoleParts) (ends : List (ℕ × ℕ)) (processes : List Process) : Type 0 where
  pub few : AreFew (length roles) (length ends) (length processes)
  pub kinds : (kind : ℕ) → kind < length ends → AreRoles roles (ends_of ends kind)
  pub own_roles : (k : ℕ) → k < length processes → role_of processes k < length roles
  pub own_starts : (k : ℕ) → k < length processes → BeginsInStart roles (process_at processes k)

-- what is checked of each edge alone, before the processes of any two are compared
pub record AreEdges (ends : List (ℕ × ℕ)) (processes : List Process) (edges : List Edge) : Type 0 where
  pub in_range : (e : ℕ) → e < length edges → IsInRange ends processes (edge_at edges e)
  pub joins_two : (e : ℕ) → e < length edges → JoinsTwo (edge_at edges e)

-- no edge joins the processes of an earlier one
abbrev pub AreSingle : List Edge → Type 0
AreSingle edges = (e : ℕ) → e < length edges → HasEarlier edges e → ⊥

-- this edge is the first that joins the processes of an earlier one
pub record IsFirstTwice (edges : List Edge) (e : ℕ) : Type 0 where
  pub within : e < length edges
  pub twice : HasEarlier edges e
  pub first : (k : ℕ) → k < e → HasEarlier edges k → ⊥

-- what is checked last: the roles of each edge's processes, and how many neighbours each process has
pub record AreFitting (ends : List (ℕ × ℕ)) (processes : List Process) (edges : List Edge) : Type 0 where
  pub matching : (e : ℕ) → e < length edges → HasRoles ends processes (edge_at edges e)
  pub degrees : (k : ℕ) → k < length processes → degree_of edges k ≤ MAX_NEIGHBOURS

-- why no lists of neighbours came of the edges: one is the first that joins the processes of an earlier one, or memory ran out
abbrev pub IsFailedAdjacency : List Edge → NetworkFault → Type 0
IsFailedAdjacency edges (EdgeTwice edge) = IsFirstTwice edges edge
IsFailedAdjacency edges Memory = Unit {0}
IsFailedAdjacency edges _ = ⊥
