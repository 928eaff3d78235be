-- Why some parts are no network, and which of the faults is the first.
use Rattle.std.specs.Prelude.{ℕ, ◌≡◌, ◌<◌, ◌≤◌, ◌⊎◌, List, length}
use Rattle.pair_structure.specs.First.{IsFirst}
use Rattle.pair_structure.specs.Role.{RoleParts}
use Rattle.interconnection.specs.declared.fault.NetworkFault.{NetworkFault}
use Rattle.interconnection.specs.declared.fault.NetworkFault.TheVariants.{TooMany, EndRange, ProcessRole, ProcessStart, EdgeRange, SelfEdge, EdgeTwice, RoleMismatch, DegreeOver, Memory}
use Rattle.interconnection.specs.declared.limits.TheConstants.{MAX_KINDS, MAX_NEIGHBOURS, MAX_PROCESSES, MAX_ROLES}
use Rattle.interconnection.specs.declared.parts.Edge.{Edge}
use Rattle.interconnection.specs.declared.parts.Process.{Process}
use Rattle.interconnection.specs.Graph.{JoinSame, degree_of, edge_at}
use Rattle.interconnection.specs.Network.{AreRoles, BeginsInStart, HasRoles, IsInRange, ends_of, process_at, role_of}

-- some part has more than its limit, and this is the limit
abbrev pub IsPassed : ℕ → ℕ → ℕ → ℕ → Type 0
IsPassed roles kinds processes limit = ((limit ≡ MAX_ROLES) × (MAX_ROLES < roles)) ⊎ ((limit ≡ MAX_KINDS) × (MAX_KINDS < kinds)) ⊎ ((limit ≡ MAX_PROCESSES) × (MAX_PROCESSES < processes))

-- an edge before this one joins the same two processes
abbrev pub HasEarlier : List Edge → ℕ → Type 0
HasEarlier edges edge = (earlier : ℕ) × (earlier < edge) × JoinSame (edge_at edges earlier) (edge_at edges edge)

-- the fault stands against these parts, at this place
abbrev pub Stands : List RoleParts → List (ℕ × ℕ) → List Process → List Edge → NetworkFault → Type 0
Stands roles ends processes edges (TooMany limit) = IsPassed (length roles) (length ends) (length processes) limit
Stands roles ends processes edges (EndRange kind) = (kind < length ends) × (AreRoles roles (ends_of ends kind) → ⊥)
Stands roles ends processes edges (ProcessRole process) = (process < length processes) × (length roles ≤ role_of processes process)
Stands roles ends processes edges (ProcessStart process) = (process < length processes) × (BeginsInStart roles (process_at processes process) → ⊥)
Stands roles ends processes edges (EdgeRange edge) = (edge < length edges) × (IsInRange ends processes (edge_at edges edge) → ⊥)
Stands roles ends processes edges (SelfEdge edge) = (edge < length edges) × ((edge_at edges edge).a ≡ (edge_at edges edge).b)
Stands roles ends processes edges (EdgeTwice edge) = (edge < length edges) × HasEarlier edges edge
Stands roles ends processes edges (RoleMismatch edge) = (edge < length edges) × (HasRoles ends processes (edge_at edges edge) → ⊥)
Stands roles ends processes edges (DegreeOver process) = (process < length processes) × (MAX_NEIGHBOURS < degree_of edges process)
Stands roles ends processes edges Memory = ⊥

-- the order of the kinds
abbrev pub kind_of : NetworkFault → ℕ
kind_of (TooMany limit) = 1
kind_of (EndRange kind) = 2
kind_of (ProcessRole process) = 3
kind_of (ProcessStart process) = 4
kind_of (EdgeRange edge) = 5
kind_of (SelfEdge edge) = 6
kind_of (EdgeTwice edge) = 7
kind_of (RoleMismatch edge) = 8
kind_of (DegreeOver process) = 9
kind_of Memory = 10

-- of one kind the lowest number is the first
abbrev pub place_of : NetworkFault → ℕ
place_of (TooMany limit) = limit
place_of (EndRange kind) = kind
place_of (ProcessRole process) = process
place_of (ProcessStart process) = process
place_of (EdgeRange edge) = edge
place_of (SelfEdge edge) = edge
place_of (EdgeTwice edge) = edge
place_of (RoleMismatch edge) = edge
place_of (DegreeOver process) = process
place_of Memory = 0

abbrev pub IsFirstNetworkFault : List RoleParts → List (ℕ × ℕ) → List Process → List Edge → NetworkFault → Type 0
IsFirstNetworkFault roles ends processes edges = IsFirst kind_of place_of (Stands roles ends processes edges)
