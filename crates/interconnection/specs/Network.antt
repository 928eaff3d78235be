-- Networks: roles, kinds of pairs, processes and edges, and what makes them one.
use Rattle.std.specs.Prelude.{ℕ, ◌≡◌, ◌≢◌, ◌<◌, ◌≤◌, List, [], length, All, AllPairs, Contains, slice_index_or}
use Rattle.pair_structure.specs.Parts.{role_at}
use Rattle.pair_structure.specs.Role.{RoleParts}
use Rattle.interconnection.specs.declared.limits.TheConstants.{MAX_KINDS, MAX_NEIGHBOURS, MAX_PROCESSES, MAX_ROLES}
use Rattle.interconnection.specs.declared.parts.Edge.{Edge}
use Rattle.interconnection.specs.declared.parts.Process.{Process}
use Rattle.interconnection.specs.Graph.{JoinSame, degree_of}

-- a network as a value: its roles, the numbers of the two roles of each kind, its processes and its edges
pub record NetworkParts : Type 0 where
  pub roles : List RoleParts
  pub ends : List (ℕ × ℕ)
  pub processes : List Process
  pub edges : List Edge

-- a process of a list by its number; past the end one of no matter
abbrev pub process_at : List Process → ℕ → Process
process_at processes k = slice_index_or processes k (record { name = []; role = 0; start = 0 })

-- the number of a process's role
abbrev pub role_of : List Process → ℕ → ℕ
role_of processes k = (process_at processes k).role

-- the numbers of the two roles of a kind
abbrev pub ends_of : List (ℕ × ℕ) → ℕ → ℕ × ℕ
ends_of ends kind = slice_index_or ends kind (0, 0)

-- both numbers are those of roles
abbrev pub AreRoles : List RoleParts → ℕ × ℕ → Type 0
AreRoles roles pair = (pair.0 < length roles) × (pair.1 < length roles)

abbrev pub HasRole : List RoleParts → Process → Type 0
HasRole roles process = process.role < length roles

-- the process starts in one of its role's starts
abbrev pub BeginsInStart : List RoleParts → Process → Type 0
BeginsInStart roles process = Contains (role_at roles process.role).starts process.start

-- the edge's two processes and its kind are there
abbrev pub IsInRange : List (ℕ × ℕ) → List Process → Edge → Type 0
IsInRange ends processes edge = (edge.a < length processes) × (edge.b < length processes) × (edge.kind < length ends)

abbrev pub JoinsTwo : Edge → Type 0
JoinsTwo edge = edge.a ≢ edge.b

-- the edge's two processes have the roles of its kind
abbrev pub HasRoles : List (ℕ × ℕ) → List Process → Edge → Type 0
HasRoles ends processes edge = (role_of processes edge.a ≡ (ends_of ends edge.kind).0) × (role_of processes edge.b ≡ (ends_of ends edge.kind).1)

-- what makes roles, kinds, processes and edges a network
pub record AreLawful (roles : List RoleParts) (ends : List (ℕ × ℕ)) (processes : List Process) (edges : List Edge) : Type 0 where
  pub few_roles : length roles ≤ MAX_ROLES
  pub few_kinds : length ends ≤ MAX_KINDS
  pub few_processes : length processes ≤ MAX_PROCESSES
  pub kinds : All (AreRoles roles) ends
  pub own_roles : All (HasRole roles) processes
  pub own_starts : All (BeginsInStart roles) processes
  pub in_range : All (IsInRange ends processes) edges
  pub joins_two : All JoinsTwo edges
  pub single : AllPairs (λ x y. JoinSame x y → ⊥) edges
  pub matching : All (HasRoles ends processes) edges
  pub degrees : (k : ℕ) → k < length processes → degree_of edges k ≤ MAX_NEIGHBOURS

abbrev pub IsNetwork : NetworkParts → Type 0
IsNetwork net = AreLawful net.roles net.ends net.processes net.edges
