-- Systems: processes on a graph, with a pair structure and its commands for each kind of edge.
use Rattle.std.specs.Prelude.{ℕ, ◌≡◌, ◌<◌, ◌==◌, ◌^◌, cond, Option, Some, None, List, [], length, slice_index_or}
use Rattle.pair_structure.specs.declared.side.Side.{Side}
use Rattle.pair_structure.specs.declared.side.Side.TheVariants.{A, B}
use Rattle.pair_structure.specs.Parts.{role_at}
use Rattle.pair_structure.specs.Role.{RoleParts, IsRole}
use Rattle.pair_structure.specs.Structure.{Structure, IsOver}
use Rattle.skeleton_extract.specs.Commands.{Lists, IsSkeleton}
use Rattle.interconnection.specs.declared.parts.Edge.{Edge}
use Rattle.interconnection.specs.Graph.{edge_at as edge_numbered, end_of}
use Rattle.interconnection.specs.Network.{NetworkParts, IsNetwork, ends_of, role_of as role_number}

-- a network, and for each kind a structure and the commands of its moves
pub record SystemParts : Type 0 where
  pub network : NetworkParts
  pub structures : List Structure
  pub lists : List Lists

abbrev pub process_count : SystemParts → ℕ
process_count sys = length sys.network.processes

abbrev pub edge_count : SystemParts → ℕ
edge_count sys = length sys.network.edges

abbrev pub no_structure : Structure
no_structure = record { states = []; moves = [] }

abbrev pub no_lists : Lists
no_lists = record { a = []; b = [] }

-- the role of a process
abbrev pub role_of : SystemParts → ℕ → RoleParts
role_of sys k = role_at sys.network.roles (role_number sys.network.processes k)

abbrev pub edge_at : SystemParts → ℕ → Edge
edge_at sys e = edge_numbered sys.network.edges e

abbrev pub structure_of : List Structure → ℕ → Structure
structure_of structures kind = slice_index_or structures kind no_structure

-- the structure of an edge's kind
abbrev pub structure_at : SystemParts → ℕ → Structure
structure_at sys e = structure_of sys.structures (edge_at sys e).kind

-- the commands of an edge's kind
abbrev pub lists_at : SystemParts → ℕ → Lists
lists_at sys e = slice_index_or sys.lists (edge_at sys e).kind no_lists

-- the side of this process on the edge, if it is one of the edge's two
abbrev pub side_on : Edge → ℕ → Option Side
side_on edge k = cond (edge.a == k) (Some A) (cond (edge.b == k) (Some B) None)

-- edge e is one of process k's, and this is k's side
abbrev pub IsOn : SystemParts → ℕ → Side → ℕ → Type 0
IsOn sys k side e = end_of (edge_at sys e) side ≡ k

-- edge e is one of process k's
abbrev pub Joins : SystemParts → ℕ → ℕ → Type 0
Joins sys e k = (side : Side) × IsOn sys k side e

-- the two roles of a kind
abbrev pub role_a : NetworkParts → ℕ → RoleParts
role_a net kind = role_at net.roles (ends_of net.ends kind).0

abbrev pub role_b : NetworkParts → ℕ → RoleParts
role_b net kind = role_at net.roles (ends_of net.ends kind).1

-- a structure for each kind, over its roles, with states that 32 bits number
pub record HasStructures (net : NetworkParts) (structures : List Structure) : Type 0 where
  pub one_each : length structures ≡ length net.ends
  pub over : (kind : ℕ) → kind < length net.ends → IsOver (role_a net kind) (role_b net kind) (structure_of structures kind)
  pub few : (kind : ℕ) → kind < length net.ends → length (structure_of structures kind).states < 2 ^ 32

-- the commands of the first n structures, kind by kind
pub record HasCommandsBelow (n : ℕ) (net : NetworkParts) (structures : List Structure) (lists : List Lists) : Type 0 where
  pub one_each : length lists ≡ n
  pub commands : (kind : ℕ) → kind < n → IsSkeleton (role_a net kind) (role_b net kind) (structure_of structures kind) (slice_index_or lists kind no_lists)

abbrev pub HasCommands : NetworkParts → List Structure → List Lists → Type 0
HasCommands net = HasCommandsBelow (length net.ends) net

pub record IsSystem (sys : SystemParts) : Type 0 where
  pub network : IsNetwork sys.network
  pub roles : (r : ℕ) → r < length sys.network.roles → IsRole (role_at sys.network.roles r)
  pub structures : HasStructures sys.network sys.structures
  pub commands : HasCommands sys.network sys.structures sys.lists
