-- What is known of one edge and of one process of a system.
use Rattle.std.proofs.Common.{ℕ, ◌≡◌, ◌≢◌, ◌<◌, [], length, ap, Contains}
use Rattle.std.proofs.lemmas.List.Elements.{All-get_or}
use Rattle.pair_structure.specs.Role.{RoleParts, IsRole}
use Rattle.pair_structure.specs.Structure.{IsOver}
use Rattle.skeleton_extract.specs.Commands.{IsSkeleton}
use Rattle.interconnection.specs.declared.parts.Edge.{Edge}
use Rattle.interconnection.specs.declared.parts.Process.{Process}
use Rattle.interconnection.specs.Network.{BeginsInStart, HasRole, HasRoles, IsInRange, JoinsTwo, role_of as role_number}
use Rattle.pair_structure.specs.Parts.{role_at}
use Rattle.conjunctive_compose.specs.System.{SystemParts, IsSystem, edge_at, edge_count, lists_at, process_count, role_a, role_b, role_of, structure_at}
use Rattle.conjunctive_compose.specs.Whole.{start_local}

abbrev nobody : Process
nobody = record { name = []; role = 0; start = 0 }

-- what edge e joins
pub record IsLawfulEdge (sys : SystemParts) (e : ℕ) : Type 0 where
  pub a : (edge_at sys e).a < process_count sys
  pub b : (edge_at sys e).b < process_count sys
  pub differ : (edge_at sys e).a ≢ (edge_at sys e).b
  pub over : IsOver (role_of sys (edge_at sys e).a) (role_of sys (edge_at sys e).b) (structure_at sys e)
  pub skeleton : IsSkeleton (role_of sys (edge_at sys e).a) (role_of sys (edge_at sys e).b) (structure_at sys e) (lists_at sys e)

pub edge_lawful : (sys : SystemParts) (e : ℕ) → IsSystem sys → e < edge_count sys → IsLawfulEdge sys e
edge_lawful sys e system lt =
    let net = sys.network in
    let d = no_edge in
    let range = All-get_or (IsInRange net.ends net.processes) net.edges e d lt system.network.in_range in
    let two = All-get_or JoinsTwo net.edges e d lt system.network.joins_two in
    let roles = All-get_or (HasRoles net.ends net.processes) net.edges e d lt system.network.matching in
    let kind = (edge_at sys e).kind in
    let a : role_of sys (edge_at sys e).a ≡ role_a net kind = ap {B = RoleParts} (role_at net.roles) roles.0 in
    let b : role_of sys (edge_at sys e).b ≡ role_b net kind = ap {B = RoleParts} (role_at net.roles) roles.1 in
    record {
      a = range.0;
      b = range.1;
      differ = two;
      over = rw (a, b) (system.structures.over kind range.2);
      skeleton = rw (a, b) (system.commands.commands kind range.2);
    }
  where
    no_edge : Edge
    no_edge = record { a = 0; b = 0; kind = 0 }

pub edge_kind : (sys : SystemParts) (e : ℕ) → IsSystem sys → e < edge_count sys → (edge_at sys e).kind < length sys.network.ends
edge_kind sys e system lt = (All-get_or (IsInRange sys.network.ends sys.network.processes) sys.network.edges e (record { a = 0; b = 0; kind = 0 }) lt system.network.in_range).2

-- the role of a process is one
pub role_lawful : (sys : SystemParts) (k : ℕ) → IsSystem sys → k < process_count sys → IsRole (role_of sys k)
role_lawful sys k system lt = system.roles (role_number sys.network.processes k) (All-get_or (HasRole sys.network.roles) sys.network.processes k nobody lt system.network.own_roles)

-- the start of a process is one of its role's
pub start_lawful : (sys : SystemParts) (k : ℕ) → IsSystem sys → k < process_count sys → Contains (role_of sys k).starts (start_local sys k)
start_lawful sys k system lt = All-get_or (BeginsInStart sys.network.roles) sys.network.processes k nobody lt system.network.own_starts
