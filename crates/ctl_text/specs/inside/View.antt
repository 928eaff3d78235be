-- What the program's values say, without where they lie in memory.
use Rattle.std.specs.Prelude.{map}
use Rattle.std.specs.Option.{option_copied}
use Rattle.ctl_form.specs.Form.{form_of}
use Rattle.ctl_text.specs.declared.item.Item.{Item}
use Rattle.ctl_text.specs.declared.item.Item.TheVariants.{Head, Role, Local, Start, Set, Arc, Kind, End, Process, Edge, Done}
use Rattle.ctl_text.specs.declared.open_role.OpenRole.{OpenRole}
use Rattle.ctl_text.specs.declared.place.Place.{Place}
use Rattle.ctl_text.specs.declared.place.Place.TheVariants.{BeforeHead, AmongRoles, InRole, AmongKinds, InKind, AmongProcesses, AmongEdges, AfterDone}
use Rattle.ctl_text.specs.declared.place.Reader.{Reader}
use Rattle.ctl_text.specs.Item.{Said, head_line, role_line, local_line, start_line, set_line, arc_line, kind_line, end_line, process_line, edge_line, done_line}
use Rattle.ctl_text.specs.State.{OpenParts, Group, before_head, among_roles, in_role, among_kinds, in_kind, among_processes, among_edges, after_done, State}

abbrev pub said : Item → Said
said (Head format) = head_line format
said (Role name) = role_line name.now
said (Local name) = local_line name.now
said (Start name) = start_line name.now
said (Set name members) = set_line name.now (map (λ w. w.now) members.now)
said (Arc from to free) = arc_line from.now to.now free
said (Kind name a b) = kind_line name.now a.now b.now
said End = end_line
said (Process name r start) = process_line name.now r.now (option_copied start)
said (Edge a b kind) = edge_line a.now b.now kind.now
said Done = done_line

abbrev pub parts_of : OpenRole → OpenParts
parts_of r = record { format = r.format; name = r.name; locals = r.locals.items; starts = r.starts.items; sets = r.sets; arcs = r.arcs.items }

abbrev pub group_of : Place → Group
group_of BeforeHead = before_head
group_of AmongRoles = among_roles
group_of (InRole role) = in_role (parts_of role)
group_of AmongKinds = among_kinds
group_of (InKind name a b clauses) = in_kind (record { name = name; role_a = a; role_b = b; clauses = map form_of clauses.items })
group_of AmongProcesses = among_processes
group_of AmongEdges = among_edges
group_of AfterDone = after_done

abbrev pub state_of : Reader → State
state_of r = record { parts = record { format = r.format; roles = r.pairs.roles; sets = r.sets.items; kinds = r.pairs.kinds; processes = r.processes; edges = r.edges }; group = group_of r.place }
