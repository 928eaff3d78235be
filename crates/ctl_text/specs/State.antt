-- What stands above a line: what has been declared, and which group of lines is open.
use Rattle.std.specs.Prelude.{ℕ, ◌≡◌, ◌<◌, Option, List, [], ◌∷◌, ◌++◌, Bool, length}
use Rattle.pair_structure.specs.declared.side.LocalArc.{LocalArc}
use Rattle.pair_structure.specs.Role.{RoleParts}
use Rattle.ctl_form.specs.declared.pair_spec.PairSpec.{PairSpec}
use Rattle.ctl_form.specs.Form.{Form}
use Rattle.interconnection.specs.declared.parts.Process.{Process}
use Rattle.formula_text.specs.Sets.{SetParts}
use Rattle.ctl_text.specs.declared.format.Format.{Format}
use Rattle.ctl_text.specs.declared.format.Format.TheVariants.{First, Second}
use Rattle.ctl_text.specs.Item.{Said, head_line, role_line, local_line, start_line, set_line, arc_line, kind_line, require_line, end_line, process_line, edge_line, done_line}
use Rattle.ctl_text.specs.Value.{Declared, role_names, kind_names, process_names, number_in, role_named, start_named}

-- an open role, with what its lines have declared so far: sets beside what makes a role
pub record OpenParts : Type 0 where
  pub format : Format
  pub name : List ℕ
  pub locals : List (List ℕ)
  pub starts : List ℕ
  pub sets : List SetParts
  pub arcs : List LocalArc

-- the role that it is where it ends
abbrev pub role_of : OpenParts → RoleParts
role_of r = record { name = r.name; locals = r.locals; starts = r.starts; arcs = r.arcs }

-- which group is open: an open role and an open kind have what their lines have declared so far
pub data Group : Type 0 where
  before_head : Group
  among_roles : Group
  in_role : OpenParts → Group
  among_kinds : Group
  in_kind : PairSpec → Group
  among_processes : Group
  among_edges : Group
  after_done : Group

-- what is declared above, and the open group
pub record State : Type 0 where
  pub parts : Declared
  pub group : Group

-- nothing is declared in a text of the format
abbrev pub nothing : Format → Declared
nothing format = record { format = format; roles = []; sets = []; kinds = []; processes = []; edges = [] }

abbrev pub first_state : State
first_state = record { parts = nothing First; group = before_head }

-- the line may stand there: in a role the local states stand above the starts, these above the sets, and sets, which format 2 alone has,
-- above the arcs
abbrev pub MayStand : Group → Said → Type 0
MayStand before_head (head_line format) = Unit {0}
MayStand among_roles (role_line name) = Unit {0}
MayStand among_roles (kind_line name a b) = Unit {0}
MayStand among_roles (process_line name r start) = Unit {0}
MayStand among_roles (edge_line p q kind) = Unit {0}
MayStand among_roles done_line = Unit {0}
MayStand (in_role r) (local_line n) = length r.starts ≡ 0
MayStand (in_role r) (start_line n) = (0 < length r.locals) × (length r.sets ≡ 0) × (length r.arcs ≡ 0)
MayStand (in_role r) (set_line n members) = (r.format ≡ Second) × (0 < length r.starts) × (length r.arcs ≡ 0)
MayStand (in_role r) (arc_line p q free) = 0 < length r.starts
MayStand (in_role r) end_line = 0 < length r.starts
MayStand among_kinds (kind_line name a b) = Unit {0}
MayStand among_kinds (process_line name r start) = Unit {0}
MayStand among_kinds (edge_line p q kind) = Unit {0}
MayStand among_kinds done_line = Unit {0}
MayStand (in_kind k) (require_line words form) = Unit {0}
MayStand (in_kind k) end_line = Unit {0}
MayStand among_processes (process_line name r start) = Unit {0}
MayStand among_processes (edge_line p q kind) = Unit {0}
MayStand among_processes done_line = Unit {0}
MayStand among_edges (edge_line p q kind) = Unit {0}
MayStand among_edges done_line = Unit {0}
MayStand group item = ⊥

-- a role of this name, of which nothing more is declared
abbrev pub opened_role : Format → List ℕ → Group
opened_role format name = in_role (record { format = format; name = name; locals = []; starts = []; sets = []; arcs = [] })

-- the open role with one more local state, start, set or arc
abbrev pub with_local : Group → List ℕ → Group
with_local (in_role r) n = in_role (record r { locals = r.locals ++ n ∷ [] })
with_local group n = group

abbrev pub with_start : Group → List ℕ → Group
with_start (in_role r) n = in_role (record r { starts = r.starts ++ number_in r.locals n ∷ [] })
with_start group n = group

abbrev pub with_set : Group → List ℕ → List (List ℕ) → Group
with_set (in_role r) name members = in_role (record r { sets = r.sets ++ record { name = name; members = members } ∷ [] })
with_set group name members = group

abbrev pub arc_in : List (List ℕ) → List ℕ → List ℕ → Bool → LocalArc
arc_in names p q free = record { from = number_in names p; to = number_in names q; free = free }

abbrev pub with_arc : Group → List ℕ → List ℕ → Bool → Group
with_arc (in_role r) p q free = in_role (record r { arcs = r.arcs ++ arc_in r.locals p q free ∷ [] })
with_arc group p q free = group

-- the open kind with one more clause
abbrev pub with_form : Group → Form → Group
with_form (in_kind k) form = in_kind (record { name = k.name; role_a = k.role_a; role_b = k.role_b; clauses = k.clauses ++ form ∷ [] })
with_form group form = group

-- an open role or kind is declared where it ends
abbrev pub with_ended : Declared → Group → Declared
with_ended v (in_role r) = record { format = v.format; roles = v.roles ++ role_of r ∷ []; sets = v.sets ++ r.sets ∷ []; kinds = v.kinds; processes = v.processes; edges = v.edges }
with_ended v (in_kind k) = record { format = v.format; roles = v.roles; sets = v.sets; kinds = v.kinds ++ k ∷ []; processes = v.processes; edges = v.edges }
with_ended v group = v

abbrev pub group_after_end : Group → Group
group_after_end (in_role r) = among_roles
group_after_end (in_kind k) = among_kinds
group_after_end group = group

abbrev pub opened_kind : List RoleParts → List ℕ → List ℕ → List ℕ → Group
opened_kind roles name a b = in_kind (record { name = name; role_a = number_in (role_names roles) a; role_b = number_in (role_names roles) b; clauses = [] })

abbrev pub process_in : List RoleParts → List ℕ → List ℕ → Option (List ℕ) → Process
process_in roles name r start = record { name = name; role = number_in (role_names roles) r; start = start_named (role_named roles r) start }

abbrev pub with_process : Declared → List ℕ → List ℕ → Option (List ℕ) → Declared
with_process v name r start = record v { processes = v.processes ++ process_in v.roles name r start ∷ [] }

abbrev pub with_edge : Declared → List ℕ → List ℕ → List ℕ → Declared
with_edge v p q kind = record {
  format = v.format;
  roles = v.roles;
  sets = v.sets;
  kinds = v.kinds;
  processes = v.processes;
  edges = v.edges ++ record { a = number_in (process_names v.processes) p; b = number_in (process_names v.processes) q; kind = number_in (kind_names v.kinds) kind } ∷ [];
}

-- what stands below a line that says this
abbrev pub after_line : State → Said → State
after_line s (head_line format) = record { parts = nothing format; group = among_roles }
after_line s (role_line name) = record { parts = s.parts; group = opened_role s.parts.format name }
after_line s (local_line n) = record { parts = s.parts; group = with_local s.group n }
after_line s (start_line n) = record { parts = s.parts; group = with_start s.group n }
after_line s (set_line n members) = record { parts = s.parts; group = with_set s.group n members }
after_line s (arc_line p q free) = record { parts = s.parts; group = with_arc s.group p q free }
after_line s (kind_line name a b) = record { parts = s.parts; group = opened_kind s.parts.roles name a b }
after_line s (require_line words form) = record { parts = s.parts; group = with_form s.group form }
after_line s end_line = record { parts = with_ended s.parts s.group; group = group_after_end s.group }
after_line s (process_line name r start) = record { parts = with_process s.parts name r start; group = among_processes }
after_line s (edge_line p q kind) = record { parts = with_edge s.parts p q kind; group = among_edges }
after_line s done_line = record { parts = s.parts; group = after_done }
