-- The canonical text of a specification.
use Rattle.std.specs.Prelude.{ℕ, Bool, true, false, Option, Some, None, ◌==◌, if◌then◌else◌, List, [], ◌∷◌, ◌++◌, codes, map}
use Rattle.std.specs.List.{flat_map}
use Rattle.pair_structure.specs.Parts.{Names, name_at, role_at}
use Rattle.pair_structure.specs.declared.side.LocalArc.{LocalArc}
use Rattle.pair_structure.specs.Role.{RoleParts, first_start}
use Rattle.ctl_form.specs.declared.pair_spec.PairSpec.{PairSpec}
use Rattle.ctl_form.specs.Form.{Form}
use Rattle.interconnection.specs.declared.parts.Process.{Process}
use Rattle.interconnection.specs.declared.parts.Edge.{Edge}
use Rattle.formula_text.specs.FormulaText.{formula_text}
use Rattle.ctl_text.specs.Item.{Said, head_line, role_line, local_line, start_line, arc_line, kind_line, end_line, process_line, edge_line, done_line, words_for}
use Rattle.ctl_text.specs.declared.format.Format.TheVariants.{Second}
use Rattle.ctl_text.specs.Value.{SpecParts, kind_at, process_at}

-- words with one space between two
abbrev pub spaced : List (List ℕ) → List ℕ
spaced [] = []
spaced (word ∷ []) = word
spaced (word ∷ other ∷ words) = word ++ (codes " " ++ spaced (other ∷ words))

-- the canonical line that says it
abbrev pub line_for : Said → List ℕ
line_for item = spaced (words_for item)

-- a line feed behind the line
abbrev pub ended : List ℕ → List ℕ
ended line = line ++ codes "\n"

abbrev pub local_text : List ℕ → List ℕ
local_text name = line_for (local_line name)

abbrev pub start_text : Names → ℕ → List ℕ
start_text names start = line_for (start_line (name_at names start))

abbrev pub arc_item : Names → LocalArc → Said
arc_item names arc = arc_line (name_at names arc.from) (name_at names arc.to) arc.free

abbrev pub arc_text : Names → LocalArc → List ℕ
arc_text names arc = line_for (arc_item names arc)

-- the lines of a role
abbrev pub role_lines : RoleParts → List (List ℕ)
role_lines r = line_for (role_line r.name) ∷ (map local_text r.locals ++ (map (start_text r.locals) r.starts ++ (map (arc_text r.locals) r.arcs ++ (line_for end_line ∷ []))))

-- a required clause over the local states of the two sides
abbrev pub require_text : Names → Names → Form → List ℕ
require_text a b f = codes "require " ++ formula_text a b f

-- the lines of a kind over these two roles
abbrev pub kind_lines_over : RoleParts → RoleParts → PairSpec → List (List ℕ)
kind_lines_over a b kind = line_for (kind_line kind.name a.name b.name) ∷ (map (require_text a.locals b.locals) kind.clauses ++ (line_for end_line ∷ []))

abbrev pub kind_lines : List RoleParts → PairSpec → List (List ℕ)
kind_lines roles kind = kind_lines_over (role_at roles kind.role_a) (role_at roles kind.role_b) kind

-- the name of the local state where a process of the role begins, where that is not the role's first start
abbrev pub start_name : RoleParts → ℕ → Option (List ℕ)
start_name r start = if start == first_start r then None else Some (name_at r.locals start)

abbrev pub process_item : List RoleParts → Process → Said
process_item roles p = process_line p.name (role_at roles p.role).name (start_name (role_at roles p.role) p.start)

abbrev pub process_text : List RoleParts → Process → List ℕ
process_text roles p = line_for (process_item roles p)

abbrev pub edge_item : List Process → List PairSpec → Edge → Said
edge_item processes kinds e = edge_line (process_at processes e.a).name (process_at processes e.b).name (kind_at kinds e.kind).name

abbrev pub edge_text : List Process → List PairSpec → Edge → List ℕ
edge_text processes kinds e = line_for (edge_item processes kinds e)

-- the lines of a specification, which are of format 2, without sets
abbrev pub spec_lines : SpecParts → List (List ℕ)
spec_lines v = line_for (head_line Second) ∷ (flat_map role_lines v.roles ++ (flat_map (kind_lines v.roles) v.kinds ++ (map (process_text v.roles) v.processes ++ (map (edge_text v.processes v.kinds) v.edges ++ (line_for done_line ∷ [])))))

abbrev pub spec_text : SpecParts → List ℕ
spec_text v = flat_map ended (spec_lines v)

-- how a process's line goes on behind its role
abbrev pub start_word : Option (List ℕ) → List ℕ
start_word None = []
start_word (Some name) = codes " " ++ name

-- how an arc's line ends
abbrev pub free_text : Bool → List ℕ
free_text true = codes " free\n"
free_text false = codes "\n"

-- the texts of a role, and of a kind
abbrev pub role_text : RoleParts → List ℕ
role_text r = flat_map ended (role_lines r)

abbrev pub kind_text : List RoleParts → PairSpec → List ℕ
kind_text roles kind = flat_map ended (kind_lines roles kind)
