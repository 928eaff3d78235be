-- The one text of a solution.
use Rattle.std.specs.Prelude.{ℕ, List, [], ◌∷◌, ◌++◌}
use Rattle.std.specs.List.{flat_map}
use Rattle.pair_structure.specs.declared.side.Move.{Move}
use Rattle.pair_structure.specs.Role.{RoleParts}
use Rattle.pair_structure.specs.Structure.{Structure, IsOver}
use Rattle.ctl_form.specs.declared.pair_spec.PairSpec.{PairSpec}
use Rattle.ctl_form.specs.Kind.{role_at}
use Rattle.ctl_text.specs.FormulaText.{Names, name_at}
use Rattle.strict_text.specs.Spaced.{line_text}
use Rattle.solution_text.specs.Item.{Said, head_line, kind_line, state_line, move_line, end_line, done_line, words_for}

-- a line, with its line feed
abbrev pub item_text : Said → List ℕ
item_text item = line_text (words_for item)

abbrev pub state_text : Names → Names → ℕ × ℕ → List ℕ
state_text a b label = item_text (state_line (name_at a label.0) (name_at b label.1))

abbrev pub move_text : Move → List ℕ
move_text move = item_text (move_line move)

-- the states in their order, then the moves in theirs
abbrev pub structure_text : Names → Names → Structure → List ℕ
structure_text a b m = flat_map (state_text a b) m.states ++ flat_map move_text m.moves

abbrev pub kind_text : List ℕ → RoleParts → RoleParts → Structure → List ℕ
kind_text name a b m = item_text (kind_line name) ++ (structure_text a.locals b.locals m ++ item_text end_line)

-- the structure of each kind, in the order of the kinds
abbrev pub kinds_text : List RoleParts → List PairSpec → List Structure → List ℕ
kinds_text roles [] structures = []
kinds_text roles (kind ∷ kinds) [] = []
kinds_text roles (kind ∷ kinds) (m ∷ structures) = kind_text kind.name (role_at roles kind.role_a) (role_at roles kind.role_b) m ++ kinds_text roles kinds structures

abbrev pub solution_text : List RoleParts → List PairSpec → List Structure → List ℕ
solution_text roles kinds structures = item_text head_line ++ (kinds_text roles kinds structures ++ item_text done_line)

-- one structure for each kind, over its two roles
abbrev pub AreOver : List RoleParts → List PairSpec → List Structure → Type 0
AreOver roles [] [] = Unit {0}
AreOver roles [] (m ∷ structures) = ⊥
AreOver roles (kind ∷ kinds) [] = ⊥
AreOver roles (kind ∷ kinds) (m ∷ structures) = IsOver (role_at roles kind.role_a) (role_at roles kind.role_b) m × AreOver roles kinds structures
