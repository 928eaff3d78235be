-- What stands above a line: the structures so far, the kinds that are left, and which group of lines is open.
use Rattle.std.specs.Prelude.{ℕ, ◌≡◌, List, [], ◌∷◌, ◌++◌, length}
use Rattle.pair_structure.specs.declared.side.Move.{Move}
use Rattle.pair_structure.specs.Role.{RoleParts}
use Rattle.pair_structure.specs.Structure.{Structure}
use Rattle.ctl_form.specs.declared.pair_spec.PairSpec.{PairSpec}
use Rattle.ctl_form.specs.Kind.{role_at}
use Rattle.ctl_text.specs.Value.{number_in}
use Rattle.solution_text.specs.Item.{Said, head_line, kind_line, state_line, move_line, end_line, done_line}

-- which group is open: an open kind has its two roles, and its states and moves so far
pub data Group : Type 0 where
  before_head : Group
  among_kinds : Group
  in_kind : RoleParts → RoleParts → List (ℕ × ℕ) → List Move → Group
  after_done : Group

-- the structures that are whole, the kinds that are still to come, and the open group
pub record State : Type 0 where
  pub made : List Structure
  pub left : List PairSpec
  pub group : Group

abbrev pub first_state : List PairSpec → State
first_state kinds = record { made = []; left = kinds; group = before_head }

-- the line may stand there: kinds come as long as some are left, and in each the states stand above the moves
abbrev pub MayStand : Group → List PairSpec → Said → Type 0
MayStand before_head left head_line = Unit {0}
MayStand among_kinds (kind ∷ left) (kind_line name) = Unit {0}
MayStand among_kinds [] done_line = Unit {0}
MayStand (in_kind a b states moves) left (state_line p q) = length moves ≡ 0
MayStand (in_kind a b states moves) left (move_line move) = Unit {0}
MayStand (in_kind a b states moves) left end_line = Unit {0}
MayStand group left item = ⊥

-- the first of these kinds, opened
abbrev pub opened : List RoleParts → List PairSpec → Group
opened roles [] = among_kinds
opened roles (kind ∷ left) = in_kind (role_at roles kind.role_a) (role_at roles kind.role_b) [] []

abbrev pub behind : List PairSpec → List PairSpec
behind [] = []
behind (kind ∷ left) = left

abbrev pub with_state : Group → List ℕ → List ℕ → Group
with_state (in_kind a b states moves) p q = in_kind a b (states ++ (number_in a.locals p, number_in b.locals q) ∷ []) moves
with_state group p q = group

abbrev pub with_move : Group → Move → Group
with_move (in_kind a b states moves) move = in_kind a b states (moves ++ move ∷ [])
with_move group move = group

-- an open kind's structure is whole where the kind ends
abbrev pub with_ended : List Structure → Group → List Structure
with_ended made (in_kind a b states moves) = made ++ record { states = states; moves = moves } ∷ []
with_ended made group = made

-- what stands below a line that says this
abbrev pub after_line : List RoleParts → State → Said → State
after_line roles s head_line = record { made = s.made; left = s.left; group = among_kinds }
after_line roles s (kind_line name) = record { made = s.made; left = behind s.left; group = opened roles s.left }
after_line roles s (state_line p q) = record { made = s.made; left = s.left; group = with_state s.group p q }
after_line roles s (move_line move) = record { made = s.made; left = s.left; group = with_move s.group move }
after_line roles s end_line = record { made = with_ended s.made s.group; left = s.left; group = among_kinds }
after_line roles s done_line = record { made = s.made; left = s.left; group = after_done }
