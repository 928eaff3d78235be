-- What stands above a line: the stars so far, and which group of lines is open.
use Rattle.std.specs.Prelude.{ℕ, ◌≡◌, List, [], ◌∷◌, ◌++◌, length, map}
use Rattle.pair_structure.specs.declared.side.Side.{Side}
use Rattle.interconnection.specs.Shape.{ShapeParts}
use Rattle.ctl_text.specs.Value.{SpecParts, kind_names, number_in, role_names}
use Rattle.waitfor_check.specs.declared.star.Star.{Star}
use Rattle.certificate_text.specs.Item.{NamedLabel, Said, head_line, star_line, member_line, end_line, done_line}

-- which group is open: an open star has its shape, and its members so far
pub data Group : Type 0 where
  before_head : Group
  among_stars : Group
  in_star : ShapeParts → List (List ℕ) → Group
  after_done : Group

-- the stars that are whole, and the open group
pub record State : Type 0 where
  pub made : List Star
  pub group : Group

abbrev pub first_state : State
first_state = record { made = []; group = before_head }

-- the line may stand there; a member has a state for each label
abbrev pub MayStand : Group → Said → Type 0
MayStand before_head head_line = Unit {0}
MayStand among_stars (star_line role labels) = Unit {0}
MayStand among_stars done_line = Unit {0}
MayStand (in_star shape members) (member_line states) = length states ≡ length shape.leaves
MayStand (in_star shape members) end_line = Unit {0}
MayStand group item = ⊥

-- the number of the kind of a label, with its side
abbrev pub label_numbered : SpecParts → NamedLabel → ℕ × Side
label_numbered v label = (number_in (kind_names v.kinds) label.0, label.1)

-- the shape of these names
abbrev pub shape_named : SpecParts → List ℕ → List NamedLabel → ShapeParts
shape_named v role labels = record { role = number_in (role_names v.roles) role; leaves = map (label_numbered v) labels }

abbrev pub with_member : Group → List ℕ → Group
with_member (in_star shape members) states = in_star shape (members ++ states ∷ [])
with_member group states = group

-- an open star is whole where it ends
abbrev pub with_ended : List Star → Group → List Star
with_ended made (in_star shape members) = made ++ record { shape = shape; members = members } ∷ []
with_ended made group = made

-- what stands below a line that says this
abbrev pub after_line : SpecParts → State → Said → State
after_line v s head_line = record { made = s.made; group = among_stars }
after_line v s (star_line role labels) = record { made = s.made; group = in_star (shape_named v role labels) [] }
after_line v s (member_line states) = record { made = s.made; group = with_member s.group states }
after_line v s end_line = record { made = with_ended s.made s.group; group = among_stars }
after_line v s done_line = record { made = s.made; group = after_done }
