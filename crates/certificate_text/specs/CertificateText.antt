-- The one text of a certificate.
use Rattle.std.specs.Prelude.{ℕ, List, ◌++◌, map}
use Rattle.std.specs.List.{flat_map}
use Rattle.pair_structure.specs.Parts.{role_at}
use Rattle.pair_structure.specs.declared.side.Side.{Side}
use Rattle.interconnection.specs.Shape.{ShapeParts}
use Rattle.ctl_text.specs.Value.{SpecParts, kind_at}
use Rattle.strict_text.specs.Spaced.{line_text}
use Rattle.waitfor_check.specs.declared.star.Star.{Star}
use Rattle.certificate_text.specs.Item.{NamedLabel, Said, head_line, star_line, member_line, end_line, done_line, words_for}

-- a line, with its line feed
abbrev pub item_text : Said → List ℕ
item_text item = line_text (words_for item)

-- the name of the kind of a label, with its side
abbrev pub label_named : SpecParts → ℕ × Side → NamedLabel
label_named v label = ((kind_at v.kinds label.0).name, label.1)

-- the line of a shape, by the names of its role and of its kinds
abbrev pub shape_line : SpecParts → ShapeParts → Said
shape_line v shape = star_line (role_at v.roles shape.role).name (map (label_named v) shape.leaves)

abbrev pub member_text : List ℕ → List ℕ
member_text states = item_text (member_line states)

-- the shape, and the members in their order
abbrev pub star_text : SpecParts → Star → List ℕ
star_text v star = item_text (shape_line v star.shape) ++ (flat_map member_text star.members ++ item_text end_line)

abbrev pub certificate_text : SpecParts → List Star → List ℕ
certificate_text v stars = item_text head_line ++ (flat_map (star_text v) stars ++ item_text done_line)
