-- The numbers of arcs, in rows by the local states that they join.
use Rattle.std.specs.Prelude.{ℕ, ◌≡◌, ◌<◌, List, [], length, slice_index_or}
use Rattle.pair_structure.specs.declared.side.LocalArc.{LocalArc}
use Rattle.pair_structure.specs.Parts.{arc_at}

-- the number in row p at q
abbrev pub number_at : List (List ℕ) → ℕ → ℕ → ℕ
number_at rows p q = slice_index_or (slice_index_or rows p []) q 0

-- two arcs with different ends
abbrev pub AreApart : LocalArc → LocalArc → Type 0
AreApart arc other = arc.from ≡ other.from → arc.to ≡ other.to → ⊥

-- the first n arcs have their numbers
abbrev pub IsNumberingBelow : ℕ → List (List ℕ) → List LocalArc → Type 0
IsNumberingBelow n rows arcs = (arc : ℕ) → arc < n → number_at rows (arc_at arcs arc).from (arc_at arcs arc).to ≡ arc

abbrev pub IsNumbering : List (List ℕ) → List LocalArc → Type 0
IsNumbering rows arcs = IsNumberingBelow (length arcs) rows arcs
