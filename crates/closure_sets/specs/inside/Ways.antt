-- The rows in which a member is treated, as the code has them: one to three.
use Rattle.std.specs.Prelude.{ℕ, Bool, Option, Some, None, List, [], ◌∷◌}
use Rattle.pair_structure.specs.declared.side.Side.{Side}
use Rattle.closure_sets.specs.ClosureParts.{ClosureParts}
use Rattle.closure_sets.specs.Expansion.{expand, rows_of}
use Rattle.closure_sets.specs.Row.{Members, set_of}
use Rattle.closure_sets.specs.declared.row.Row.{Row}
use Rattle.closure_sets.specs.declared.ways.Ways.{Ways}

abbrev pub with_row : Option Row → List Members → List Members
with_row (Some row) rows = set_of row.words ∷ rows
with_row None rows = rows

abbrev pub ways_rows : Ways → List Members
ways_rows w = set_of w.first.words ∷ with_row w.second (with_row w.third [])

-- the expansions of rows in which these members are treated, one after another
abbrev pub treat_rows : ClosureParts → Option Side → (ℕ → Bool) → (Members → Bool) → ℕ → Members → List Members → List Members
treat_rows c only easy clash d treated rows = rows_of (λ r. expand c only easy clash d r treated) rows
