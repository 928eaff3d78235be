-- Rows with later repeats left out.
use Rattle.std.specs.Prelude.{◌≡◌, ◌⊎◌, List, [], ◌∷◌, ◌++◌}
use Rattle.closure_sets.specs.Full.{Among}
use Rattle.closure_sets.specs.Row.{Members}

abbrev pub IsOneOf : List Members → Members → Type 0
IsOneOf rows row = Among (λ r. r ≡ row) rows

-- a row is put behind the others unless it stands among them
abbrev pub IsNoted : List Members → Members → List Members → Type 0
IsNoted rows row after = (IsOneOf rows row × (after ≡ rows)) ⊎ ((IsOneOf rows row → ⊥) × (after ≡ rows ++ row ∷ []))

-- the rows of a list are noted one after another
abbrev pub AreNoted : List Members → List Members → List Members → Type 0
AreNoted before [] after = after ≡ before
AreNoted before (r ∷ rs) after = (between : List Members) × IsNoted before r between × AreNoted between rs after

-- the list without the rows that stand in it before
abbrev pub AreFirsts : List Members → List Members → Type 0
AreFirsts all firsts = AreNoted [] all firsts
