-- Lists by number.
use Rattle.std.specs.Prelude.{ℕ, ◌≡◌, List, [], length, slice_index_or}

-- a list by its number; past the end the empty one
abbrev pub list_at : {A : Type 0} → List (List A) → ℕ → List A
list_at lists k = slice_index_or lists k []

-- so many lists, each of them without items
abbrev pub AreEmpty : {A : Type 0} → ℕ → List (List A) → Type 0
AreEmpty count lists = (length lists ≡ count) × ((k : ℕ) → list_at lists k ≡ [])
