-- What stands in the first places of a list.
use Rattle.std.specs.Prelude.{ℕ, ◌≡◌, ◌<◌, List, length, slice_index_or}

-- x stands in the list before place k
abbrev pub StandsBefore : {A : Type 0} → List A → ℕ → A → Type 0
StandsBefore xs k x = (i : ℕ) × (i < k) × (i < length xs) × (slice_index_or xs i x ≡ x)
