-- The processes beside each process, as lists by its number.
use Rattle.std.specs.Prelude.{ℕ, ◌≡◌, ◌==◌, List, [], ◌∷◌, ◌++◌, if◌then◌else◌, slice_index_or}
use Rattle.interconnection.specs.declared.parts.Edge.{Edge}

-- the process at the other end of the edge, if this one is at an end
abbrev pub other_end : ℕ → Edge → List ℕ
other_end k e = if e.a == k then e.b ∷ [] else if e.b == k then e.a ∷ [] else []

-- the processes at the other ends of its edges, in the order of the edges
abbrev pub other_ends : List Edge → ℕ → List ℕ
other_ends [] k = []
other_ends (e ∷ edges) k = other_end k e ++ other_ends edges k

-- each process has the list of those beside it
abbrev pub IsEdgeTable : List Edge → List (List ℕ) → Type 0
IsEdgeTable edges rows = (k : ℕ) → slice_index_or rows k [] ≡ other_ends edges k
