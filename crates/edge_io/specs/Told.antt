-- What a shelf or a sink tells of its content.
use Rattle.std.specs.Prelude.{ℕ, ◌≡◌, ◌<◌, length, IsSomeAnd, List, [], ◌∷◌, Option, Some, None, take, if◌then◌else◌}
use Rattle.std.specs.Str.{bytes_eq}
use Rattle.std.specs.Io.KnownBytes.{append_known}

-- the bytes of the first file of this name
abbrev pub file_named : List (List ℕ × List ℕ) → List ℕ → Option (List ℕ)
file_named [] name = None
file_named (file ∷ files) name = if bytes_eq file.0 name then Some file.1 else file_named files name

-- there is a file of this name, and it has more than `max` bytes
abbrev pub HasLonger : List (List ℕ × List ℕ) → List ℕ → ℕ → Type 0
HasLonger files name max = IsSomeAnd (file_named files name) (λ bytes. max < length bytes)

-- what is told of a sink has grown by these bytes; a sink that tells nothing still tells nothing
abbrev pub Appends : Option (List ℕ) → Option (List ℕ) → List ℕ → Type 0
Appends before now bytes = now ≡ append_known before bytes

-- what is told of a sink has grown by the first n of these bytes, for some n
abbrev pub AppendsPrefix : Option (List ℕ) → Option (List ℕ) → List ℕ → Type 0
AppendsPrefix before now bytes = (n : ℕ) × Appends before now (take n bytes)
