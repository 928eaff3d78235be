-- The numbers of processes by their names, as a map keeps them.
use Rattle.std.specs.Prelude.{ℕ, ◌≡◌, Option, Some, None, List, Vec, position, Bool, true}
use Rattle.std.specs.BTreeMap.{is_at}
use Rattle.std.specs.Cmp.Lexicographic.{slice_cmp}
use Rattle.std.specs.Map.{lookup}
use Rattle.std.specs.Ordering.{nat_cmp}
use Rattle.std.specs.Str.{bytes_eq}
use Rattle.std.specs.declared.alloc.Global.{Global}
use Rattle.interconnection.specs.declared.parts.Process.{Process}

-- what a name is kept with
abbrev pub Kept : Type 0
Kept = List (Vec ℕ Global × ℕ)

-- the number that a name is kept with
abbrev pub kept_at : Kept → List ℕ → Option ℕ
kept_at kept name = lookup (is_at (λ k. slice_cmp nat_cmp name k.items)) kept

-- each name is kept with the number of the first process of that name
abbrev pub AreNumbers : List Process → Kept → Type 0
AreNumbers processes kept = (name : List ℕ) → kept_at kept name ≡ position (λ p. bytes_eq p.name name) processes

abbrev pub or_number : Option ℕ → Bool → ℕ → Option ℕ
or_number None true number = Some number
or_number found same number = found

-- the name has this number if it had none, and each other name what it had
abbrev pub IsNumbered : Kept → List ℕ → ℕ → Kept → Type 0
IsNumbered old name number new = (other : List ℕ) → kept_at new other ≡ or_number (kept_at old other) (bytes_eq name other) number
