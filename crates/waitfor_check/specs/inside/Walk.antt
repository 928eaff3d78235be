-- A walk over choices, up to the first that is no member.
use Rattle.std.specs.Prelude.{ℕ, ◌≡◌, ◌<◌, ◌≤◌, List, [], ◌∷◌, ◌++◌, length, Contains, slice_index_or}
use Rattle.std.specs.List.{flat_map}
use Rattle.std.specs.List.Sorted.{IsSorted}
use Rattle.std.specs.Ordering.{nat_cmp}
use Rattle.std.specs.Cmp.Lexicographic.{slice_cmp}
use Rattle.waitfor_check.specs.Closed.{IsFirstMissing}
use Rattle.waitfor_check.specs.declared.room.Room.{Room}
use Rattle.waitfor_check.specs.declared.walk.Walked.{Walked}
use Rattle.waitfor_check.specs.declared.walk.Walked.TheVariants.{All as AllMembers, Missing}

-- the numbers chosen so far, and then one of each list
abbrev pub completions : List ℕ → List (List ℕ) → List (List ℕ)
completions chosen [] = chosen ∷ []
completions chosen (xs ∷ rest) = flat_map (λ x. completions (chosen ++ x ∷ []) rest) xs

-- no number stands twice
abbrev pub Differ : {X : Type 0} → List X → Type 0
Differ [] = Unit {0}
Differ (x ∷ xs) = (Contains xs x → ⊥) × Differ xs

abbrev pub EachDiffer : List (List ℕ) → Type 0
EachDiffer [] = Unit {0}
EachDiffer (xs ∷ rest) = Differ xs × EachDiffer rest

-- members rise, as lists
abbrev pub AreSorted : List (List ℕ) → Type 0
AreSorted members = IsSorted (slice_cmp nat_cmp) members

-- all of the choices are members, and so many
pub record AreMembers (members choices : List (List ℕ)) (count : ℕ) : Type 0 where
  pub all : (i : ℕ) → i < length choices → Contains members (slice_index_or choices i [])
  pub count_is : count ≡ length choices

abbrev pub IsWalked : List (List ℕ) → List (List ℕ) → Walked → Type 0
IsWalked members choices (AllMembers count) = AreMembers members choices count
IsWalked members choices (Missing at) = IsFirstMissing members choices at

-- there are no more than members
abbrev pub IsBounded : List (List ℕ) → Walked → Type 0
IsBounded members (AllMembers count) = count ≤ length members
IsBounded members (Missing at) = at ≤ length members

-- a list and a number for each leaf
abbrev pub HasRoom : ℕ → Room → Type 0
HasRoom leaves room = (length room.lists.items ≡ leaves) × (length room.target.items ≡ leaves)

abbrev pub IsAtMost : ℕ → Walked → Type 0
IsAtMost n (AllMembers count) = count ≤ n
IsAtMost n (Missing at) = at ≤ n

abbrev pub IsAll : Walked → Type 0
IsAll (AllMembers count) = Unit {0}
IsAll (Missing at) = ⊥
