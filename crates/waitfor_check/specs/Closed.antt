-- The first step of a star that reaches no member.
use Rattle.std.specs.Prelude.{ℕ, ◌<◌, Option, Some, None, List, [], length, Contains, slice_index_or}
use Rattle.conjunctive_compose.specs.System.{SystemParts}
use Rattle.waitfor_check.specs.declared.step_place.StepPlace.{StepPlace}
use Rattle.waitfor_check.specs.declared.star.Star.{Star}
use Rattle.waitfor_check.specs.Steps.{steps}

-- the step at this place is the first that is no member
pub record IsFirstMissing (members steps : List (List ℕ)) (at : ℕ) : Type 0 where
  pub within : at < length steps
  pub missing : Contains members (slice_index_or steps at []) → ⊥
  pub first : (i : ℕ) → i < at → Contains members (slice_index_or steps i [])

-- the steps of this member
abbrev pub steps_at : SystemParts → Star → ℕ → List (List ℕ)
steps_at sys star member = steps sys star.shape (slice_index_or star.members member [])

-- every step of this member reaches a member
abbrev pub StepsStay : SystemParts → Star → ℕ → Type 0
StepsStay sys star member = (n : ℕ) → n < length (steps_at sys star member) → Contains star.members (slice_index_or (steps_at sys star member) n [])

-- the first member with a step that does not, and the first such step; without one, every step of each member does
abbrev pub IsFirstUnclosed : SystemParts → Star → Option StepPlace → Type 0
IsFirstUnclosed sys star None = (member : ℕ) → member < length star.members → StepsStay sys star member
IsFirstUnclosed sys star (Some at) = (at.member < length star.members) × IsFirstMissing star.members (steps_at sys star at.member) at.step × ((member : ℕ) → member < at.member → StepsStay sys star member)
