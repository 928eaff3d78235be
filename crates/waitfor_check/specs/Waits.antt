-- The first centre step of a star after which some leaf waits and the centre cannot go.
use Rattle.std.specs.Prelude.{ℕ, ◌<◌, Option, Some, None, List, [], length, slice_index_or}
use Rattle.interconnection.specs.Shape.{ShapeParts}
use Rattle.conjunctive_compose.specs.System.{SystemParts}
use Rattle.waitfor_check.specs.declared.step_place.StepPlace.{StepPlace}
use Rattle.waitfor_check.specs.Accepted.{IsCalmAt}
use Rattle.waitfor_check.specs.declared.star.Star.{Star}
use Rattle.waitfor_check.specs.Steps.{centre_steps}

-- they stand first among the member's steps, each at the same place
abbrev pub centre_steps_at : SystemParts → Star → ℕ → List (List ℕ)
centre_steps_at sys star member = centre_steps sys star.shape (slice_index_or star.members member [])

-- every centre step of this member is calm
abbrev pub StaysCalm : SystemParts → Star → ℕ → Type 0
StaysCalm sys star member = (n : ℕ) → n < length (centre_steps_at sys star member) → IsCalmAt sys star.shape (slice_index_or (centre_steps_at sys star member) n [])

-- the step at this place is the first that is not
pub record IsFirstWaiting (sys : SystemParts) (shape : ShapeParts) (steps : List (List ℕ)) (at : ℕ) : Type 0 where
  pub within : at < length steps
  pub waits : IsCalmAt sys shape (slice_index_or steps at []) → ⊥
  pub first : (i : ℕ) → i < at → IsCalmAt sys shape (slice_index_or steps i [])

-- the first member with such a step, and the first of these; without one, every centre step of each member is calm
abbrev pub IsFirstWait : SystemParts → Star → Option StepPlace → Type 0
IsFirstWait sys star None = (member : ℕ) → member < length star.members → StaysCalm sys star member
IsFirstWait sys star (Some at) = (at.member < length star.members) × IsFirstWaiting sys star.shape (centre_steps_at sys star at.member) at.step × ((member : ℕ) → member < at.member → StaysCalm sys star member)
