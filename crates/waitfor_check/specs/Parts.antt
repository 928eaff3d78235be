-- The parts of a check of a certificate, over all processes and over all stars.
use Rattle.std.specs.Prelude.{ℕ, ◌<◌, Option, Some, None, List, [], length, slice_index_or}
use Rattle.interconnection.specs.Graph.{degree_of}
use Rattle.interconnection.specs.Shape.{IsShapeOf, ShapeParts}
use Rattle.conjunctive_compose.specs.System.{SystemParts}
use Rattle.waitfor_check.specs.declared.step_place.StepPlace.{StepPlace}
use Rattle.waitfor_check.specs.declared.parts.StarPlace.{StarPlace}
use Rattle.waitfor_check.specs.Accepted.{HasShape}
use Rattle.waitfor_check.specs.declared.star.Star.{Star}

abbrev pub no_star : Star
no_star = record { shape = record { role = 0; leaves = [] }; members = [] }

abbrev pub star_at : List Star → ℕ → Star
star_at stars star = slice_index_or stars star no_star

-- each shape of a process that has a neighbour is in the certificate
abbrev pub HasShapesOf : SystemParts → List Star → ℕ → Type 0
HasShapesOf sys stars k = 0 < degree_of sys.network.edges k → (shape : ShapeParts) → IsShapeOf sys.network k shape → HasShape stars shape

-- the first star of which Finds tells a place, and that place
abbrev pub IsFirstOf : (Star → Option StepPlace → Type 0) → List Star → Option StarPlace → Type 0
IsFirstOf Finds stars None = (star : ℕ) → star < length stars → Finds (star_at stars star) None
IsFirstOf Finds stars (Some at) = (at.star < length stars) × Finds (star_at stars at.star) (Some at.place) × ((star : ℕ) → star < at.star → Finds (star_at stars star) None)
