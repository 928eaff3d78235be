-- No run ends where nobody may go on.
use Rattle.std.specs.Prelude.{ℕ, ◌<◌, ◌↔◌, List, length, Contains}
use Rattle.conjunctive_compose.specs.declared.wish.Wish.{Wish}
use Rattle.conjunctive_compose.specs.System.{SystemParts, IsSystem, process_count}
use Rattle.conjunctive_compose.specs.Whole.{WholeParts, start_of}
use Rattle.conjunctive_compose.specs.Run.{IsRun, whole_after}
use Rattle.conjunctive_compose.specs.Peel.{HasPeelOrder, IsEnabled}
use Rattle.interconnection.specs.Shape.{ShapeParts}
use Rattle.waitfor_check.specs.Star.{IsStarState, IsStep}
use Rattle.waitfor_check.specs.declared.star.Star.{Star}
use Rattle.waitfor_check.specs.Steps.{steps}
use Rattle.waitfor_check.specs.Accepted.{IsAccepted}

-- a whole state has a peel order, and so enables some process, if there is one
pub record GoesOn (sys : SystemParts) (w : WholeParts) : Type 0 where
  pub peel : HasPeelOrder sys w
  pub enables : 0 < process_count sys → (k : ℕ) × (k < process_count sys) × IsEnabled sys w k

-- with an accepted certificate every run ends in a state that goes on
abbrev pub AcceptedGoesOn : Type 0
AcceptedGoesOn = (sys : SystemParts) (stars : List Star) (wishes : List Wish) → IsSystem sys → IsAccepted sys stars → IsRun sys (start_of sys) wishes → GoesOn sys (whole_after sys (start_of sys) wishes)

-- the list of a star state's steps has exactly the steps of the centre and of the leaves
abbrev pub StepsAre : Type 0
StepsAre = (sys : SystemParts) (shape : ShapeParts) (xs ys : List ℕ) → 0 < length shape.leaves → IsStarState sys shape xs → Contains (steps sys shape xs) ys ↔ IsStep sys shape xs ys
