-- The strong untils of a closure.
use Rattle.std.specs.Prelude.{ℕ, ◌≡◌, ◌<◌, Bool, false, Option, Some, None, List, length, All, slice_index_or}
use Rattle.ctl_form.specs.declared.part.Part.{Part}
use Rattle.ctl_form.specs.declared.part.Part.TheVariants.{Until}
use Rattle.closure_sets.specs.ClosureParts.{ClosureParts, count}
use Rattle.closure_sets.specs.Label.{part_of}
use Rattle.deletion_rules.specs.declared.target.Target.{Target}

-- the target is a strong until of the closure, with its parts
pub record IsTarget (c : ClosureParts) (t : Target) : Type 0 where
  pub part : part_of c t.member ≡ Until t.all false t.f t.g
  pub member : t.member < count c
  pub f : t.f < count c
  pub g : t.g < count c

abbrev pub target_with : Bool → ℕ → ℕ → ℕ → Target
target_with all u f g = record { all = all; member = u; f = f; g = g }

abbrev pub no_target : Target
no_target = record { all = false; member = 0; f = 0; g = 0 }

abbrev pub target_in : List Target → ℕ → Target
target_in targets y = slice_index_or targets y no_target

-- some target is member u
abbrev pub HasTarget : List Target → ℕ → Type 0
HasTarget targets u = (y : ℕ) × (y < length targets) × ((target_in targets y).member ≡ u)

-- the strong untils below n, and nothing else
pub record AreTargets (c : ClosureParts) (n : ℕ) (targets : List Target) : Type 0 where
  pub each : All (IsTarget c) targets
  pub all : (u f g : ℕ) (all : Bool) → u < n → part_of c u ≡ Until all false f g → HasTarget targets u

-- the target that a member's part makes it, if it is a strong until
abbrev pub IsTargetOf : Part → ℕ → Option Target → Type 0
IsTargetOf part u (Some t) = (t.member ≡ u) × (part ≡ Until t.all false t.f t.g)
IsTargetOf part u None = (all : Bool) (f g : ℕ) → part ≡ Until all false f g → ⊥
