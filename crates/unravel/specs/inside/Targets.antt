-- What pends of the strong untils that take turns.
use Rattle.std.specs.Prelude.{ℕ, ◌≡◌, ◌<◌, ◌≤◌, ◌&&◌, Bool, true, false, not, Option, Some, None, List, length, max}
use Rattle.ctl_form.specs.declared.limits.TheConstants.{MAX_MEMBERS}
use Rattle.closure_sets.specs.Row.{Members}
use Rattle.deletion_rules.specs.Targets.{target_in}
use Rattle.deletion_rules.specs.declared.target.Target.{Target}

-- its members are among those that a row can have
abbrev pub IsSmall : Target → Type 0
IsSmall t = (t.member < MAX_MEMBERS) × (t.g < MAX_MEMBERS)

-- whether the row has the target and not its part g
abbrev pub pends : Members → Target → Bool
pends row t = row t.member && not (row t.g)

-- whether the target at this place pends
abbrev pub pends_at : Members → List Target → ℕ → Bool
pends_at row targets y = pends row (target_in targets y)

-- how many places a round has: one at least
abbrev pub places : List Target → ℕ
places targets = max 1 (length targets)

-- the first place from 'from' on, below 'to', whose target pends; or none there does
abbrev pub IsFirstPending : Members → List Target → ℕ → ℕ → Option ℕ → Type 0
IsFirstPending row targets from to (Some y) = (from ≤ y) × (y < to) × (pends_at row targets y ≡ true) × ((z : ℕ) → from ≤ z → z < y → pends_at row targets z ≡ false)
IsFirstPending row targets from to None = (z : ℕ) → from ≤ z → z < to → pends_at row targets z ≡ false
