-- The first of several faults: they come by their kind, and of one kind by their place.
use Rattle.std.specs.Prelude.{ℕ, ◌≡◌, ◌<◌, ◌≤◌, ◌⊎◌}

-- a fault of this kind and place comes before the other, or is level with it
abbrev pub ComesFirst : ℕ → ℕ → ℕ → ℕ → Type 0
ComesFirst kind place kind' place' = (kind < kind') ⊎ ((kind ≡ kind') × (place ≤ place'))

-- the fault stands, and comes before each other that stands
pub record IsFirst {Fault : Type 0} (kind_of place_of : Fault → ℕ) (Stands : Fault → Type 0) (fault : Fault) : Type 0 where
  pub stands : Stands fault
  pub first : (other : Fault) → Stands other → ComesFirst (kind_of fault) (place_of fault) (kind_of other) (place_of other)
