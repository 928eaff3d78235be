-- The first of several faults, found kind by kind and of one kind by rising place.
use Rattle.std.proofs.Common.{ℕ, ◌≡◌, ◌<◌, inl, inr, arith}
use Rattle.std.proofs.lemmas.Bool.{cases_order, cases_lt}
use Rattle.pair_structure.specs.First.{ComesFirst, IsFirst}

-- a fault that stands is the first where none of an earlier kind stands, and none of its kind at a lower place
pub IsFirst-from_order : {Fault : Type 0} (kind_of place_of : Fault → ℕ) (Stands : Fault → Type 0) (fault : Fault) → Stands fault → ((other : Fault) → kind_of other < kind_of fault → Stands other → ⊥) → ((other : Fault) → kind_of other ≡ kind_of fault → place_of other < place_of fault → Stands other → ⊥) → IsFirst kind_of place_of Stands fault
IsFirst-from_order {Fault} kind_of place_of Stands fault stands no_kind no_place = record { stands = stands; first = first }
  where
    level : (other : Fault) → kind_of fault ≡ kind_of other → Stands other → ComesFirst (kind_of fault) (place_of fault) (kind_of other) (place_of other)
    level other same also =
        elim (cases_lt (place_of other) (place_of fault)) [
          | inl lower ↦ absurd (no_place other (cc) lower also)
          | inr above ↦ inr (same, above)
        ]

    first : (other : Fault) → Stands other → ComesFirst (kind_of fault) (place_of fault) (kind_of other) (place_of other)
    first other also =
        elim (cases_order (kind_of fault) (kind_of other)) [
          | inl same ↦ level other same also
          | inr apart ↦ elim apart [ inl earlier ↦ inl earlier | inr later ↦ absurd (no_kind other later also) ]
        ]

-- of two that are the first, each is of the other's kind and at its place
pub IsFirst-same : {Fault : Type 0} (kind_of place_of : Fault → ℕ) (Stands : Fault → Type 0) (x y : Fault) → IsFirst kind_of place_of Stands x → IsFirst kind_of place_of Stands y → (kind_of x ≡ kind_of y) × (place_of x ≡ place_of y)
IsFirst-same {Fault} kind_of place_of Stands x y p q = level (p.first y q.stands) (q.first x p.stands)
  where
    level : ComesFirst (kind_of x) (place_of x) (kind_of y) (place_of y) → ComesFirst (kind_of y) (place_of y) (kind_of x) (place_of x) → (kind_of x ≡ kind_of y) × (place_of x ≡ place_of y)
    level (inl a) (inl b) = absurd (omega (arith, a, b))
    level (inl a) (inr b) = absurd (omega (arith, a, b.0))
    level (inr a) (inl b) = absurd (omega (arith, a.0, b))
    level (inr a) (inr b) = (a.0, omega (arith, a.1, b.1))
