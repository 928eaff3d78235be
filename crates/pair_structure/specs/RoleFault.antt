-- Why some parts are no role, and which of the faults is the first.
use Rattle.std.specs.Prelude.{ℕ, ◌≡◌, ◌<◌, ◌≤◌, ◌⊎◌, List, [], length, Any, take, slice_index_or}
use Rattle.pair_structure.specs.declared.side.LocalArc.{LocalArc}
use Rattle.pair_structure.specs.declared.role_fault.RoleFault.{RoleFault}
use Rattle.pair_structure.specs.declared.role_fault.RoleFault.TheVariants.{NoLocal, TooManyLocals, LocalTwice, NoStart, StartRange, StartTwice, TooManyArcs, ArcRange, SelfArc, ArcTwice, NoArc}
use Rattle.pair_structure.specs.First.{IsFirst}
use Rattle.pair_structure.specs.declared.limits.TheConstants.{MAX_ARCS, MAX_LOCALS}
use Rattle.pair_structure.specs.Role.{HasArc, HasArcFrom, start_at}
pub use Rattle.pair_structure.specs.Parts.{arc_at}

-- a local state before this one has its name
abbrev pub HasEarlierName : List (List ℕ) → ℕ → Type 0
HasEarlierName locals local = Any (λ name. name ≡ slice_index_or locals local []) (take local locals)

-- some start is none of so many local states
abbrev pub StartsOutside : ℕ → List ℕ → Type 0
StartsOutside count starts = Any (λ start. count ≤ start) starts

-- a start before this place is the same
abbrev pub HasEarlierStart : List ℕ → ℕ → Type 0
HasEarlierStart starts place = Any (λ start. start ≡ start_at starts place) (take place starts)

-- an end of the arc is none of so many local states
abbrev pub EndsOutside : ℕ → List LocalArc → ℕ → Type 0
EndsOutside count arcs arc = (count ≤ (arc_at arcs arc).from) ⊎ (count ≤ (arc_at arcs arc).to)

-- the arc ends where it begins
abbrev pub JoinsItself : List LocalArc → ℕ → Type 0
JoinsItself arcs arc = (arc_at arcs arc).from ≡ (arc_at arcs arc).to

-- an arc before this one has its two ends
abbrev pub HasEarlierEnds : List LocalArc → ℕ → Type 0
HasEarlierEnds arcs arc = HasArc (take arc arcs) (arc_at arcs arc).from (arc_at arcs arc).to

-- no arc leaves the local state
abbrev pub IsNeverLeft : List LocalArc → ℕ → Type 0
IsNeverLeft arcs local = HasArcFrom arcs local → ⊥

-- the fault stands against these parts, at this place
abbrev pub Stands : List (List ℕ) → List ℕ → List LocalArc → RoleFault → Type 0
Stands locals starts arcs NoLocal = length locals ≡ 0
Stands locals starts arcs TooManyLocals = MAX_LOCALS < length locals
Stands locals starts arcs (LocalTwice local) = (local < length locals) × HasEarlierName locals local
Stands locals starts arcs NoStart = length starts ≡ 0
Stands locals starts arcs StartRange = StartsOutside (length locals) starts
Stands locals starts arcs (StartTwice place) = (place < length starts) × HasEarlierStart starts place
Stands locals starts arcs TooManyArcs = MAX_ARCS < length arcs
Stands locals starts arcs (ArcRange arc) = (arc < length arcs) × EndsOutside (length locals) arcs arc
Stands locals starts arcs (SelfArc arc) = (arc < length arcs) × JoinsItself arcs arc
Stands locals starts arcs (ArcTwice arc) = (arc < length arcs) × HasEarlierEnds arcs arc
Stands locals starts arcs (NoArc local) = (local < length locals) × IsNeverLeft arcs local

-- the order of the kinds
abbrev pub kind_of : RoleFault → ℕ
kind_of NoLocal = 1
kind_of TooManyLocals = 2
kind_of (LocalTwice local) = 3
kind_of NoStart = 4
kind_of StartRange = 5
kind_of (StartTwice place) = 6
kind_of TooManyArcs = 7
kind_of (ArcRange arc) = 8
kind_of (SelfArc arc) = 9
kind_of (ArcTwice arc) = 10
kind_of (NoArc local) = 11

-- of one kind the lowest number is the first
abbrev pub place_of : RoleFault → ℕ
place_of NoLocal = 0
place_of TooManyLocals = 0
place_of (LocalTwice local) = local
place_of NoStart = 0
place_of StartRange = 0
place_of (StartTwice place) = place
place_of TooManyArcs = 0
place_of (ArcRange arc) = arc
place_of (SelfArc arc) = arc
place_of (ArcTwice arc) = arc
place_of (NoArc local) = local

abbrev pub IsFirstRoleFault : List (List ℕ) → List ℕ → List LocalArc → RoleFault → Type 0
IsFirstRoleFault locals starts arcs = IsFirst kind_of place_of (Stands locals starts arcs)

-- no fault of an earlier kind than this one stands
abbrev pub NoneBefore : List (List ℕ) → List ℕ → List LocalArc → RoleFault → Type 0
NoneBefore locals starts arcs fault = (other : RoleFault) → kind_of other < kind_of fault → Stands locals starts arcs other → ⊥
