-- Laws of truth. All but the first speak of a structure that goes on: its moves lead to states, and each state has one.
use Rattle.std.specs.Prelude.{ℕ, ◌⊎◌, ◌<◌, ◌↔◌, Bool, true, false, length}
use Rattle.pair_structure.specs.Structure.{Structure, Reaches, GoesOn}
use Rattle.ctl_form.specs.Form.{Form, always, sometime, until}
use Rattle.ctl_form.specs.Truth.{Holds}
use Rattle.ctl_form.specs.Rounds.{AfterMove}
use Rattle.ctl_form.specs.Normal.{normal, Says}

-- What always holds, holds now, and always holds after each move.
abbrev pub AlwaysGoesOn : Type 0
AlwaysGoesOn = (m : Structure) (f : Form) (s : ℕ) → Holds m (always true f) s → Holds m f s × ((t : ℕ) → Reaches m s t → Holds m (always true f) t)

-- Truth is decided: at each state a formula holds, or it does not.
abbrev pub TruthIsDecided : Type 0
TruthIsDecided = (m : Structure) → GoesOn m → (f : Form) (s : ℕ) → s < length m.states → Holds m f s ⊎ (Holds m f s → ⊥)

-- The normal form means the formula; at false it means the negation.
abbrev pub NormalMeans : Type 0
NormalMeans = (m : Structure) → GoesOn m → (b : Bool) (f : Form) (s : ℕ) → s < length m.states → Holds m (normal b f) s ↔ Says b (Holds m f s)

-- Each until, of all paths or of some, strong or weak: g now, or f now and the until after each move, or after some.
abbrev pub UntilExpands : Type 0
UntilExpands = (m : Structure) → GoesOn m → (all weak : Bool) (f g : Form) (s : ℕ) → s < length m.states
    → Holds m (until all weak f g) s ↔ (Holds m g s ⊎ (Holds m f s × AfterMove m all (Holds m (until all weak f g)) s))

-- E[f U g]
abbrev pub SomeUntilExpands : Type 0
SomeUntilExpands = (m : Structure) → GoesOn m → (f g : Form) (s : ℕ) → s < length m.states
    → Holds m (until false false f g) s ↔ (Holds m g s ⊎ (Holds m f s × ((t : ℕ) × Reaches m s t × Holds m (until false false f g) t)))

-- A[f U g]
abbrev pub EachUntilExpands : Type 0
EachUntilExpands = (m : Structure) → GoesOn m → (f g : Form) (s : ℕ) → s < length m.states
    → Holds m (until true false f g) s ↔ (Holds m g s ⊎ (Holds m f s × ((t : ℕ) → Reaches m s t → Holds m (until true false f g) t)))

-- E[f W g]
abbrev pub SomeUnlessExpands : Type 0
SomeUnlessExpands = (m : Structure) → GoesOn m → (f g : Form) (s : ℕ) → s < length m.states
    → Holds m (until false true f g) s ↔ (Holds m g s ⊎ (Holds m f s × ((t : ℕ) × Reaches m s t × Holds m (until false true f g) t)))

-- A[f W g]
abbrev pub EachUnlessExpands : Type 0
EachUnlessExpands = (m : Structure) → GoesOn m → (f g : Form) (s : ℕ) → s < length m.states
    → Holds m (until true true f g) s ↔ (Holds m g s ⊎ (Holds m f s × ((t : ℕ) → Reaches m s t → Holds m (until true true f g) t)))

-- AG f and EG f: f now, and the same after each move, or after some.
abbrev pub AlwaysExpands : Type 0
AlwaysExpands = (m : Structure) → GoesOn m → (all : Bool) (f : Form) (s : ℕ) → s < length m.states
    → Holds m (always all f) s ↔ (Holds m f s × AfterMove m all (Holds m (always all f)) s)

-- AF f and EF f: f now, or the same after each move, or after some.
abbrev pub SometimeExpands : Type 0
SometimeExpands = (m : Structure) → GoesOn m → (all : Bool) (f : Form) (s : ℕ) → s < length m.states
    → Holds m (sometime all f) s ↔ (Holds m f s ⊎ AfterMove m all (Holds m (sometime all f)) s)
