-- Fully expanded rows.
use Rattle.std.specs.Prelude.{ℕ, ◌≡◌, ◌⊎◌, ◌<◌, true, false, List, [], ◌∷◌}
use Rattle.pair_structure.specs.declared.side.Side.TheVariants.{A, B}
use Rattle.ctl_form.specs.declared.part.Part.{Part}
use Rattle.ctl_form.specs.declared.part.Part.TheVariants.{Yes, No, Lit, Both, Either, Next, Until}
use Rattle.closure_sets.specs.ClosureParts.{ClosureParts, count, after, some_move}
use Rattle.closure_sets.specs.Label.{part_of, wrong_of}
use Rattle.closure_sets.specs.Row.{Members}

abbrev pub Has : Members → ℕ → Type 0
Has row i = row i ≡ true

-- how a row meets one of its members
abbrev pub MeetsPart : ClosureParts → Members → ℕ → Part → Type 0
MeetsPart c row i (Both f g) = Has row f × Has row g
MeetsPart c row i (Either f g) = Has row f ⊎ Has row g
MeetsPart c row i (Until true weak f g) = Has row g ⊎ (Has row f × Has row (after c A i) × Has row (after c B i))
MeetsPart c row i (Until false weak f g) = Has row g ⊎ (Has row f × (Has row (after c A i) ⊎ Has row (after c B i)))
MeetsPart c row i Yes = Unit {0}
MeetsPart c row i No = Unit {0}
MeetsPart c row i (Lit side local is) = Unit {0}
MeetsPart c row i (Next all side f) = Unit {0}

-- each member is met, and some side moves
pub record IsFull (c : ClosureParts) (row : Members) : Type 0 where
  pub meets : (i : ℕ) → i < count c → Has row i → MeetsPart c row i (part_of c i)
  pub onward : Has row (some_move c A) ⊎ Has row (some_move c B)

-- each of the rows, and some of the rows
abbrev pub EachRow : (Members → Type 0) → List Members → Type 0
EachRow X [] = Unit {0}
EachRow X (r ∷ rs) = X r × EachRow X rs

abbrev pub Among : (Members → Type 0) → List Members → Type 0
Among X [] = ⊥
Among X (r ∷ rs) = X r ⊎ Among X rs

-- a row has its seed, is fully expanded, and has neither 'false' nor a literal that the label makes false
pub record IsExpansion (c : ClosureParts) (label : ℕ × ℕ) (seed row : Members) : Type 0 where
  pub seeded : (i : ℕ) → Has seed i → Has row i
  pub full : IsFull c row
  pub literals : (i : ℕ) → i < count c → Has row i → wrong_of c label i ≡ false
