-- The closure of formulas in normal form: the smallest set that holds them, four formulas that each closure has, and what each member brings.
use Rattle.std.specs.Prelude.{ℕ, ◌≡◌, ◌<◌, false, Some, List, [], ◌∷◌, length, Contains}
use Rattle.pair_structure.specs.declared.side.Side.TheVariants.{A, B}
use Rattle.ctl_form.specs.Form.{Form, truth, falsity, at, neg, both, either, implies, next, always, sometime, until}
use Rattle.ctl_form.specs.Members.{form_at}

-- the members that each closure has: true, false, EXa true and EXb true
abbrev pub opening : List Form
opening = truth ∷ falsity ∷ next false (Some A) truth ∷ next false (Some B) truth ∷ []

-- a member's parts, of which a literal has none; and of an until its next-times, AXa and AXb of an A until, EXa and EXb of an E until
abbrev pub brings : Form → List Form
brings truth = []
brings falsity = []
brings (at side local) = []
brings (neg f) = []
brings (both f g) = f ∷ g ∷ []
brings (either f g) = f ∷ g ∷ []
brings (implies f g) = []
brings (next all side f) = f ∷ []
brings (always all f) = []
brings (sometime all f) = []
brings (until all weak f g) = f ∷ g ∷ next all (Some A) (until all weak f g) ∷ next all (Some B) (until all weak f g) ∷ []

-- each formula of the first list is in the second
abbrev pub AreWithin : List Form → List Form → Type 0
AreWithin fs forms = (f : Form) → Contains fs f → Contains forms f

-- with each formula what it brings
abbrev pub IsGrown : List Form → Type 0
IsGrown forms = (f : Form) → Contains forms f → AreWithin (brings f) forms

pub record IsClosed (roots forms : List Form) : Type 0 where
  pub opens : AreWithin opening forms
  pub rooted : AreWithin roots forms
  pub grown : IsGrown forms

-- closed, within each closed list, and without repeats
pub record IsClosure (roots forms : List Form) : Type 0 where
  pub closed : IsClosed roots forms
  pub least : (others : List Form) → IsClosed roots others → AreWithin forms others
  pub distinct : (i j : ℕ) → i < j → j < length forms → form_at forms i ≡ form_at forms j → ⊥
