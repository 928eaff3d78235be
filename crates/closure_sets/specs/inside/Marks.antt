-- What is noted of a label once, for all rows of an expansion.
use Rattle.std.specs.Prelude.{ℕ, ◌≡◌, ◌<◌, Bool, true, false, not, Option, Some, None, List, length, slice_index_or}
use Rattle.ctl_form.specs.declared.part.Part.{Part}
use Rattle.ctl_form.specs.declared.part.Part.TheVariants.{Yes, No, Lit, Both, Either, Next, Until}
use Rattle.closure_sets.specs.ClosureParts.{ClosureParts, count}
use Rattle.closure_sets.specs.Label.{form_of, is_local, value, value_of_two, and_of, or_of, wrong_of}
use Rattle.closure_sets.specs.Row.{Members}

abbrev pub value_at : List (Option Bool) → ℕ → Option Bool
value_at values i = slice_index_or values i None

-- the value of a part by those of the members below it
abbrev pub part_value : ℕ × ℕ → List (Option Bool) → Part → Option Bool
part_value label values Yes = Some true
part_value label values No = Some false
part_value label values (Lit side local true) = Some (is_local label side local)
part_value label values (Lit side local false) = Some (not (is_local label side local))
part_value label values (Both f g) = value_of_two and_of (value_at values f) (value_at values g)
part_value label values (Either f g) = value_of_two or_of (value_at values f) (value_at values g)
part_value label values (Next all side f) = None
part_value label values (Until all weak f g) = None

-- the first members' values
pub record AreValues (c : ClosureParts) (label : ℕ × ℕ) (n : ℕ) (values : List (Option Bool)) : Type 0 where
  pub long : length values ≡ n
  pub each : (i : ℕ) → i < n → value_at values i ≡ value label (form_of c i)

-- the members whose parts are wrong
abbrev pub AreWrong : ClosureParts → ℕ × ℕ → Members → Type 0
AreWrong c label wrong = (i : ℕ) → i < count c → wrong i ≡ wrong_of c label i

pub record AreMarks (c : ClosureParts) (label : ℕ × ℕ) (values : List (Option Bool)) (wrong : Members) : Type 0 where
  pub valued : AreValues c label (count c) values
  pub wrongs : AreWrong c label wrong
