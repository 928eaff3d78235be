-- What a label tells of a closure's members without looking at moves.
use Rattle.std.specs.Prelude.{ℕ, Bool, true, false, ◌||◌, ◌&&◌, not, Option, Some, None, eqb}
use Rattle.pair_structure.specs.declared.side.Side.{Side}
use Rattle.pair_structure.specs.declared.side.Side.TheVariants.{A, B}
use Rattle.ctl_form.specs.Form.{Form, truth, falsity, at, neg, both, either, implies, next, always, sometime, until}
use Rattle.ctl_form.specs.Members.{part_at, form_at, forms_of}
use Rattle.ctl_form.specs.declared.part.Part.{Part}
use Rattle.ctl_form.specs.declared.part.Part.TheVariants.{Yes, No, Lit, Both, Either, Next, Until}
use Rattle.closure_sets.specs.ClosureParts.{ClosureParts}

-- the part of member i, and its formula
abbrev pub part_of : ClosureParts → ℕ → Part
part_of c i = part_at c.parts i

abbrev pub form_of : ClosureParts → ℕ → Form
form_of c i = form_at (forms_of c.parts) i

-- whether this side is in this local state by the label
abbrev pub is_local : ℕ × ℕ → Side → ℕ → Bool
is_local label A local = eqb label.0 local
is_local label B local = eqb label.1 local

abbrev pub not_value : Option Bool → Option Bool
not_value (Some x) = Some (not x)
not_value None = None

-- a value of two values, where there are both
abbrev pub value_of_two : (Bool → Bool → Bool) → Option Bool → Option Bool → Option Bool
value_of_two op (Some x) (Some y) = Some (op x y)
value_of_two op (Some x) None = None
value_of_two op None y = None

abbrev pub and_of : Bool → Bool → Bool
and_of x y = x && y

abbrev pub or_of : Bool → Bool → Bool
or_of x y = x || y

-- the truth value of a propositional formula by the label, one of constants, literals, 'both' and 'either' alone; no value of any other
abbrev pub value : ℕ × ℕ → Form → Option Bool
value label truth = Some true
value label falsity = Some false
value label (at side local) = Some (is_local label side local)
value label (neg f) = not_value (value label f)
value label (both f g) = value_of_two and_of (value label f) (value label g)
value label (either f g) = value_of_two or_of (value label f) (value label g)
value label (implies f g) = None
value label (next all side f) = None
value label (always all f) = None
value label (sometime all f) = None
value label (until all weak f g) = None

abbrev pub is_yes : Option Bool → Bool
is_yes (Some x) = x
is_yes None = false

-- a propositional member that the label makes true
abbrev pub is_plain : ClosureParts → ℕ × ℕ → ℕ → Bool
is_plain c label i = is_yes (value label (form_of c i))

-- 'false', or a literal that the label makes false
abbrev pub is_wrong : ℕ × ℕ → Part → Bool
is_wrong label No = true
is_wrong label (Lit side local true) = not (is_local label side local)
is_wrong label (Lit side local false) = is_local label side local
is_wrong label Yes = false
is_wrong label (Both f g) = false
is_wrong label (Either f g) = false
is_wrong label (Next all side f) = false
is_wrong label (Until all weak f g) = false

abbrev pub wrong_of : ClosureParts → ℕ × ℕ → ℕ → Bool
wrong_of c label i = is_wrong label (part_of c i)
