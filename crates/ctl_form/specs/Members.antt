-- Formulas in normal form by number, each given by its parts, which are members too.
use Rattle.std.specs.Prelude.{ℕ, ◌<◌, Bool, true, false, Some, List, [], ◌∷◌, ◌++◌, slice_index_or}
use Rattle.pair_structure.specs.declared.side.Side.{Side}
use Rattle.ctl_form.specs.Form.{Form, truth, falsity, at, neg, both, either, next, until}
use Rattle.ctl_form.specs.declared.part.Part.{Part}
use Rattle.ctl_form.specs.declared.part.Part.TheVariants.{Yes, No, Lit, Both, Either, Next, Until}

-- the part of member n
abbrev pub part_at : List Part → ℕ → Part
part_at parts n = slice_index_or parts n Yes

-- the formula of member n
abbrev pub form_at : List Form → ℕ → Form
form_at forms n = slice_index_or forms n truth

abbrev pub literal : Bool → Side → ℕ → Form
literal true side local = at side local
literal false side local = neg (at side local)

-- the formula of a part, by those of the members
abbrev pub form_of_part : List Form → Part → Form
form_of_part forms Yes = truth
form_of_part forms No = falsity
form_of_part forms (Lit side local is) = literal is side local
form_of_part forms (Both f g) = both (form_at forms f) (form_at forms g)
form_of_part forms (Either f g) = either (form_at forms f) (form_at forms g)
form_of_part forms (Next all side f) = next all (Some side) (form_at forms f)
form_of_part forms (Until all weak f g) = until all weak (form_at forms f) (form_at forms g)

-- the formulas known so far, then those of these parts, each over all before it
abbrev pub forms_from : List Form → List Part → List Form
forms_from forms [] = forms
forms_from forms (p ∷ ps) = forms_from (forms ++ form_of_part forms p ∷ []) ps

-- the members' formulas
abbrev pub forms_of : List Part → List Form
forms_of parts = forms_from [] parts

-- the members that a part names are below n
abbrev pub IsBelow : ℕ → Part → Type 0
IsBelow n Yes = Unit {0}
IsBelow n No = Unit {0}
IsBelow n (Lit side local is) = Unit {0}
IsBelow n (Both f g) = (f < n) × (g < n)
IsBelow n (Either f g) = (f < n) × (g < n)
IsBelow n (Next all side f) = f < n
IsBelow n (Until all weak f g) = (f < n) × (g < n)
