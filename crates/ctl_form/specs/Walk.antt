-- The order in which the members of a closure are numbered: formulas are walked one after another.
use Rattle.std.specs.Prelude.{◌≡◌, Bool, cond, Some, List, [], ◌∷◌, ◌++◌, nat_eq, Contains}
use Rattle.std.specs.Cmp.Lexicographic.{pointwise}
use Rattle.std.specs.Set.{is_member}
use Rattle.pair_structure.specs.declared.side.Side.TheVariants.{A, B}
use Rattle.ctl_form.specs.Closure.{opening, IsGrown}
use Rattle.ctl_form.specs.Code.{numbers}
use Rattle.ctl_form.specs.Form.{Form, truth, falsity, at, neg, both, either, implies, next, always, sometime, until}

-- two trees are equal, told by their numbers
abbrev pub same_form : Form → Form → Bool
same_form f g = pointwise nat_eq (numbers f) (numbers g)

abbrev pub has_form : List Form → Form → Bool
has_form forms f = is_member same_form forms f

-- a formula that has no number yet gets the next one
unfoldable pub noted : Form → List Form → List Form
noted f forms = cond (has_form forms f) forms (forms ++ f ∷ [])

-- an until, and then its next-times
abbrev pub noted_until : Bool → Form → List Form → List Form
noted_until all u forms = noted (next all (Some B) u) (noted (next all (Some A) u) (noted u forms))

-- a formula's parts are walked in order, then it gets its number, and then an until's next-times get theirs; where the formula has a
-- number, so has all of this, and nothing happens
abbrev pub walk : Form → List Form → List Form
walk truth forms = noted truth forms
walk falsity forms = noted falsity forms
walk (at side local) forms = noted (at side local) forms
walk (neg f) forms = noted (neg f) forms
walk (both f g) forms = noted (both f g) (walk g (walk f forms))
walk (either f g) forms = noted (either f g) (walk g (walk f forms))
walk (implies f g) forms = noted (implies f g) forms
walk (next all side f) forms = noted (next all side f) (walk f forms)
walk (always all f) forms = noted (always all f) forms
walk (sometime all f) forms = noted (sometime all f) forms
walk (until all weak f g) forms = noted_until all (until all weak f g) (walk g (walk f forms))

abbrev pub walk_all : List Form → List Form → List Form
walk_all [] forms = forms
walk_all (f ∷ fs) forms = walk_all fs (walk f forms)

-- the members in the order of their numbers
abbrev pub members_of : List Form → List Form
members_of roots = walk_all roots opening

-- Where a list has with each formula what it brings, a walk of a formula that it has does nothing.
abbrev pub WalkOfKnownDoesNothing : Type 0
WalkOfKnownDoesNothing = (f : Form) (forms : List Form) → IsGrown forms → Contains forms f → walk f forms ≡ forms
