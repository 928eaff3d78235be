-- The normal form of an operator by those of its parts, in the words of the code that walks formulas.
use Rattle.std.specs.Prelude.{ℕ, suc, ◌+◌, Bool, true, false, not, Option, Some, None, List, Result}
use Rattle.pair_structure.specs.declared.side.Side.{Side}
use Rattle.pair_structure.specs.declared.side.Side.TheVariants.{A, B}
use Rattle.ctl_form.specs.Form.{Form, truth, falsity, at, neg, both, either, implies, next, always, sometime, until}
use Rattle.ctl_form.specs.Members.{forms_of}
use Rattle.ctl_form.specs.MemberTable.{IsNumbered, Numbers}
use Rattle.ctl_form.specs.Walk.{noted, noted_until, walk}
use Rattle.ctl_form.specs.declared.joint.Joint.{Joint}
use Rattle.ctl_form.specs.declared.joint.Joint.TheVariants.{Both, Either, Until, Release}
use Rattle.ctl_form.specs.declared.normal_fault.NormalFault.{NormalFault}
use Rattle.ctl_form.specs.declared.part.Part.{Part}
use Rattle.ctl_form.specs.declared.part.Part.TheVariants.{Yes, No}

-- a bool of the formula itself, or of its negation
abbrev pub turned : Bool → Bool → Bool
turned true b = b
turned false b = not b

abbrev pub constant_part : Bool → Part
constant_part true = Yes
constant_part false = No

abbrev pub pair_joint : Bool → Joint
pair_joint true = Both
pair_joint false = Either

-- two formulas joined, the first walked before the second: a release is f until both g and f, the negation of an until of the negations
abbrev pub joined : Joint → Form → Form → Form
joined Both f g = both f g
joined Either f g = either f g
joined (Until all weak) f g = until all weak f g
joined (Release all weak) f g = until all weak f (both g f)

-- what is noted when both are walked
abbrev pub noted_joined : Joint → Form → Form → List Form → List Form
noted_joined Both f g forms = noted (both f g) forms
noted_joined Either f g forms = noted (either f g) forms
noted_joined (Until all weak) f g forms = noted_until all (until all weak f g) forms
noted_joined (Release all weak) f g forms = noted_until all (until all weak f (both g f)) (noted (both g f) forms)

-- the next-times of both sides, that of a first
abbrev pub noted_sides : Bool → Form → List Form → List Form
noted_sides all f forms = noted (next all (Some B) f) (noted (next all (Some A) f) forms)

-- the next-times of both sides have these numbers
pub record AreSides (all : Bool) (f : Form) (forms : List Form) (parts : List Part) (sides : ℕ × ℕ) : Type 0 where
  pub a : IsNumbered (noted_sides all f forms) (next all (Some A) f) parts sides.0
  pub b : IsNumbered (noted_sides all f forms) (next all (Some B) f) parts sides.1

-- after each move or some; of either side where none is named
abbrev pub nexts : Bool → Option Side → Form → Form
nexts all (Some side) f = next all (Some side) f
nexts all None f = joined (pair_joint all) (next all (Some A) f) (next all (Some B) f)

abbrev pub noted_nexts : Bool → Option Side → Form → List Form → List Form
noted_nexts all (Some side) f forms = noted (next all (Some side) f) forms
noted_nexts all None f forms = noted_joined (pair_joint all) (next all (Some A) f) (next all (Some B) f) (noted_sides all f forms)

-- f for ever, or at some time
abbrev pub lasting : Bool → Bool → Form → Form
lasting true all f = until all true f falsity
lasting false all f = until all false truth f

-- the constants, then EXa true and EXb true
abbrev pub noted_opening : List Form → List Form
noted_opening forms = noted_sides false truth (noted falsity (noted truth forms))

-- a walk of this formula turns the first parts into the second
abbrev pub Walks : Form → List Part → List Part → Result ℕ NormalFault → Type 0
Walks f old new result = Numbers (walk f (forms_of old)) f new result

abbrev pub operators : Form → ℕ
operators truth = 0
operators falsity = 0
operators (at side local) = 0
operators (neg f) = suc (operators f)
operators (both f g) = suc (operators f + operators g)
operators (either f g) = suc (operators f + operators g)
operators (implies f g) = suc (operators f + operators g)
operators (next all side f) = suc (operators f)
operators (always all f) = suc (operators f)
operators (sometime all f) = suc (operators f)
operators (until all weak f g) = suc (operators f + operators g)
