-- One step of a walk after another: the numbers that earlier steps gave stay, and a fault of a step is a fault of the whole.
use Rattle.std.proofs.Common.{ℕ, ◌≡◌, ◌<◌, ◌≤◌, Bool, Option, Some, None, List, arith, refl, sym, ◌∙◌, ap, subst, length, Result, Ok, Err, MatchResult}
use Rattle.std.specs.Result.{IsErrAnd}
use Rattle.pair_structure.specs.declared.side.Side.{Side}
use Rattle.pair_structure.specs.declared.side.Side.TheVariants.{A, B}
use Rattle.ctl_form.specs.Closure.{IsGrown}
use Rattle.ctl_form.specs.Form.{Form, both, either, next, until}
use Rattle.ctl_form.specs.Members.{form_at, forms_of}
use Rattle.ctl_form.specs.MemberTable.{IsNumbered, IsFaultOf, Numbers}
use Rattle.ctl_form.specs.Walk.{noted, noted_until, walk}
use Rattle.ctl_form.specs.inside.Walking.{AreSides, pair_joint, joined, noted_joined, noted_sides, nexts, noted_nexts}
use Rattle.ctl_form.specs.declared.joint.Joint.{Joint}
use Rattle.ctl_form.specs.declared.joint.Joint.TheVariants.{Both, Either, Until, Release}
use Rattle.ctl_form.specs.declared.normal_fault.NormalFault.{NormalFault}
use Rattle.ctl_form.specs.declared.normal_fault.NormalFault.TheVariants.{Over, Memory}
use Rattle.ctl_form.specs.declared.part.Part.{Part}
use Rattle.ctl_form.proofs.MemberLaws.{length-forms_of}
use Rattle.ctl_form.proofs.WalkLaws.{length_noted, form_at_noted, within_noted, walk_keeps, has_walk, within_walk, grown_walk, walk_known}

-- the second list goes on from the first: its formulas keep their numbers
pub record Extends (forms more : List Form) : Type 0 where
  pub longer : length forms ≤ length more
  pub kept : (n : ℕ) → n < length forms → form_at more n ≡ form_at forms n

pub extends_same : (forms more : List Form) → forms ≡ more → Extends forms more
extends_same forms more e = record { longer = omega (arith, ap length e); kept = λ n h. ap (λ l. form_at l n) (sym e) }

pub extends_noted : (f : Form) (forms more : List Form) → Extends forms more → Extends forms (noted f more)
extends_noted f forms more x = record {
  longer = omega (arith, x.longer, length_noted f more);
  kept = λ n h. form_at_noted f more n (omega (arith, h, x.longer)) ∙ x.kept n h;
}

pub extends_walk : (f : Form) (forms more : List Form) → Extends forms more → Extends forms (walk f more)
extends_walk f forms more x = walk_keeps (Extends forms) (λ g l h. extends_noted g forms l h) f more x

pub extends_sides : (all : Bool) (f : Form) (forms more : List Form) → Extends forms more → Extends forms (noted_sides all f more)
extends_sides all f forms more x = extends_noted (next all (Some B) f) forms (noted (next all (Some A) f) more) (extends_noted (next all (Some A) f) forms more x)

pub extends_joined : (joint : Joint) (f g : Form) (forms more : List Form) → Extends forms more → Extends forms (noted_joined joint f g more)
extends_joined Both f g forms more x = extends_noted (both f g) forms more x
extends_joined Either f g forms more x = extends_noted (either f g) forms more x
extends_joined (Until all weak) f g forms more x =
    let u : Form = until all weak f g in
    extends_sides all u forms (noted u more) (extends_noted u forms more x)
extends_joined (Release all weak) f g forms more x =
    let k : Form = both g f in
    let u : Form = until all weak f k in
    extends_sides all u forms (noted u (noted k more)) (extends_noted u forms (noted k more) (extends_noted k forms more x))

pub extends_nexts : (all : Bool) (side : Option Side) (f : Form) (forms more : List Form) → Extends forms more → Extends forms (noted_nexts all side f more)
extends_nexts all (Some side) f forms more x = extends_noted (next all (Some side) f) forms more x
extends_nexts all None f forms more x = extends_joined (pair_joint all) (next all (Some A) f) (next all (Some B) f) forms (noted_sides all f more) (extends_sides all f forms more x)

-- a number that an earlier step gave, after a later one
pub numbered_still : (walked more : List Form) (form : Form) (p q : List Part) (n : ℕ) → IsNumbered walked form p n → Extends walked more → forms_of q ≡ more → IsNumbered more form q n
numbered_still walked more form p q n first x e = record {
  forms = e;
  below = omega (arith, first.below, length-forms_of p, length-forms_of q, ap length first.forms, ap length e, x.longer);
  is = ap (λ l. form_at l n) e ∙ x.kept n (omega (arith, first.below, length-forms_of p, ap length first.forms)) ∙ ap (λ l. form_at l n) (sym first.forms) ∙ first.is;
}

-- what is said of a list and a formula is said of an equal list and an equal formula
pub numbers_as : (walked walked' : List Form) (form form' : Form) (parts : List Part) (result : Result ℕ NormalFault) → walked ≡ walked' → form ≡ form' → Numbers walked form parts result → Numbers walked' form' parts result
numbers_as walked walked' form form' parts result a b h = subst (λ l. Numbers l form' parts result) a (subst (λ f. Numbers walked f parts result) b h)

pub joined_as : (joint joint' : Joint) (f f' g g' : Form) (l l' : List Form) (parts : List Part) (result : Result ℕ NormalFault) → joint ≡ joint' → f ≡ f' → g ≡ g' → l ≡ l'
    → Numbers (noted_joined joint f g l) (joined joint f g) parts result → Numbers (noted_joined joint' f' g' l') (joined joint' f' g') parts result
joined_as joint joint' f f' g g' l l' parts result j a b e h = numbers_as (noted_joined joint f g l) (noted_joined joint' f' g' l') (joined joint f g) (joined joint' f' g') parts result (cc) (cc) h

-- a fault where less was to be walked
pub fault_more : (small big : List Form) (fault : NormalFault) → length small ≤ length big → IsFaultOf small fault → IsFaultOf big fault
fault_more small big Over le h = omega (arith, le, h)
fault_more small big Memory le h = h

-- what is said of the fault is said of the result
pub result_from_err : {X : Type 0} (P : X → Type 0) (Q : NormalFault → Type 0) (fault : NormalFault) (result : Result X NormalFault) → IsErrAnd result (λ e. e ≡ fault) → Q fault → MatchResult result P Q
result_from_err P Q fault (Ok x) e h = absurd e
result_from_err P Q fault (Err e') e h = subst Q (sym e) h

-- where a step fails, the whole fails
pub result_from_fault : {X : Type 0} (P : X → Type 0) (small big : List Form) (fault : NormalFault) (result : Result X NormalFault) → IsErrAnd result (λ e. e ≡ fault) → Extends small big → IsFaultOf small fault → MatchResult result P (IsFaultOf big)
result_from_fault P small big fault result e x h = result_from_err P (IsFaultOf big) fault result e (fault_more small big fault x.longer h)

-- after a walk the list is grown as before
pub grown_after : (old p : List Part) (f : Form) (a : ℕ) → IsGrown (forms_of old) → IsNumbered (walk f (forms_of old)) f p a → IsGrown (forms_of p)
grown_after old p f a grown first = subst IsGrown (sym first.forms) (grown_walk f (forms_of old) grown)

-- a member keeps its number where a formula is noted
pub numbered_kept : (old p : List Part) (h : Form) (n : ℕ) → n < length old → forms_of p ≡ noted h (forms_of old) → IsNumbered (noted h (forms_of old)) (form_at (forms_of old) n) p n
numbered_kept old p h n below e =
    let forms : List Form = forms_of old in
    let itself : IsNumbered forms (form_at forms n) old n = record { forms = refl; below = below; is = refl } in
    numbered_still forms (noted h forms) (form_at forms n) old p n itself (extends_noted h forms forms (extends_same forms forms refl)) e

-- the B next-time of a member after its A next-time
pub second_side : (old p q : List Part) (all : Bool) (n a : ℕ) (result : Result ℕ NormalFault) → n < length old
    → IsNumbered (noted (next all (Some A) (form_at (forms_of old) n)) (forms_of old)) (next all (Some A) (form_at (forms_of old) n)) p a
    → Numbers (noted (next all (Some B) (form_at (forms_of p) n)) (forms_of p)) (next all (Some B) (form_at (forms_of p) n)) q result
    → Numbers (noted_sides all (form_at (forms_of old) n) (forms_of old)) (next all (Some B) (form_at (forms_of old) n)) q result
second_side old p q all n a result h first second =
    let e = (numbered_kept old p (next all (Some A) (form_at (forms_of old) n)) n h first.forms).is in
    let l = first.forms in
    numbers_as (noted (next all (Some B) (form_at (forms_of p) n)) (forms_of p)) (noted_sides all (form_at (forms_of old) n) (forms_of old)) (next all (Some B) (form_at (forms_of p) n)) (next all (Some B) (form_at (forms_of old) n)) q result (cc) (cc) second

-- the next-times of both sides of a formula that has a number
pub sides_as : (walked : List Form) (u : Form) (all : Bool) (p : List Part) (n : ℕ) → IsNumbered walked u p n → noted_sides all (form_at (forms_of p) n) (forms_of p) ≡ noted_sides all u walked
sides_as walked u all p n first = let e = first.is in let l = first.forms in cc

-- a formula that has a number, and then the next-times of both sides
pub numbered_with_sides : (walked : List Form) (u : Form) (all : Bool) (p q : List Part) (n : ℕ) (sides : ℕ × ℕ) → IsNumbered walked u p n → AreSides all (form_at (forms_of p) n) (forms_of p) q sides → IsNumbered (noted_sides all u walked) u q n
numbered_with_sides walked u all p q n sides first second =
    numbered_still walked (noted_sides all u walked) u p q n first (extends_sides all u walked walked (extends_same walked walked refl)) (second.a.forms ∙ sides_as walked u all p n first)

-- a number after a formula is noted
pub numbered_noted : (walked : List Form) (u f : Form) (p q : List Part) (n : ℕ) → IsNumbered walked u p n → forms_of q ≡ noted f (forms_of p) → IsNumbered (noted f walked) u q n
numbered_noted walked u f p q n first e = numbered_still walked (noted f walked) u p q n first (extends_noted f walked walked (extends_same walked walked refl)) (e ∙ ap (noted f) first.forms)

-- two members joined that have these formulas
pub joined_numbers : (joint joint' : Joint) (f g : Form) (walked : List Form) (p q : List Part) (a b : ℕ) (result : Result ℕ NormalFault) → joint ≡ joint' → IsNumbered walked f p a → IsNumbered walked g p b
    → Numbers (noted_joined joint (form_at (forms_of p) a) (form_at (forms_of p) b) (forms_of p)) (joined joint (form_at (forms_of p) a) (form_at (forms_of p) b)) q result
    → Numbers (noted_joined joint' f g walked) (joined joint' f g) q result
joined_numbers joint joint' f g walked p q a b result j first second h =
    joined_as joint joint' (form_at (forms_of p) a) f (form_at (forms_of p) b) g (forms_of p) walked q result j first.is second.is first.forms h

-- the walk of two formulas joined; in a release the first is not walked again
pub walk_joined : (joint : Joint) (f g : Form) (forms : List Form) → IsGrown forms → walk (joined joint f g) forms ≡ noted_joined joint f g (walk g (walk f forms))
walk_joined Both f g forms grown = refl
walk_joined Either f g forms grown = refl
walk_joined (Until all weak) f g forms grown = refl
walk_joined (Release all weak) f g forms grown =
    let before : List Form = walk g (walk f forms) in
    let again : walk f before ≡ before = walk_known f before (grown_walk g (walk f forms) (grown_walk f forms grown)) (within_walk g (walk f forms) f (has_walk f forms)) in
    ap (λ l. noted_until all (until all weak f (both g f)) (noted (both g f) l)) again

-- the walk of next-times; with no side named the formula is not walked again
pub walk_nexts : (all : Bool) (side : Option Side) (f : Form) (forms : List Form) → IsGrown forms → walk (nexts all side f) forms ≡ noted_nexts all side f (walk f forms)
walk_nexts all (Some side) f forms grown = refl
walk_nexts all None f forms grown =
    let a : Form = next all (Some A) f in
    let b : Form = next all (Some B) f in
    let first : List Form = walk a forms in
    let again : walk f first ≡ first = walk_known f first (grown_walk a forms grown) (within_noted a (walk f forms) f (has_walk f forms)) in
    walk_joined (pair_joint all) a b forms grown ∙ ap (λ l. noted_joined (pair_joint all) a b (noted b l)) again

-- the first of two walked formulas keeps its number
pub numbered_first : (old p q : List Part) (f g : Form) (a b : ℕ) → IsNumbered (walk f (forms_of old)) f p a → IsNumbered (walk g (forms_of p)) g q b → IsNumbered (walk g (walk f (forms_of old))) f q a
numbered_first old p q f g a b first second =
    let walked : List Form = walk f (forms_of old) in
    numbered_still walked (walk g walked) f p q a first (extends_walk g walked walked (extends_same walked walked refl)) (second.forms ∙ ap (walk g) first.forms)

-- two formulas walked, and then joined
pub two_walked : (old p q r : List Part) (joint : Joint) (f g : Form) (a b : ℕ) (result : Result ℕ NormalFault) → IsGrown (forms_of old) → IsNumbered (walk f (forms_of old)) f p a → IsNumbered (walk g (forms_of p)) g q b
    → Numbers (noted_joined joint (form_at (forms_of q) a) (form_at (forms_of q) b) (forms_of q)) (joined joint (form_at (forms_of q) a) (form_at (forms_of q) b)) r result
    → Numbers (walk (joined joint f g) (forms_of old)) (joined joint f g) r result
two_walked old p q r joint f g a b result grown first second h =
    let one : IsNumbered (walk g (walk f (forms_of old))) f q a = numbered_first old p q f g a b first second in
    let two : IsNumbered (walk g (walk f (forms_of old))) g q b = record { forms = one.forms; below = second.below; is = second.is } in
    subst (λ l. Numbers l (joined joint f g) r result) (sym (walk_joined joint f g (forms_of old) grown)) (joined_numbers joint joint f g (walk g (walk f (forms_of old))) q r a b result refl one two h)

-- what is walked before two formulas are joined is part of the whole
pub extends_first : (joint : Joint) (f g : Form) (forms : List Form) → IsGrown forms → Extends (walk f forms) (walk (joined joint f g) forms)
extends_first joint f g forms grown =
    let first : List Form = walk f forms in
    subst (Extends first) (sym (walk_joined joint f g forms grown)) (extends_joined joint f g first (walk g first) (extends_walk g first first (extends_same first first refl)))

pub extends_second : (joint : Joint) (f g : Form) (forms before : List Form) → IsGrown forms → before ≡ walk f forms → Extends (walk g before) (walk (joined joint f g) forms)
extends_second joint f g forms before grown e =
    let both : List Form = walk g (walk f forms) in
    subst (Extends (walk g before)) (sym (walk_joined joint f g forms grown)) (extends_joined joint f g (walk g before) both (extends_same (walk g before) both (ap (walk g) e)))

-- a formula walked, and then its next-times
pub next_walked : (old p q : List Part) (all : Bool) (side : Option Side) (f : Form) (a : ℕ) (result : Result ℕ NormalFault) → IsGrown (forms_of old) → IsNumbered (walk f (forms_of old)) f p a
    → Numbers (noted_nexts all side (form_at (forms_of p) a) (forms_of p)) (nexts all side (form_at (forms_of p) a)) q result
    → Numbers (walk (nexts all side f) (forms_of old)) (nexts all side f) q result
next_walked old p q all side f a result grown first h =
    let e = first.is in
    let l = first.forms in
    subst (λ l. Numbers l (nexts all side f) q result) (sym (walk_nexts all side f (forms_of old) grown))
    (numbers_as (noted_nexts all side (form_at (forms_of p) a) (forms_of p)) (noted_nexts all side f (walk f (forms_of old))) (nexts all side (form_at (forms_of p) a)) (nexts all side f) q result (cc) (cc) h)

pub extends_next : (all : Bool) (side : Option Side) (f : Form) (forms : List Form) → IsGrown forms → Extends (walk f forms) (walk (nexts all side f) forms)
extends_next all side f forms grown =
    let first : List Form = walk f forms in
    subst (Extends first) (sym (walk_nexts all side f forms grown)) (extends_nexts all side f first first (extends_same first first refl))
