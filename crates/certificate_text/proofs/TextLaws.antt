-- The grammar of certificates is lawful.
use Rattle.std.proofs.Common.{ℕ, ◌≡◌, List, sym, ap, ◌∙◌, subst, arith}
use Rattle.interconnection.specs.Shape.{ShapeParts}
use Rattle.conjunctive_compose.specs.System.{SystemParts}
use Rattle.ctl_text.specs.Value.{SpecParts}
use Rattle.text_cause.specs.declared.cause.TextCause.{TextCause}
use Rattle.text_cause.specs.declared.cause.TextCause.TheVariants.{Disagree, NotRising, RoleMismatch, Twice, UnknownName}
use Rattle.text_cause.specs.Cause.{IsLowest, Or, Row}
use Rattle.text_cause.specs.inside.Laws.{IsLawful}
use Rattle.text_cause.proofs.Lowest.{From, OneEach, from_or, from_row, one_each_above, one_each_row}
use Rattle.text_cause.proofs.Rows.{line_once}
use Rattle.strict_text.specs.Lines.{Line, IsStrict}
use Rattle.waitfor_check.specs.declared.star.Star.{Star}
use Rattle.waitfor_check.specs.Accepted.{HasShape}
use Rattle.waitfor_check.specs.Star.{AllAgree, AreInRange}
use Rattle.certificate_text.specs.Item.{NamedLabel, Said, head_line, star_line, member_line, end_line, done_line}
use Rattle.certificate_text.specs.State.{State, Group, before_head, among_stars, in_star, after_done, after_line, shape_named}
use Rattle.certificate_text.specs.Cause.{AreKnown, BarsInStar, BarsLine, BarsMember, BarsShape, BarsStar, IsAboveLast, LabelsRise, LacksHead, MatchRole, MaySay, Stands, Takes}
use Rattle.certificate_text.specs.Text.{EndStands, certificates}
use Rattle.certificate_text.proofs.ItemLaws.{says_once}
use Rattle.certificate_text.proofs.Judged.{says_one}

pub takes_once : (v : SpecParts) (sys : SystemParts) (s : State) (line : Line) (t u : State) → Takes v sys s line t → Takes v sys s line u → t ≡ u
takes_once v sys s line t u a b = a.next ∙ ap (after_line v s) (says_once _ a.item b.item a.may.says b.may.says) ∙ sym b.next

-- against a star: Twice, RoleMismatch, NotRising, in this order
module _ (sys : SystemParts) (made : List Star) (shape : ShapeParts) where
  abbrev Again : Type 0
  Again = LabelsRise shape × HasShape made shape

  abbrev Others : Type 0
  Others = MatchRole sys shape → ⊥

  abbrev Falls : Type 0
  Falls = LabelsRise shape → ⊥

  from_roles : From 7 (Or (Row RoleMismatch Others) (Row NotRising Falls))
  from_roles = from_or 7 (Row RoleMismatch Others) (Row NotRising Falls) (from_row 7 RoleMismatch Others (omega arith)) (from_row 7 NotRising Falls (omega arith))

  one_roles : OneEach (Or (Row RoleMismatch Others) (Row NotRising Falls))
  one_roles = one_each_above RoleMismatch Others (Row NotRising Falls) (from_row 15 NotRising Falls (omega arith)) (one_each_row NotRising Falls)

  from_shape : From 6 (BarsShape sys made shape)
  from_shape = from_or 6 (Row Twice Again) (Or (Row RoleMismatch Others) (Row NotRising Falls)) (from_row 6 Twice Again (omega arith)) (λ cause h. let seven = from_roles cause h in omega (arith, seven))

  one_shape : OneEach (BarsShape sys made shape)
  one_shape = one_each_above Twice Again (Or (Row RoleMismatch Others) (Row NotRising Falls)) from_roles one_roles

from_star : (v : SpecParts) (sys : SystemParts) (made : List Star) (role : List ℕ) (labels : List NamedLabel) → From 5 (BarsStar v sys made role labels)
from_star v sys made role labels =
    from_or 5 (Row UnknownName (AreKnown v role labels → ⊥)) (BarsShape sys made (shape_named v role labels)) (from_row 5 UnknownName (AreKnown v role labels → ⊥) (omega arith))
    (λ cause h. let six = from_shape sys made (shape_named v role labels) cause h in omega (arith, six))

one_star : (v : SpecParts) (sys : SystemParts) (made : List Star) (role : List ℕ) (labels : List NamedLabel) → OneEach (BarsStar v sys made role labels)
one_star v sys made role labels =
    one_each_above UnknownName (AreKnown v role labels → ⊥) (BarsShape sys made (shape_named v role labels)) (from_shape sys made (shape_named v role labels)) (one_shape sys made (shape_named v role labels))

-- against a member: UnknownName, NotRising, Disagree, in this order
module _ (sys : SystemParts) (shape : ShapeParts) (members : List (List ℕ)) (states : List ℕ) where
  abbrev Outside : Type 0
  Outside = AreInRange sys shape states → ⊥

  abbrev NotAbove : Type 0
  NotAbove = IsAboveLast members states → ⊥

  abbrev Disagrees : Type 0
  Disagrees = AllAgree sys shape states → ⊥

  from_order : From 6 (Or (Row NotRising NotAbove) (Row Disagree Disagrees))
  from_order = from_or 6 (Row NotRising NotAbove) (Row Disagree Disagrees) (from_row 6 NotRising NotAbove (omega arith)) (from_row 6 Disagree Disagrees (omega arith))

  one_order : OneEach (Or (Row NotRising NotAbove) (Row Disagree Disagrees))
  one_order = one_each_above NotRising NotAbove (Row Disagree Disagrees) (from_row 17 Disagree Disagrees (omega arith)) (one_each_row Disagree Disagrees)

  from_member : From 5 (BarsMember sys shape members states)
  from_member = from_or 5 (Row UnknownName Outside) (Or (Row NotRising NotAbove) (Row Disagree Disagrees)) (from_row 5 UnknownName Outside (omega arith)) (λ cause h. let six = from_order cause h in omega (arith, six))

  one_member : OneEach (BarsMember sys shape members states)
  one_member = one_each_above UnknownName Outside (Or (Row NotRising NotAbove) (Row Disagree Disagrees)) from_order one_order

from_in_star : (sys : SystemParts) (g : Group) (states : List ℕ) → From 5 (BarsInStar sys g states)
from_in_star sys (in_star shape members) states cause h = from_member sys shape members states cause h
from_in_star sys before_head states cause h = absurd h
from_in_star sys among_stars states cause h = absurd h
from_in_star sys after_done states cause h = absurd h

one_in_star : (sys : SystemParts) (g : Group) (states : List ℕ) → OneEach (BarsInStar sys g states)
one_in_star sys (in_star shape members) states c d same p q = one_member sys shape members states c d same p q
one_in_star sys before_head states c d same p q = absurd p
one_in_star sys among_stars states c d same p q = absurd p
one_in_star sys after_done states c d same p q = absurd p

from_said : (v : SpecParts) (sys : SystemParts) (s : State) (item : Said) → From 5 (BarsLine v sys s item)
from_said v sys s (star_line role labels) cause h = from_star v sys s.made role labels cause h
from_said v sys s (member_line states) cause h = from_in_star sys s.group states cause h
from_said v sys s head_line cause h = absurd h
from_said v sys s end_line cause h = absurd h
from_said v sys s done_line cause h = absurd h

one_said : (v : SpecParts) (sys : SystemParts) (s : State) (item : Said) → OneEach (BarsLine v sys s item)
one_said v sys s (star_line role labels) c d same p q = one_star v sys s.made role labels c d same p q
one_said v sys s (member_line states) c d same p q = one_in_star sys s.group states c d same p q
one_said v sys s head_line c d same p q = absurd p
one_said v sys s end_line c d same p q = absurd p
one_said v sys s done_line c d same p q = absurd p

refused_once : (v : SpecParts) (sys : SystemParts) (s : State) (line : Line) (c d : TextCause) → IsLowest (Stands v sys s line) c → IsLowest (Stands v sys s line) d → c ≡ d
refused_once v sys s line c d a b = line_once (IsStrict line.bytes → ⊥) (LacksHead s.group line.bytes) (MaySay s.group line) (BarsLine v sys s) (says_one s.group line) (from_said v sys s) (one_said v sys s) c d a b

gives_free : (g : Group) (cause : TextCause) → g ≡ after_done → EndStands g cause → ⊥
gives_free g cause is h = let end = subst (λ g. EndStands g cause) is h in end

ends_once : (g : Group) (c d : TextCause) → EndStands g c → EndStands g d → c ≡ d
ends_once before_head c d a b = a ∙ sym b
ends_once after_done c d a b = absurd a
ends_once among_stars c d a b = a ∙ sym b
ends_once (in_star shape members) c d a b = a ∙ sym b

pub certificates_lawful : (v : SpecParts) (sys : SystemParts) → IsLawful (certificates v sys)
certificates_lawful v sys = record {
  taken_once = takes_once v sys;
  taken_free = λ s line t cause takes h. takes.free.free cause h;
  refused_once = refused_once v sys;
  given_once = λ s a b p q. p.1 ∙ sym q.1;
  given_free = λ s x cause a b. gives_free s.group cause a.0 b;
  ended_once = λ s c d a b. ends_once s.group c d a b;
}
