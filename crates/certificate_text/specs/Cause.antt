-- Why a line of a certificate is refused: each cause with the rule that the line breaks.
use Rattle.std.specs.Prelude.{ℕ, ◌≡◌, ◌≢◌, ◌<◌, ◌-◌, true, List, [], All, Contains, length, slice_index_or}
use Rattle.std.specs.List.Sorted.{IsNonDecreasingBy}
use Rattle.interconnection.specs.Shape.{ShapeParts, rank}
use Rattle.conjunctive_compose.specs.System.{SystemParts}
use Rattle.text_cause.specs.declared.cause.TextCause.{TextCause}
use Rattle.text_cause.specs.declared.cause.TextCause.TheVariants.{Disagree, NotRising, RoleMismatch, Twice, UnknownName}
use Rattle.text_cause.specs.Cause.{IsFree, LineStands, Or, Row}
use Rattle.ctl_text.specs.Value.{SpecParts, kind_names, role_names}
use Rattle.strict_text.specs.Lines.{Line, IsStrict}
use Rattle.strict_text.specs.Words.{words_of}
use Rattle.waitfor_check.specs.Accepted.{HasShape}
use Rattle.waitfor_check.specs.Fitting.{IsLabelOf, IsLower}
use Rattle.waitfor_check.specs.Star.{AllAgree, AreInRange}
use Rattle.waitfor_check.specs.declared.star.Star.{Star}
use Rattle.certificate_text.specs.Item.{NamedLabel, Said, head_line, star_line, member_line, words_for, Says}
use Rattle.certificate_text.specs.State.{Group, before_head, in_star, State, MayStand, after_line, shape_named}

abbrev pub HasKindNamed : SpecParts → NamedLabel → Type 0
HasKindNamed v label = Contains (kind_names v.kinds) label.0

-- the role and the kinds exist
abbrev pub AreKnown : SpecParts → List ℕ → List NamedLabel → Type 0
AreKnown v role labels = Contains (role_names v.roles) role × All (HasKindNamed v) labels

-- each label has the star's role on its side
abbrev pub MatchRole : SystemParts → ShapeParts → Type 0
MatchRole sys shape = All (IsLabelOf sys shape.role) shape.leaves

abbrev pub LabelsRise : ShapeParts → Type 0
LabelsRise shape = IsNonDecreasingBy rank shape.leaves

-- against a star of this shape, below these stars; where labels fall no shape is declared
abbrev pub BarsShape : SystemParts → List Star → ShapeParts → TextCause → Type 0
BarsShape sys made shape = Or (Row Twice (LabelsRise shape × HasShape made shape)) (Or (Row RoleMismatch (MatchRole sys shape → ⊥)) (Row NotRising (LabelsRise shape → ⊥)))

abbrev pub BarsStar : SpecParts → SystemParts → List Star → List ℕ → List NamedLabel → TextCause → Type 0
BarsStar v sys made role labels = Or (Row UnknownName (AreKnown v role labels → ⊥)) (BarsShape sys made (shape_named v role labels))

-- as a list, the member is greater than the last of these, if there is one
abbrev pub IsAboveLast : List (List ℕ) → List ℕ → Type 0
IsAboveLast members states = 0 < length members → IsLower (slice_index_or members (length members - 1) []) states

-- against a member of this shape, below these members
abbrev pub BarsMember : SystemParts → ShapeParts → List (List ℕ) → List ℕ → TextCause → Type 0
BarsMember sys shape members states =
    Or (Row UnknownName (AreInRange sys shape states → ⊥)) (Or (Row NotRising (IsAboveLast members states → ⊥)) (Row Disagree (AllAgree sys shape states → ⊥)))

-- against a member of an open star
abbrev pub BarsInStar : SystemParts → Group → List ℕ → TextCause → Type 0
BarsInStar sys (in_star shape members) states = BarsMember sys shape members states
BarsInStar sys group states = λ cause. ⊥

-- what stands against a line that may stand there
abbrev pub BarsLine : SpecParts → SystemParts → State → Said → TextCause → Type 0
BarsLine v sys s (star_line role labels) cause = BarsStar v sys s.made role labels cause
BarsLine v sys s (member_line states) cause = BarsInStar sys s.group states cause
BarsLine v sys s item cause = ⊥

-- the line ends, and its words say something that may stand there
pub record MaySay (group : Group) (line : Line) (item : Said) : Type 0 where
  pub ended : line.is_ended ≡ true
  pub says : Says (words_of line.bytes) item
  pub may : MayStand group item

-- the words of the first line are not those of the head
abbrev pub LacksHead : Group → List ℕ → Type 0
LacksHead group line = (group ≡ before_head) × (words_of line ≢ words_for head_line)

-- what stands against a line, below this state
abbrev pub Stands : SpecParts → SystemParts → State → Line → TextCause → Type 0
Stands v sys s line = LineStands (IsStrict line.bytes → ⊥) (LacksHead s.group line.bytes) (MaySay s.group line) (BarsLine v sys s)

-- nothing stands against the line, and it leaves this state
pub record Takes (v : SpecParts) (sys : SystemParts) (s : State) (line : Line) (t : State) : Type 0 where
  pub free : IsFree (Stands v sys s line)
  pub item : Said
  pub may : MaySay s.group line item
  pub next : t ≡ after_line v s item
