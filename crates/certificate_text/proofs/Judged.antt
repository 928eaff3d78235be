-- What stands against a line, from what stands against what it says.
use Rattle.std.proofs.Common.{◌≡◌, refl, ap, ◌∙◌, subst}
use Rattle.conjunctive_compose.specs.System.{SystemParts}
use Rattle.ctl_text.specs.Value.{SpecParts}
use Rattle.text_cause.specs.declared.cause.TextCause.TheVariants.{NotText, BadHead, BadLine}
use Rattle.text_cause.specs.declared.line_fault.LineFault.{LineFault}
use Rattle.text_cause.specs.Answers.{IsBadBy}
use Rattle.text_cause.specs.Cause.{IsLowest, IsFree}
use Rattle.text_cause.proofs.Rows.{not_text_lowest, bad_head_lowest, bad_line_lowest, blocked_bad, line_free, said_unblocked}
use Rattle.strict_text.specs.Lines.{Line, IsStrict}
use Rattle.strict_text.specs.Words.{words_of}
use Rattle.certificate_text.specs.Item.{Said, head_line, words_for, Says}
use Rattle.certificate_text.specs.State.{Group, before_head, State, MayStand}
use Rattle.certificate_text.specs.Cause.{BarsLine, MaySay, LacksHead, Stands, Takes}
use Rattle.certificate_text.specs.Answers.{IsTakenAs}
use Rattle.certificate_text.proofs.ItemLaws.{says_once}

abbrev NotStrict : Line → Type 0
NotStrict line = IsStrict line.bytes → ⊥

pub says_one : (g : Group) (line : Line) (x y : Said) → MaySay g line x → MaySay g line y → x ≡ y
says_one g line x y a b = says_once _ x y a.says b.says

head_only : (g : Group) (x : Said) → MayStand g x → g ≡ before_head → x ≡ head_line
head_only before_head head_line may is = refl
head_only before_head x may is = absurd may
head_only g x may is = cc

-- a line that says what may stand there has the head's words where the head may stand
has_head : (g : Group) (line : Line) (item : Said) → MaySay g line item → LacksHead g line.bytes → ⊥
has_head g line item may lacks = lacks.1 (may.says.words_are ∙ ap words_for (head_only g item may.may lacks.0))

-- a line that says what may not stand there says nothing that may
pub may_not : (g : Group) (line : Line) (item : Said) → Says (words_of line.bytes) item → (MayStand g item → ⊥) → (other : Said) → MaySay g line other → ⊥
may_not g line item says barred other may = barred (subst (MayStand g) (says_once _ other item may.says says) may.may)

module _ (v : SpecParts) (sys : SystemParts) (s : State) (line : Line) where
  -- a byte that is not allowed is named before all else
  pub strict_refused : (IsStrict line.bytes → ⊥) → IsLowest (Stands v sys s line) NotText
  strict_refused bad = not_text_lowest (NotStrict line) (LacksHead s.group line.bytes) (MaySay s.group line) (BarsLine v sys s) bad

  pub head_refused : IsStrict line.bytes → ((item : Said) → MaySay s.group line item → ⊥) → LacksHead s.group line.bytes → IsLowest (Stands v sys s line) BadHead
  head_refused text none lacks = bad_head_lowest (NotStrict line) (LacksHead s.group line.bytes) (MaySay s.group line) (BarsLine v sys s) (λ bad. bad text) none lacks

  pub line_refused : IsStrict line.bytes → ((item : Said) → MaySay s.group line item → ⊥) → (LacksHead s.group line.bytes → ⊥) → IsLowest (Stands v sys s line) BadLine
  line_refused text none has = bad_line_lowest (NotStrict line) (LacksHead s.group line.bytes) (MaySay s.group line) (BarsLine v sys s) (λ bad. bad text) has none

  module _ (item : Said) where
    -- where the line says something that may stand there, what stands against that stands against it
    pub said_refused : (fault : LineFault) → IsStrict line.bytes → MaySay s.group line item → IsBadBy (BarsLine v sys s item) fault → IsBadBy (Stands v sys s line) fault
    said_refused fault text may bad =
        blocked_bad (NotStrict line) (LacksHead s.group line.bytes) (MaySay s.group line) (BarsLine v sys s) (says_one s.group line) item may (λ no. no text) (has_head s.group line item may) fault bad

    pub said_takes : (t : State) → IsStrict line.bytes → MaySay s.group line item → IsTakenAs v sys s item t → Takes v sys s line t
    said_takes t text may taken = record {
      free = line_free (NotStrict line) (LacksHead s.group line.bytes) (MaySay s.group line) (BarsLine v sys s) (says_one s.group line) item may (λ no. no text) (has_head s.group line item may) taken.free;
      item = item;
      may = may;
      next = taken.next;
    }

    -- where nothing stands against a line, nothing stands against what it says
    pub bars_stand : MaySay s.group line item → IsFree (Stands v sys s line) → IsFree (BarsLine v sys s item)
    bars_stand may free = said_unblocked (NotStrict line) (LacksHead s.group line.bytes) (MaySay s.group line) (BarsLine v sys s) item may free
