-- What stands against a line, from what stands against what it says.
use Rattle.std.proofs.Common.{◌≡◌, List, refl, ap, ◌∙◌, subst}
use Rattle.pair_structure.specs.Role.{RoleParts}
use Rattle.ctl_form.specs.declared.pair_spec.PairSpec.{PairSpec}
use Rattle.text_cause.specs.declared.cause.TextCause.TheVariants.{NotText, BadHead, BadLine}
use Rattle.text_cause.specs.declared.line_fault.LineFault.{LineFault}
use Rattle.text_cause.specs.Answers.{IsBadBy}
use Rattle.text_cause.specs.Cause.{IsLowest, IsFree}
use Rattle.text_cause.proofs.Rows.{not_text_lowest, bad_head_lowest, bad_line_lowest, blocked_bad, line_free, said_unblocked}
use Rattle.strict_text.specs.Lines.{Line, IsStrict}
use Rattle.strict_text.specs.Words.{words_of}
use Rattle.solution_text.specs.Item.{Said, head_line, words_for, Says}
use Rattle.solution_text.specs.State.{Group, before_head, State, MayStand}
use Rattle.solution_text.specs.Cause.{BarsLine, MaySay, LacksHead, Stands, Takes}
use Rattle.solution_text.specs.Answers.{IsTakenAs}
use Rattle.solution_text.proofs.ItemLaws.{says_once}

abbrev NotStrict : Line → Type 0
NotStrict line = IsStrict line.bytes → ⊥

pub says_one : (s : State) (line : Line) (x y : Said) → MaySay s line x → MaySay s line y → x ≡ y
says_one s line x y a b = says_once _ x y a.says b.says

-- a byte that is not allowed is named before all else
pub strict_refused : (s : State) (line : Line) → (IsStrict line.bytes → ⊥) → IsLowest (Stands s line) NotText
strict_refused s line bad = not_text_lowest (NotStrict line) (LacksHead s.group line.bytes) (MaySay s line) (BarsLine s) bad

pub head_refused : (s : State) (line : Line) → IsStrict line.bytes → ((item : Said) → MaySay s line item → ⊥) → LacksHead s.group line.bytes → IsLowest (Stands s line) BadHead
head_refused s line text none lacks = bad_head_lowest (NotStrict line) (LacksHead s.group line.bytes) (MaySay s line) (BarsLine s) (λ bad. bad text) none lacks

pub line_refused : (s : State) (line : Line) → IsStrict line.bytes → ((item : Said) → MaySay s line item → ⊥) → (LacksHead s.group line.bytes → ⊥) → IsLowest (Stands s line) BadLine
line_refused s line text none has = bad_line_lowest (NotStrict line) (LacksHead s.group line.bytes) (MaySay s line) (BarsLine s) (λ bad. bad text) has none

head_only : (g : Group) (left : List PairSpec) (x : Said) → MayStand g left x → g ≡ before_head → x ≡ head_line
head_only before_head left head_line may is = refl
head_only before_head left x may is = absurd may
head_only g left x may is = cc

-- a line that says what may stand there has the head's words where the head may stand
has_head : (s : State) (line : Line) (item : Said) → MaySay s line item → LacksHead s.group line.bytes → ⊥
has_head s line item may lacks = lacks.1 (may.says.words_are ∙ ap words_for (head_only s.group s.left item may.may lacks.0))

-- where the line says something that may stand there, what stands against that stands against it
pub said_refused : (s : State) (line : Line) (item : Said) (fault : LineFault) → IsStrict line.bytes → MaySay s line item → IsBadBy (BarsLine s item) fault → IsBadBy (Stands s line) fault
said_refused s line item fault text may bad = blocked_bad (NotStrict line) (LacksHead s.group line.bytes) (MaySay s line) (BarsLine s) (says_one s line) item may (λ no. no text) (has_head s line item may) fault bad

pub said_takes : (roles : List RoleParts) (s t : State) (line : Line) (item : Said) → IsStrict line.bytes → MaySay s line item → IsTakenAs roles s item t → Takes roles s line t
said_takes roles s t line item text may taken = record {
  free = line_free (NotStrict line) (LacksHead s.group line.bytes) (MaySay s line) (BarsLine s) (says_one s line) item may (λ no. no text) (has_head s line item may) taken.free;
  item = item;
  may = may;
  whole = taken.whole;
  next = taken.next;
}

-- a line that says what may not stand there says nothing that may
pub may_not : (s : State) (line : Line) (item : Said) → Says (words_of line.bytes) item → (MayStand s.group s.left item → ⊥) → (other : Said) → MaySay s line other → ⊥
may_not s line item says barred other may = barred (subst (MayStand s.group s.left) (says_once _ other item may.says says) may.may)

-- where nothing stands against a line, nothing stands against what it says
pub blocks_stand : (s : State) (line : Line) (item : Said) → MaySay s line item → IsFree (Stands s line) → IsFree (BarsLine s item)
blocks_stand s line item may free = said_unblocked (NotStrict line) (LacksHead s.group line.bytes) (MaySay s line) (BarsLine s) item may free
