-- The grammar of solutions is lawful.
use Rattle.std.proofs.Common.{ℕ, ◌≡◌, inl, inr, List, [], ◌∷◌, sym, ap, ◌∙◌, subst, arith}
use Rattle.pair_structure.specs.declared.side.Move.{Move}
use Rattle.pair_structure.specs.Role.{RoleParts}
use Rattle.ctl_form.specs.declared.pair_spec.PairSpec.{PairSpec}
use Rattle.text_cause.specs.declared.cause.TextCause.{TextCause}
use Rattle.text_cause.specs.declared.cause.TextCause.TheVariants.{UnknownName, NotAPair}
use Rattle.text_cause.specs.Cause.{IsLowest, cause_no}
use Rattle.text_cause.specs.inside.Laws.{IsLawful}
use Rattle.text_cause.proofs.Lowest.{From, OneEach}
use Rattle.text_cause.proofs.Rows.{line_once}
use Rattle.strict_text.specs.Lines.{Line, IsStrict}
use Rattle.solution_text.specs.Item.{Said, head_line, kind_line, state_line, move_line, end_line, done_line}
use Rattle.solution_text.specs.State.{State, Group, before_head, among_kinds, in_kind, after_done, after_line}
use Rattle.solution_text.specs.Cause.{BarsLine, EndBlocks, KindBlocks, LabelBlocks, LacksHead, MaySay, PairBlocks, StateBlocks, Stands, Takes}
use Rattle.solution_text.specs.Text.{EndStands, solutions}
use Rattle.pair_structure.proofs.OneStructureFault.{first_structure_fault_once}
use Rattle.solution_text.proofs.ItemLaws.{says_once}
use Rattle.solution_text.proofs.Judged.{says_one}

pub takes_once : (roles : List RoleParts) (s : State) (line : Line) (t u : State) → Takes roles s line t → Takes roles s line u → t ≡ u
takes_once roles s line t u a b = a.next ∙ ap (after_line roles s) (says_once _ a.item b.item a.may.says b.may.says) ∙ sym b.next

-- the causes against what a line says: none comes above an unknown name, and of each number one stands at most
from_kind : (left : List PairSpec) (name : List ℕ) → From 5 (KindBlocks left name)
from_kind [] name cause h = absurd h
from_kind (kind ∷ left) name cause h = let e : cause_no cause ≡ cause_no UnknownName = ap cause_no h.0 in omega arith

one_kind : (left : List PairSpec) (name : List ℕ) → OneEach (KindBlocks left name)
one_kind [] name c d same p q = absurd p
one_kind (kind ∷ left) name c d same p q = p.0 ∙ sym q.0

unknown_label : (a b : RoleParts) (p q : List ℕ) (cause : TextCause) → LabelBlocks a b p q cause → cause ≡ UnknownName
unknown_label a b p q cause (inl h) = h.0
unknown_label a b p q cause (inr h) = h.0

unknown_state : (g : Group) (p q : List ℕ) (cause : TextCause) → StateBlocks g p q cause → cause ≡ UnknownName
unknown_state (in_kind a b states moves) p q cause h = unknown_label a b p q cause h
unknown_state before_head p q cause h = absurd h
unknown_state among_kinds p q cause h = absurd h
unknown_state after_done p q cause h = absurd h

from_end : (g : Group) → From 5 (EndBlocks g)
from_end (in_kind a b states moves) cause (fault, is, first) = let e : cause_no cause ≡ cause_no (NotAPair fault) = ap cause_no is in omega arith
from_end before_head cause h = absurd h
from_end among_kinds cause h = absurd h
from_end after_done cause h = absurd h

one_pair : (a b : RoleParts) (states : List (ℕ × ℕ)) (moves : List Move) → OneEach (PairBlocks a b states moves)
one_pair a b states moves c d same (x, c_is, x_first) (y, d_is, y_first) = c_is ∙ ap NotAPair (first_structure_fault_once a b states moves x y x_first y_first) ∙ sym d_is

one_end : (g : Group) → OneEach (EndBlocks g)
one_end (in_kind a b states moves) c d same p q = one_pair a b states moves c d same p q
one_end before_head c d same p q = absurd p
one_end among_kinds c d same p q = absurd p
one_end after_done c d same p q = absurd p

from_said : (s : State) (item : Said) → From 5 (BarsLine s item)
from_said s (kind_line name) cause h = from_kind s.left name cause h
from_said s (state_line p q) cause h = let e : cause_no cause ≡ cause_no UnknownName = ap cause_no (unknown_state s.group p q cause h) in omega arith
from_said s end_line cause h = from_end s.group cause h
from_said s head_line cause h = absurd h
from_said s (move_line move) cause h = absurd h
from_said s done_line cause h = absurd h

one_said : (s : State) (item : Said) → OneEach (BarsLine s item)
one_said s (kind_line name) c d same p q = one_kind s.left name c d same p q
one_said s (state_line x y) c d same p q = unknown_state s.group x y c p ∙ sym (unknown_state s.group x y d q)
one_said s end_line c d same p q = one_end s.group c d same p q
one_said s head_line c d same p q = absurd p
one_said s (move_line move) c d same p q = absurd p
one_said s done_line c d same p q = absurd p

refused_once : (s : State) (line : Line) (c d : TextCause) → IsLowest (Stands s line) c → IsLowest (Stands s line) d → c ≡ d
refused_once s line c d a b = line_once (IsStrict line.bytes → ⊥) (LacksHead s.group line.bytes) (MaySay s line) (BarsLine s) (says_one s line) (from_said s) (one_said s) c d a b

gives_free : (g : Group) (cause : TextCause) → g ≡ after_done → EndStands g cause → ⊥
gives_free g cause is h = let end = subst (λ g. EndStands g cause) is h in end

ends_once : (g : Group) (c d : TextCause) → EndStands g c → EndStands g d → c ≡ d
ends_once before_head c d a b = a ∙ sym b
ends_once after_done c d a b = absurd a
ends_once among_kinds c d a b = a ∙ sym b
ends_once (in_kind x y states moves) c d a b = a ∙ sym b

pub solutions_lawful : (roles : List RoleParts) → IsLawful (solutions roles)
solutions_lawful roles = record {
  taken_once = takes_once roles;
  taken_free = λ s line t cause takes h. takes.free.free cause h;
  refused_once = refused_once;
  given_once = λ s v w a b. a.1 ∙ sym b.1;
  given_free = λ s v cause a b. gives_free s.group cause a.0 b;
  ended_once = λ s c d a b. ends_once s.group c d a b;
}
