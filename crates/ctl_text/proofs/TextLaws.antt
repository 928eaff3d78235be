-- The grammar of specifications is lawful.
use Rattle.std.proofs.Common.{ℕ, ◌≡◌, ◌≤◌, ◌⊎◌, inl, inr, List, sym, ap, ◌∙◌, subst, arith}
use Rattle.std.proofs.lemmas.Bool.{cases_order}
use Rattle.pair_structure.specs.declared.side.LocalArc.{LocalArc}
use Rattle.interconnection.specs.declared.parts.Edge.{Edge}
use Rattle.text_cause.specs.declared.cause.TextCause.{TextCause}
use Rattle.text_cause.specs.declared.cause.TextCause.TheVariants.{NotText, BadHead, Long, BadLine, UnknownName, Twice, SelfArc, NoArc, TooMany, ClosureOver, SelfEdge, EdgeTwice, DegreeOver, RoleMismatch, NotAStart}
use Rattle.text_cause.specs.Cause.{IsLowest, Row, Or, NumberRow}
use Rattle.text_cause.specs.inside.Laws.{IsLawful}
use Rattle.text_cause.proofs.Lowest.{From, OneEach, from_row, from_or, from_numbered, lowest_once, one_each_row, one_each_or, one_each_above, one_each_numbered, to_numbered}
use Rattle.ctl_text.specs.Cause.{BeginsElsewhere, BarsLine, Crowds, DeclaresAgain, GoesOver, HasLargeClosure, HasOtherRoles, IsFirstCrowded, IsFirstUnleft, IsLongLine, IsLoop, IsNoHead, JoinsAgain, JoinsItself, Leaves, LeavesStuck, MaySay, SaysNothing, Stands, Takes, UsesUnknown, WordsStand}
use Rattle.ctl_text.specs.Item.{Said, role_line, local_line, set_line, arc_line, kind_line, end_line, process_line, edge_line}
use Rattle.strict_text.specs.Pieces.{loose_words_of}
use Rattle.ctl_text.specs.Lines.{IsText, ArePassed}
use Rattle.ctl_text.specs.State.{State, Group, before_head, in_role, after_done, after_line}
use Rattle.ctl_text.specs.Text.{EndStands, specifications}
use Rattle.ctl_text.specs.Value.{Declared as Above}
use Rattle.ctl_text.proofs.ItemLaws.{says_once}

abbrev LeavesOne : State → List (List ℕ) → State → Type 0
LeavesOne s words t = (ArePassed words × (t ≡ s)) ⊎ ((ArePassed words → ⊥) × ((item : Said) × Leaves s words item t))

leaves_once : (s : State) (words : List (List ℕ)) (t u : State) → LeavesOne s words t → LeavesOne s words u → t ≡ u
leaves_once s words t u (inl p) (inl q) = p.1 ∙ sym q.1
leaves_once s words t u (inl p) (inr q) = absurd (q.0 p.0)
leaves_once s words t u (inr p) (inl q) = absurd (p.0 q.0)
leaves_once s words t u (inr (p, (x, xs))) (inr (q, (y, ys))) = xs.next ∙ ap (after_line s) (says_once s words x y xs.may ys.may) ∙ sym ys.next

pub takes_once : (s : State) (line : List ℕ) (t u : State) → Takes s line t → Takes s line u → t ≡ u
takes_once s line t u a b = leaves_once s (loose_words_of line) t u a.leaves b.leaves

-- which numbers a cause may have with it
first_stuck_once : (names : List (List ℕ)) (made : List LocalArc) (k l : ℕ) → IsFirstUnleft names made k → IsFirstUnleft names made l → k ≡ l
first_stuck_once names made k l a b = elim (cases_order k l) [
  | inl same ↦ same
  | inr apart ↦ elim apart [ inl lt ↦ absurd (a.stuck (b.before k lt)) | inr lt ↦ absurd (b.stuck (a.before l lt)) ]
]

stuck_once : (item : Said) (g : Group) (k l : ℕ) → LeavesStuck item g k → LeavesStuck item g l → k ≡ l
stuck_once end_line (in_role r) k l a b = first_stuck_once r.locals r.arcs k l a b
stuck_once item g k l a b = absurd a

limit_once : (item : Said) (v : Above) (g : Group) (k l : ℕ) → GoesOver item v g k → GoesOver item v g l → k ≡ l
limit_once (role_line name) v g k l a b = a.0 ∙ sym b.0
limit_once (local_line n) v (in_role r) k l a b = a.0 ∙ sym b.0
limit_once (set_line n members) v (in_role r) k l a b = a.0 ∙ sym b.0
limit_once (arc_line p q free) v (in_role r) k l a b = a.0 ∙ sym b.0
limit_once (kind_line name x y) v g k l a b = a.0 ∙ sym b.0
limit_once (process_line name r start) v g k l a b = a.0 ∙ sym b.0
limit_once item v g k l a b = absurd a

first_crowded_once : (most : ℕ) (edges : List Edge) (p q k l : ℕ) → IsFirstCrowded most edges p q k → IsFirstCrowded most edges p q l → k ≡ l
first_crowded_once most edges p q k l a b = let le = a.first l b.crowded in let ge = b.first k a.crowded in omega (arith, le, ge)

crowded_once : (item : Said) (v : Above) (k l : ℕ) → Crowds item v k → Crowds item v l → k ≡ l
crowded_once (edge_line p q kind) v k l a b = first_crowded_once _ _ _ _ k l a.1 b.1
crowded_once item v k l a b = absurd a

-- of each number one cause stands at most against what a line says; none comes above an unknown name
module _ (s : State) (item : Said) where
  abbrev Elsewhere : TextCause → Type 0
  Elsewhere = Row NotAStart (BeginsElsewhere item s.parts)

  abbrev Mismatch : TextCause → Type 0
  Mismatch = Or (Row RoleMismatch (HasOtherRoles item s.parts)) Elsewhere

  abbrev Degree : TextCause → Type 0
  Degree = Or (NumberRow DegreeOver (Crowds item s.parts)) Mismatch

  abbrev Again : TextCause → Type 0
  Again = Or (Row EdgeTwice (JoinsAgain item s.parts)) Degree

  abbrev Loop : TextCause → Type 0
  Loop = Or (Row SelfEdge (IsLoop item s.parts)) Again

  abbrev Closure : TextCause → Type 0
  Closure = Or (Row ClosureOver (HasLargeClosure item s.parts s.group)) Loop

  abbrev Over : TextCause → Type 0
  Over = Or (NumberRow TooMany (GoesOver item s.parts s.group)) Closure

  abbrev Stuck : TextCause → Type 0
  Stuck = Or (NumberRow NoArc (LeavesStuck item s.group)) Over

  abbrev Itself : TextCause → Type 0
  Itself = Or (Row SelfArc (JoinsItself item s.group)) Stuck

  abbrev Declared : TextCause → Type 0
  Declared = Or (Row Twice (DeclaresAgain item s.parts s.group)) Itself

  from_elsewhere : (n : ℕ) → n ≤ 18 → From n Elsewhere
  from_elsewhere n le = from_row n NotAStart (BeginsElsewhere item s.parts) le

  from_mismatch : (n : ℕ) → n ≤ 14 → From n Mismatch
  from_mismatch n le = from_or n (Row RoleMismatch (HasOtherRoles item s.parts)) Elsewhere (from_row n RoleMismatch (HasOtherRoles item s.parts) le) (from_elsewhere n (omega (arith, le)))

  from_degree : (n : ℕ) → n ≤ 13 → From n Degree
  from_degree n le = from_or n (NumberRow DegreeOver (Crowds item s.parts)) Mismatch (from_numbered n DegreeOver (Crowds item s.parts) (λ k. le)) (from_mismatch n (omega (arith, le)))

  from_again : (n : ℕ) → n ≤ 12 → From n Again
  from_again n le = from_or n (Row EdgeTwice (JoinsAgain item s.parts)) Degree (from_row n EdgeTwice (JoinsAgain item s.parts) le) (from_degree n (omega (arith, le)))

  from_loop : (n : ℕ) → n ≤ 11 → From n Loop
  from_loop n le = from_or n (Row SelfEdge (IsLoop item s.parts)) Again (from_row n SelfEdge (IsLoop item s.parts) le) (from_again n (omega (arith, le)))

  from_closure : (n : ℕ) → n ≤ 10 → From n Closure
  from_closure n le = from_or n (Row ClosureOver (HasLargeClosure item s.parts s.group)) Loop (from_row n ClosureOver (HasLargeClosure item s.parts s.group) le) (from_loop n (omega (arith, le)))

  from_over : (n : ℕ) → n ≤ 9 → From n Over
  from_over n le = from_or n (NumberRow TooMany (GoesOver item s.parts s.group)) Closure (from_numbered n TooMany (GoesOver item s.parts s.group) (λ k. le)) (from_closure n (omega (arith, le)))

  from_stuck : (n : ℕ) → n ≤ 8 → From n Stuck
  from_stuck n le = from_or n (NumberRow NoArc (LeavesStuck item s.group)) Over (from_numbered n NoArc (LeavesStuck item s.group) (λ k. le)) (from_over n (omega (arith, le)))

  from_itself : (n : ℕ) → n ≤ 7 → From n Itself
  from_itself n le = from_or n (Row SelfArc (JoinsItself item s.group)) Stuck (from_row n SelfArc (JoinsItself item s.group) le) (from_stuck n (omega (arith, le)))

  from_declared : (n : ℕ) → n ≤ 6 → From n Declared
  from_declared n le = from_or n (Row Twice (DeclaresAgain item s.parts s.group)) Itself (from_row n Twice (DeclaresAgain item s.parts s.group) le) (from_itself n (omega (arith, le)))

  from_blocks : (n : ℕ) → n ≤ 5 → From n (BarsLine s item)
  from_blocks n le = from_or n (Row UnknownName (UsesUnknown item s.parts s.group)) Declared (from_row n UnknownName (UsesUnknown item s.parts s.group) le) (from_declared n (omega (arith, le)))

  one_degree : OneEach Degree
  one_degree =
      one_each_or 13 (NumberRow DegreeOver (Crowds item s.parts)) Mismatch (to_numbered 13 DegreeOver (Crowds item s.parts) (λ k. omega arith)) (from_mismatch 14 (omega arith))
      (one_each_numbered DegreeOver (Crowds item s.parts) (crowded_once item s.parts))
      (one_each_above RoleMismatch (HasOtherRoles item s.parts) Elsewhere (from_elsewhere 15 (omega arith)) (one_each_row NotAStart (BeginsElsewhere item s.parts)))

  one_closure : OneEach Closure
  one_closure =
      one_each_above ClosureOver (HasLargeClosure item s.parts s.group) Loop (from_loop 11 (omega arith))
      (one_each_above SelfEdge (IsLoop item s.parts) Again (from_again 12 (omega arith)) (one_each_above EdgeTwice (JoinsAgain item s.parts) Degree (from_degree 13 (omega arith)) one_degree))

  one_over : OneEach Over
  one_over =
      one_each_or 9 (NumberRow TooMany (GoesOver item s.parts s.group)) Closure (to_numbered 9 TooMany (GoesOver item s.parts s.group) (λ k. omega arith)) (from_closure 10 (omega arith))
      (one_each_numbered TooMany (GoesOver item s.parts s.group) (limit_once item s.parts s.group)) one_closure

  one_stuck : OneEach Stuck
  one_stuck =
      one_each_or 8 (NumberRow NoArc (LeavesStuck item s.group)) Over (to_numbered 8 NoArc (LeavesStuck item s.group) (λ k. omega arith)) (from_over 9 (omega arith))
      (one_each_numbered NoArc (LeavesStuck item s.group) (stuck_once item s.group)) one_over

  one_blocks : OneEach (BarsLine s item)
  one_blocks =
      one_each_above UnknownName (UsesUnknown item s.parts s.group) Declared (from_declared 6 (omega arith))
      (one_each_above Twice (DeclaresAgain item s.parts s.group) Itself (from_itself 7 (omega arith)) (one_each_above SelfArc (JoinsItself item s.group) Stuck (from_stuck 8 (omega arith)) one_stuck))

module _ (s : State) (words : List (List ℕ)) where
  abbrev OfItem : TextCause → Type 0
  OfItem cause = (item : Said) × MaySay s words item × BarsLine s item cause

  abbrev OfLine : TextCause → Type 0
  OfLine = Or (Row BadLine (SaysNothing s words)) OfItem

  abbrev OfLong : TextCause → Type 0
  OfLong = Or (Row Long (IsLongLine s words)) OfLine

  from_item : From 5 OfItem
  from_item cause h = from_blocks s h.0 5 (omega arith) cause h.2

  one_item : OneEach OfItem
  one_item c d same a b = one_blocks s a.0 c d same a.2 (subst (λ x. BarsLine s x d) (says_once s words b.0 a.0 b.1 a.1) b.2)

  from_line : (n : ℕ) → n ≤ 4 → From n OfLine
  from_line n le = from_or n (Row BadLine (SaysNothing s words)) OfItem (from_row n BadLine (SaysNothing s words) le) (λ cause h. let five = from_item cause h in omega (arith, le, five))

  from_long : (n : ℕ) → n ≤ 3 → From n OfLong
  from_long n le = from_or n (Row Long (IsLongLine s words)) OfLine (from_row n Long (IsLongLine s words) le) (from_line n (omega (arith, le)))

  from_words : From 2 (WordsStand s words)
  from_words = from_or 2 (Row BadHead (IsNoHead s words)) OfLong (from_row 2 BadHead (IsNoHead s words) (omega arith)) (from_long 2 (omega arith))

  one_words : OneEach (WordsStand s words)
  one_words =
      one_each_above BadHead (IsNoHead s words) OfLong (from_long 3 (omega arith))
      (one_each_above Long (IsLongLine s words) OfLine (from_line 4 (omega arith)) (one_each_above BadLine (SaysNothing s words) OfItem from_item one_item))

abbrev OfRead : State → List ℕ → TextCause → Type 0
OfRead s line cause = (ArePassed (loose_words_of line) → ⊥) × WordsStand s (loose_words_of line) cause

refused_once : (s : State) (line : List ℕ) (c d : TextCause) → IsLowest (Stands s line) c → IsLowest (Stands s line) d → c ≡ d
refused_once s line c d a b =
    lowest_once (Stands s line) c d (one_each_above NotText (IsText line → ⊥) (OfRead s line) (λ cause h. from_words s (loose_words_of line) cause h.1) (λ c d same p q. one_words s (loose_words_of line) c d same p.1 q.1)) a b

gives_free : (g : Group) (cause : TextCause) → g ≡ after_done → EndStands g cause → ⊥
gives_free g cause is h = let end = subst (λ g. EndStands g cause) is h in end

ends_once : (g : Group) (c d : TextCause) → EndStands g c → EndStands g d → c ≡ d
ends_once before_head c d a b = a ∙ sym b
ends_once after_done c d a b = absurd a
ends_once g c d a b = a ∙ sym b

pub specifications_lawful : IsLawful specifications
specifications_lawful = record {
  taken_once = takes_once;
  taken_free = λ s line t cause takes h. takes.free.free cause h;
  refused_once = refused_once;
  given_once = λ s v w a b. a.1 ∙ sym b.1;
  given_free = λ s v cause a b. gives_free s.group cause a.0 b;
  ended_once = λ s c d a b. ends_once s.group c d a b;
}
