-- What stands against a line, from what stands against what it says.
use Rattle.std.proofs.Common.{ℕ, ◌≡◌, ◌<◌, inl, inr, List, [], ◌∷◌, refl, sym, ap, ◌∙◌, arith, subst, true, false}
use Rattle.text_cause.specs.declared.cause.TextCause.{TextCause}
use Rattle.text_cause.specs.declared.cause.TextCause.TheVariants.{NotText, BadHead, Long, BadLine}
use Rattle.strict_text.specs.Pieces.{loose_words_of}
use Rattle.ctl_text.specs.Lines.{IsText, ArePassed, IsRequire}
use Rattle.ctl_text.specs.declared.format.Format.{Format}
use Rattle.ctl_text.specs.Item.{Said, head_line, words_for}
use Rattle.ctl_text.specs.State.{State, Group, before_head, among_roles, in_role, among_kinds, in_kind, among_processes, among_edges, after_done, MayStand, after_line}
use Rattle.text_cause.specs.Cause.{IsLowest, IsFree, cause_no}
use Rattle.ctl_text.specs.Cause.{BarsLine, MaySay, IsLongLine, WordsStand, Stands, Takes}
use Rattle.text_cause.specs.declared.line_fault.LineFault.{LineFault}
use Rattle.text_cause.specs.declared.line_fault.LineFault.TheVariants.{Bad, Memory}
use Rattle.text_cause.specs.Answers.{IsBadBy}
use Rattle.text_cause.proofs.Lowest.{some_number}
use Rattle.ctl_text.specs.inside.Judged.{IsTakenAs, CanSay, misplaced}
use Rattle.ctl_text.specs.inside.LineCause.{LineBlocks}
use Rattle.ctl_text.proofs.ByCause.{lowest_by_cause}
use Rattle.ctl_text.proofs.ItemLaws.{says_once, other_clause}

head_only : (g : Group) (x : Said) → MayStand g x → g ≡ before_head → (format : Format) × (x ≡ head_line format)
head_only before_head (head_line format) may is = (format, refl)
head_only before_head x may is = absurd may
head_only g x may is = cc

number_is : (c d : TextCause) → c ≡ d → cause_no c ≡ cause_no d
number_is c d e = ap cause_no e

-- where the words say nothing that may stand there: above the head
head_below : (s : State) (words : List (List ℕ)) → ((item : Said) → MaySay s words item → ⊥) → (other : TextCause) → cause_no other < 2 → WordsStand s words other → ⊥
head_below s words none other lt (inl h) = let e = number_is other BadHead h.0 in omega arith
head_below s words none other lt (inr (inl h)) = let e = number_is other Long h.0 in omega arith
head_below s words none other lt (inr (inr (inl h))) = let e = number_is other BadLine h.0 in omega arith
head_below s words none other lt (inr (inr (inr (item, may, blocks)))) = none item may

not_head : (s : State) (words : List (List ℕ)) → s.group ≡ before_head → ((item : Said) → MaySay s words item → ⊥) → (format : Format) → words ≡ words_for (head_line format) → ⊥
not_head s words is none format words_are = none (head_line format) (record { words_are = words_are; spelled = tt }, subst (λ g. MayStand g (head_line format)) (sym is) tt, tt)

pub head_lowest : (s : State) (words : List (List ℕ)) → s.group ≡ before_head → ((item : Said) → MaySay s words item → ⊥) → IsLowest (WordsStand s words) BadHead
head_lowest s words is none = record { stands = inl (refl, record { first = is; other = not_head s words is none }); lowest = head_below s words none }

-- and below it
line_below : (s : State) (words : List (List ℕ)) → (s.group ≡ before_head → ⊥) → (IsLongLine s words → ⊥) → ((item : Said) → MaySay s words item → ⊥) → (other : TextCause) → cause_no other < 4 → WordsStand s words other → ⊥
line_below s words below short none other lt (inl h) = below h.1.first
line_below s words below short none other lt (inr (inl h)) = short h.1
line_below s words below short none other lt (inr (inr (inl h))) = let e = number_is other BadLine h.0 in omega arith
line_below s words below short none other lt (inr (inr (inr (item, may, blocks)))) = none item may

pub line_lowest : (s : State) (words : List (List ℕ)) → (s.group ≡ before_head → ⊥) → (IsLongLine s words → ⊥) → ((item : Said) → MaySay s words item → ⊥) → IsLowest (WordsStand s words) BadLine
line_lowest s words below short none = record { stands = inr (inr (inl (refl, none))); lowest = line_below s words below short none }

pub no_long : (s : State) (words : List (List ℕ)) → (IsRequire words → ⊥) → IsLongLine s words → ⊥
no_long s [] other h = h
no_long s (word ∷ words) other h = other h.0

moved : (s : State) (h : Group) (words : List (List ℕ)) → s.group ≡ h → ((item : Said) → CanSay h words item → ⊥) → (item : Said) → MaySay s words item → ⊥
moved s h words e none item may = none item (may.0, subst (λ g. MayStand g item) e may.1)

pub misplaced_lowest : (s : State) (g : Group) (words : List (List ℕ)) → s.group ≡ g → (IsRequire words → ⊥) → ((item : Said) → CanSay g words item → ⊥) → IsLowest (WordsStand s words) (misplaced g)
misplaced_lowest s before_head words is other none = head_lowest s words is (moved s _ words is none)
misplaced_lowest s among_roles words is other none = line_lowest s words (λ e. let h = sym is ∙ e in cc) (no_long s words other) (moved s _ words is none)
misplaced_lowest s (in_role r) words is other none = line_lowest s words (λ e. let h = sym is ∙ e in cc) (no_long s words other) (moved s _ words is none)
misplaced_lowest s among_kinds words is other none = line_lowest s words (λ e. let h = sym is ∙ e in cc) (no_long s words other) (moved s _ words is none)
misplaced_lowest s (in_kind k) words is other none = line_lowest s words (λ e. let h = sym is ∙ e in cc) (no_long s words other) (moved s _ words is none)
misplaced_lowest s among_processes words is other none = line_lowest s words (λ e. let h = sym is ∙ e in cc) (no_long s words other) (moved s _ words is none)
misplaced_lowest s among_edges words is other none = line_lowest s words (λ e. let h = sym is ∙ e in cc) (no_long s words other) (moved s _ words is none)
misplaced_lowest s after_done words is other none = line_lowest s words (λ e. let h = sym is ∙ e in cc) (no_long s words other) (moved s _ words is none)

pub may_say : (s : State) (words : List (List ℕ)) (item : Said) → (IsRequire words → ⊥) → CanSay s.group words item → MaySay s words item
may_say s words item other can = (can.0, can.1, other_clause s words item other can.0)

-- where the words say something that may stand there
said_head : (s : State) (words : List (List ℕ)) (item : Said) → MaySay s words item → s.group ≡ before_head → (format : Format) × (words ≡ words_for (head_line format))
said_head s words item may is = let (format, head) = head_only s.group item may.1 is in (format, may.0.words_are ∙ ap words_for head)

blocked_below : (s : State) (words : List (List ℕ)) (item : Said) (cause : TextCause) → MaySay s words item → (IsLongLine s words → ⊥) → IsLowest (BarsLine s item) cause → (other : TextCause) → cause_no other < cause_no cause → WordsStand s words other → ⊥
blocked_below s words item cause may short least other lt (inl h) = (let (format, head) = said_head s words item may h.1.first in h.1.other format head)
blocked_below s words item cause may short least other lt (inr (inl h)) = short h.1
blocked_below s words item cause may short least other lt (inr (inr (inl h))) = h.1 item may
blocked_below s words item cause may short least other lt (inr (inr (inr (y, y_may, blocks)))) =
    least.lowest other lt (subst (λ y. BarsLine s y other) (says_once s words y item y_may may) blocks)

pub blocked_lowest : (s : State) (words : List (List ℕ)) (item : Said) (cause : TextCause) → MaySay s words item → (IsLongLine s words → ⊥) → IsLowest (BarsLine s item) cause → IsLowest (WordsStand s words) cause
blocked_lowest s words item cause may short least = record { stands = inr (inr (inr (item, may, least.stands))); lowest = blocked_below s words item cause may short least }

-- what stands against what the words say stands against them
pub said_refused : (s : State) (words : List (List ℕ)) (item : Said) (fault : LineFault) → MaySay s words item → (IsLongLine s words → ⊥) → IsBadBy (LineBlocks s item) fault → IsBadBy (WordsStand s words) fault
said_refused s words item Memory may short bad = bad
said_refused s words item (Bad cause) may short bad = blocked_lowest s words item cause may short (lowest_by_cause s item cause bad)

free_words : (s : State) (words : List (List ℕ)) (item : Said) → MaySay s words item → (IsLongLine s words → ⊥) → IsFree (BarsLine s item) → (other : TextCause) → WordsStand s words other → ⊥
free_words s words item may short free other (inl h) = (let (format, head) = said_head s words item may h.1.first in h.1.other format head)
free_words s words item may short free other (inr (inl h)) = short h.1
free_words s words item may short free other (inr (inr (inl h))) = h.1 item may
free_words s words item may short free other (inr (inr (inr (y, y_may, blocks)))) =
    free.free other (subst (λ y. BarsLine s y other) (says_once s words y item y_may may) blocks)

pub words_free : (s : State) (words : List (List ℕ)) (item : Said) → MaySay s words item → (IsLongLine s words → ⊥) → IsFree (BarsLine s item) → IsFree (WordsStand s words)
words_free s words item may short free = record { free = free_words s words item may short free }

pub taken_as : (s t : State) (words : List (List ℕ)) (item : Said) → MaySay s words item → (IsLongLine s words → ⊥) → IsFree (BarsLine s item) → t ≡ after_line s item → IsTakenAs s words t
taken_as s t words item may short free next = record { free = words_free s words item may short free; item = item; leaves = record { may = may; next = next } }

-- from the words to the line
free_line : (s : State) (line : List ℕ) → IsText line → IsFree (WordsStand s (loose_words_of line)) → (cause : TextCause) → Stands s line cause → ⊥
free_line s line text free cause (inl h) = h.1 text
free_line s line text free cause (inr h) = free.free cause h.1

free_passed : (s : State) (line : List ℕ) → IsText line → ArePassed (loose_words_of line) → (cause : TextCause) → Stands s line cause → ⊥
free_passed s line text passed cause (inl h) = h.1 text
free_passed s line text passed cause (inr h) = h.0 passed

pub passed_takes : (s : State) (line : List ℕ) (ws : List (List ℕ)) → ws ≡ loose_words_of line → IsText line → ArePassed ws → Takes s line s
passed_takes s line ws is text passed = let p = subst ArePassed is passed in record { free = record { free = free_passed s line text p }; leaves = inl (p, refl) }

pub taken_takes : (s t : State) (line : List ℕ) (ws us : List (List ℕ)) → ws ≡ loose_words_of line → us ≡ loose_words_of line → IsText line → (ArePassed ws → ⊥) → IsTakenAs s us t → Takes s line t
taken_takes s t line ws us ws_are us_are text not_passed taken =
    let here : IsTakenAs s (loose_words_of line) t = subst (λ us. IsTakenAs s us t) us_are taken in record {
      free = record { free = free_line s line text here.free };
      leaves = inr (subst (λ ws. ArePassed ws → ⊥) ws_are not_passed, (here.item, here.leaves));
    }

lowest_line : (s : State) (line : List ℕ) (cause : TextCause) → IsText line → IsLowest (WordsStand s (loose_words_of line)) cause → (other : TextCause) → cause_no other < cause_no cause → Stands s line other → ⊥
lowest_line s line cause text least other lt (inl h) = h.1 text
lowest_line s line cause text least other lt (inr h) = least.lowest other lt h.1

pub words_refused : (s : State) (line : List ℕ) (ws us : List (List ℕ)) (cause : TextCause) → ws ≡ loose_words_of line → us ≡ loose_words_of line → IsText line → (ArePassed ws → ⊥) → IsLowest (WordsStand s us) cause → IsLowest (Stands s line) cause
words_refused s line ws us cause ws_are us_are text not_passed least =
    let here : IsLowest (WordsStand s (loose_words_of line)) cause = subst (λ us. IsLowest (WordsStand s us) cause) us_are least in
    record { stands = inr (subst (λ ws. ArePassed ws → ⊥) ws_are not_passed, here.stands); lowest = lowest_line s line cause text here }

pub fault_refused : (s : State) (line : List ℕ) (ws us : List (List ℕ)) (fault : LineFault) → ws ≡ loose_words_of line → us ≡ loose_words_of line → IsText line → (ArePassed ws → ⊥) → IsBadBy (WordsStand s us) fault → IsBadBy (Stands s line) fault
fault_refused s line ws us Memory ws_are us_are text not_passed bad = bad
fault_refused s line ws us (Bad cause) ws_are us_are text not_passed bad = words_refused s line ws us cause ws_are us_are text not_passed bad

-- a byte that is not allowed is named before all else
pub text_refused : (s : State) (line : List ℕ) → (IsText line → ⊥) → IsLowest (Stands s line) NotText
text_refused s line bad = record { stands = inl (refl, bad); lowest = λ other lt h. let le = some_number other in omega arith }
