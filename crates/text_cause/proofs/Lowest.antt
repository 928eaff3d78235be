-- Which of several rows of causes is the lowest.
use Rattle.std.proofs.Common.{ℕ, ◌≡◌, ◌<◌, ◌≤◌, ◌+◌, inl, inr, refl, sym, ◌∙◌, ap, arith}
use Rattle.std.proofs.lemmas.Bool.{cases_lt}
use Rattle.text_cause.specs.declared.cause.TextCause.{TextCause}
use Rattle.text_cause.specs.declared.cause.TextCause.TheVariants.{NotText}
use Rattle.text_cause.specs.Cause.{IsLowest, IsFree, NumberRow, Row, Or, cause_no}

-- no cause with a lower number is in these rows
abbrev pub From : ℕ → (TextCause → Type 0) → Type 0
From n A = (cause : TextCause) → A cause → n ≤ cause_no cause

pub from_row : (n : ℕ) (c : TextCause) (P : Type 0) → n ≤ cause_no c → From n (Row c P)
from_row n c P le cause h = let e : cause_no cause ≡ cause_no c = ap cause_no h.0 in omega arith

pub from_or : (n : ℕ) (A B : TextCause → Type 0) → From n A → From n B → From n (Or A B)
from_or n A B a b cause (inl h) = a cause h
from_or n A B a b cause (inr h) = b cause h

pub row_lowest : (c : TextCause) (P : Type 0) → P → IsLowest (Row c P) c
row_lowest c P p = record { stands = (refl, p); lowest = λ other lt h. let e : cause_no other ≡ cause_no c = ap cause_no h.0 in omega arith }

pub row_free : (c : TextCause) (P : Type 0) → (P → ⊥) → IsFree (Row c P)
row_free c P none = record { free = λ cause h. none h.1 }

free_either : (A B : TextCause → Type 0) → IsFree A → IsFree B → (cause : TextCause) → Or A B cause → ⊥
free_either A B a b cause (inl h) = a.free cause h
free_either A B a b cause (inr h) = b.free cause h

pub or_free : (A B : TextCause → Type 0) → IsFree A → IsFree B → IsFree (Or A B)
or_free A B a b = record { free = free_either A B a b }

left_lowest : (A B : TextCause → Type 0) (c : TextCause) → IsLowest A c → From (cause_no c) B → (other : TextCause) → cause_no other < cause_no c → Or A B other → ⊥
left_lowest A B c a b other lt (inl h) = a.lowest other lt h
left_lowest A B c a b other lt (inr h) = let le = b other h in omega arith

pub or_left : (A B : TextCause → Type 0) (c : TextCause) → IsLowest A c → From (cause_no c) B → IsLowest (Or A B) c
or_left A B c a b = record { stands = inl a.stands; lowest = left_lowest A B c a b }

right_lowest : (A B : TextCause → Type 0) (c : TextCause) → IsFree A → IsLowest B c → (other : TextCause) → cause_no other < cause_no c → Or A B other → ⊥
right_lowest A B c a b other lt (inl h) = a.free other h
right_lowest A B c a b other lt (inr h) = b.lowest other lt h

pub or_right : (A B : TextCause → Type 0) (c : TextCause) → IsFree A → IsLowest B c → IsLowest (Or A B) c
or_right A B c a b = record { stands = inr b.stands; lowest = right_lowest A B c a b }

-- each cause has a number
pub some_number : (cause : TextCause) → 1 ≤ cause_no cause
some_number NotText = omega arith
some_number cause = omega arith

-- two lowest causes have one number
pub lowest_number : (A : TextCause → Type 0) (c d : TextCause) → IsLowest A c → IsLowest A d → cause_no c ≡ cause_no d
lowest_number A c d a b = elim (cases_lt (cause_no c) (cause_no d)) [
  | inl lt ↦ absurd (b.lowest c lt a.stands)
  | inr le ↦ elim (cases_lt (cause_no d) (cause_no c)) [ inl lt ↦ absurd (a.lowest d lt b.stands) | inr ge ↦ omega (arith, le, ge) ]
]

-- of each number one cause stands at most
abbrev pub OneEach : (TextCause → Type 0) → Type 0
OneEach A = (c d : TextCause) → cause_no c ≡ cause_no d → A c → A d → c ≡ d

pub lowest_once : (A : TextCause → Type 0) (c d : TextCause) → OneEach A → IsLowest A c → IsLowest A d → c ≡ d
lowest_once A c d one a b = one c d (lowest_number A c d a b) a.stands b.stands

pub one_each_row : (c : TextCause) (P : Type 0) → OneEach (Row c P)
one_each_row c P a b same p q = p.0 ∙ sym q.0

-- each cause in these rows has this number at most
abbrev pub To : ℕ → (TextCause → Type 0) → Type 0
To n A = (cause : TextCause) → A cause → cause_no cause ≤ n

pub to_row : (n : ℕ) (c : TextCause) (P : Type 0) → cause_no c ≤ n → To n (Row c P)
to_row n c P le cause h = let e : cause_no cause ≡ cause_no c = ap cause_no h.0 in omega arith

-- rows above others, whose causes have greater numbers
pub one_each_or : (n : ℕ) (A B : TextCause → Type 0) → To n A → From (n + 1) B → OneEach A → OneEach B → OneEach (Or A B)
one_each_or n A B to from one other c d same (inl p) (inl q) = one c d same p q
one_each_or n A B to from one other c d same (inl p) (inr q) = let le = to c p in let ge = from d q in absurd (omega (arith, le, ge, same))
one_each_or n A B to from one other c d same (inr p) (inl q) = let le = to d q in let ge = from c p in absurd (omega (arith, le, ge, same))
one_each_or n A B to from one other c d same (inr p) (inr q) = other c d same p q

pub one_each_above : (c : TextCause) (P : Type 0) (A : TextCause → Type 0) → From (cause_no c + 1) A → OneEach A → OneEach (Or (Row c P) A)
one_each_above c P A from one = one_each_or (cause_no c) (Row c P) A (to_row (cause_no c) c P (omega arith)) from (one_each_row c P) one

-- rows of a cause with a number
pub from_numbered : (n : ℕ) (named : ℕ → TextCause) (P : ℕ → Type 0) → ((k : ℕ) → n ≤ cause_no (named k)) → From n (NumberRow named P)
from_numbered n named P le cause (k, is, p) = let e : cause_no cause ≡ cause_no (named k) = ap cause_no is in let h = le k in omega (arith, e, h)

pub to_numbered : (n : ℕ) (named : ℕ → TextCause) (P : ℕ → Type 0) → ((k : ℕ) → cause_no (named k) ≤ n) → To n (NumberRow named P)
to_numbered n named P le cause (k, is, p) = let e : cause_no cause ≡ cause_no (named k) = ap cause_no is in let h = le k in omega (arith, e, h)

pub one_each_numbered : (named : ℕ → TextCause) (P : ℕ → Type 0) → ((k l : ℕ) → P k → P l → k ≡ l) → OneEach (NumberRow named P)
one_each_numbered named P once c d same (k, c_is, p) (l, d_is, q) = c_is ∙ ap named (once k l p q) ∙ sym d_is
