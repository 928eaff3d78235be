-- Of the rows against a line, the one that stands where those above it do not.
use Rattle.std.proofs.Common.{ℕ, ◌≡◌, ◌≤◌, inr, arith, subst}
use Rattle.text_cause.specs.declared.cause.TextCause.{TextCause}
use Rattle.text_cause.specs.declared.cause.TextCause.TheVariants.{NotText, BadHead, BadLine}
use Rattle.text_cause.specs.declared.line_fault.LineFault.{LineFault}
use Rattle.text_cause.specs.declared.line_fault.LineFault.TheVariants.{Bad, Memory}
use Rattle.text_cause.specs.Answers.{IsBadBy}
use Rattle.text_cause.specs.Cause.{IsLowest, IsFree, Row, Or, SaidStands, LineStands}
use Rattle.text_cause.proofs.Lowest.{From, from_row, from_or, row_lowest, row_free, or_left, or_right, or_free, some_number, OneEach, one_each_above, lowest_once}

module _ (not_text lacks_head : Type 0) {Said : Type 0} (MaySay : Said → Type 0) (Blocks : Said → TextCause → Type 0) where
  abbrev SaysNone : Type 0
  SaysNone = (said : Said) → MaySay said → ⊥

  abbrev Below : TextCause → Type 0
  Below = Or (Row BadLine SaysNone) (SaidStands MaySay Blocks)

  abbrev BelowHead : TextCause → Type 0
  BelowHead = Or (Row BadHead lacks_head) Below

  none_said : SaysNone → IsFree (SaidStands MaySay Blocks)
  none_said none = record { free = λ cause h. none h.0 h.1 }

  from_none : (n : ℕ) → SaysNone → From n (SaidStands MaySay Blocks)
  from_none n none cause h = absurd (none h.0 h.1)

  -- a byte that is not allowed is named before all else
  pub not_text_lowest : not_text → IsLowest (LineStands not_text lacks_head MaySay Blocks) NotText
  not_text_lowest bad = or_left (Row NotText not_text) BelowHead NotText (row_lowest NotText not_text bad) (λ other h. some_number other)

  pub bad_head_lowest : (not_text → ⊥) → SaysNone → lacks_head → IsLowest (LineStands not_text lacks_head MaySay Blocks) BadHead
  bad_head_lowest strict none lacks =
      or_right (Row NotText not_text) BelowHead BadHead (row_free NotText not_text strict)
      (or_left (Row BadHead lacks_head) Below BadHead (row_lowest BadHead lacks_head lacks) (from_or 2 (Row BadLine SaysNone) (SaidStands MaySay Blocks) (from_row 2 BadLine SaysNone (omega arith)) (from_none 2 none)))

  pub bad_line_lowest : (not_text → ⊥) → (lacks_head → ⊥) → SaysNone → IsLowest (LineStands not_text lacks_head MaySay Blocks) BadLine
  bad_line_lowest strict has none =
      or_right (Row NotText not_text) BelowHead BadLine (row_free NotText not_text strict)
      (or_right (Row BadHead lacks_head) Below BadLine (row_free BadHead lacks_head has) (or_left (Row BadLine SaysNone) (SaidStands MaySay Blocks) BadLine (row_lowest BadLine SaysNone none) (from_none 4 none)))

  -- where a line says one thing at most
  module _ (once : (x y : Said) → MaySay x → MaySay y → x ≡ y) (said : Said) (may : MaySay said) (strict : not_text → ⊥) (has : lacks_head → ⊥) where
    said_lowest : (cause : TextCause) → IsLowest (Blocks said) cause → IsLowest (SaidStands MaySay Blocks) cause
    said_lowest cause least = record { stands = (said, may, least.stands); lowest = λ other lt h. least.lowest other lt (subst (λ x. Blocks x other) (once h.0 said h.1 may) h.2) }

    said_free : IsFree (Blocks said) → IsFree (SaidStands MaySay Blocks)
    said_free free = record { free = λ cause h. free.free cause (subst (λ x. Blocks x cause) (once h.0 said h.1 may) h.2) }

    pub blocked_lowest : (cause : TextCause) → IsLowest (Blocks said) cause → IsLowest (LineStands not_text lacks_head MaySay Blocks) cause
    blocked_lowest cause least =
        or_right (Row NotText not_text) BelowHead cause (row_free NotText not_text strict)
        (or_right (Row BadHead lacks_head) Below cause (row_free BadHead lacks_head has) (or_right (Row BadLine SaysNone) (SaidStands MaySay Blocks) cause (row_free BadLine SaysNone (λ none. none said may)) (said_lowest cause least)))

    -- what stands against what the line says stands against the line
    pub blocked_bad : (fault : LineFault) → IsBadBy (Blocks said) fault → IsBadBy (LineStands not_text lacks_head MaySay Blocks) fault
    blocked_bad Memory bad = tt
    blocked_bad (Bad cause) bad = blocked_lowest cause bad

    pub line_free : IsFree (Blocks said) → IsFree (LineStands not_text lacks_head MaySay Blocks)
    line_free free =
        or_free (Row NotText not_text) BelowHead (row_free NotText not_text strict)
        (or_free (Row BadHead lacks_head) Below (row_free BadHead lacks_head has) (or_free (Row BadLine SaysNone) (SaidStands MaySay Blocks) (row_free BadLine SaysNone (λ none. none said may)) (said_free free)))

  -- what a line says is not blocked where nothing stands against the line
  pub said_unblocked : (said : Said) → MaySay said → IsFree (LineStands not_text lacks_head MaySay Blocks) → IsFree (Blocks said)
  said_unblocked said may free = record { free = λ cause blocks. free.free cause (inr (inr (inr (said, may, blocks)))) }

  -- a line that says one thing at most has one lowest cause at most
  module _ (once : (x y : Said) → MaySay x → MaySay y → x ≡ y) (from : (said : Said) → From 5 (Blocks said)) (one : (said : Said) → OneEach (Blocks said)) where
    from_said : From 5 (SaidStands MaySay Blocks)
    from_said cause h = from h.0 cause h.2

    one_said : OneEach (SaidStands MaySay Blocks)
    one_said c d same a b = one a.0 c d same a.2 (subst (λ x. Blocks x d) (once b.0 a.0 b.1 a.1) b.2)

    from_below : (n : ℕ) → n ≤ 4 → From n Below
    from_below n le = from_or n (Row BadLine SaysNone) (SaidStands MaySay Blocks) (from_row n BadLine SaysNone le) (λ cause h. let five = from_said cause h in omega (arith, le, five))

    from_below_head : From 2 BelowHead
    from_below_head = from_or 2 (Row BadHead lacks_head) Below (from_row 2 BadHead lacks_head (omega arith)) (from_below 2 (omega arith))

    pub line_once : (c d : TextCause) → IsLowest (LineStands not_text lacks_head MaySay Blocks) c → IsLowest (LineStands not_text lacks_head MaySay Blocks) d → c ≡ d
    line_once c d a b =
        lowest_once (LineStands not_text lacks_head MaySay Blocks) c d
        (one_each_above NotText not_text BelowHead from_below_head (one_each_above BadHead lacks_head Below (from_below 3 (omega arith)) (one_each_above BadLine SaysNone (SaidStands MaySay Blocks) from_said one_said))) a b
