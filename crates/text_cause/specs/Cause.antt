-- Of the causes that stand against a line, the one that is named.
use Rattle.std.specs.Prelude.{ℕ, ◌≡◌, ◌<◌, ◌⊎◌, List, codes}
use Rattle.text_cause.specs.declared.cause.TextCause.{TextCause}
use Rattle.text_cause.specs.declared.cause.TextCause.TheVariants.{NotText, BadHead, Long, BadLine, UnknownName, Twice, SelfArc, NoArc, TooMany, ClosureOver, SelfEdge, EdgeTwice, DegreeOver, RoleMismatch, NotAPair, NotRising, Disagree, NotAStart}

-- the order of the causes
abbrev pub cause_no : TextCause → ℕ
cause_no NotText = 1
cause_no BadHead = 2
cause_no Long = 3
cause_no BadLine = 4
cause_no UnknownName = 5
cause_no Twice = 6
cause_no SelfArc = 7
cause_no (NoArc p) = 8
cause_no (TooMany limit) = 9
cause_no ClosureOver = 10
cause_no SelfEdge = 11
cause_no EdgeTwice = 12
cause_no (DegreeOver k) = 13
cause_no RoleMismatch = 14
cause_no (NotAPair fault) = 15
cause_no NotRising = 16
cause_no Disagree = 17
cause_no NotAStart = 18

-- the name of a cause, without its fields
abbrev pub cause_word : TextCause → List ℕ
cause_word NotText = codes "NotText"
cause_word BadHead = codes "BadHead"
cause_word Long = codes "Long"
cause_word BadLine = codes "BadLine"
cause_word UnknownName = codes "UnknownName"
cause_word Twice = codes "Twice"
cause_word SelfArc = codes "SelfArc"
cause_word (NoArc p) = codes "NoArc"
cause_word (TooMany limit) = codes "TooMany"
cause_word ClosureOver = codes "ClosureOver"
cause_word SelfEdge = codes "SelfEdge"
cause_word EdgeTwice = codes "EdgeTwice"
cause_word (DegreeOver k) = codes "DegreeOver"
cause_word RoleMismatch = codes "RoleMismatch"
cause_word (NotAPair fault) = codes "NotAPair"
cause_word NotRising = codes "NotRising"
cause_word Disagree = codes "Disagree"
cause_word NotAStart = codes "NotAStart"

-- of the causes that stand it has the lowest number
pub record IsLowest (against : TextCause → Type 0) (cause : TextCause) : Type 0 where
  pub stands : against cause
  pub lowest : (other : TextCause) → cause_no other < cause_no cause → against other → ⊥

-- none stands
pub record IsFree (against : TextCause → Type 0) : Type 0 where
  pub free : (cause : TextCause) → against cause → ⊥

-- a row of causes: this one, where the fact holds
abbrev pub Row : TextCause → Type 0 → TextCause → Type 0
Row named fact cause = (cause ≡ named) × fact

-- this one, with a number at which the fact holds
abbrev pub NumberRow : (ℕ → TextCause) → (ℕ → Type 0) → TextCause → Type 0
NumberRow named fact cause = (n : ℕ) × (cause ≡ named n) × fact n

-- what stands in one of two rows
abbrev pub Or : (TextCause → Type 0) → (TextCause → Type 0) → TextCause → Type 0
Or rows others cause = rows cause ⊎ others cause

-- what stands against what a line says, if that may stand there
abbrev pub SaidStands : {Said : Type 0} → (Said → Type 0) → (Said → TextCause → Type 0) → TextCause → Type 0
SaidStands {Said} MaySay Blocks cause = (said : Said) × MaySay said × Blocks said cause

-- what stands against a line: it has a byte that is not allowed, lacks the head, says nothing that may stand there, or is blocked in what it says
abbrev pub LineStands : Type 0 → Type 0 → {Said : Type 0} → (Said → Type 0) → (Said → TextCause → Type 0) → TextCause → Type 0
LineStands not_text lacks_head {Said} MaySay Blocks =
    Or (Row NotText not_text) (Or (Row BadHead lacks_head) (Or (Row BadLine ((said : Said) → MaySay said → ⊥)) (SaidStands MaySay Blocks)))
