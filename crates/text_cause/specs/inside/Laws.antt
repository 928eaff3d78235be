-- What a lawful grammar decides.
use Rattle.std.specs.Prelude.{ℕ, ◌≡◌, List}
use Rattle.text_cause.specs.declared.cause.TextCause.{TextCause}
use Rattle.text_cause.specs.Cause.{IsLowest}
use Rattle.text_cause.specs.Grammar.{Grammar, IsText, IsRefused}

-- a line leaves one state and has one lowest cause at most, and an end gives one value and has one cause at most; where a line is taken or an
-- end gives a value, nothing stands against it
pub record IsLawful {State Line Value : Type 0} (g : Grammar State Line Value) : Type 0 where
  pub taken_once : (s : State) (line : Line) (t u : State) → g.Takes s line t → g.Takes s line u → t ≡ u
  pub taken_free : (s : State) (line : Line) (t : State) (cause : TextCause) → g.Takes s line t → g.Stands s line cause → ⊥
  pub refused_once : (s : State) (line : Line) (c d : TextCause) → IsLowest (g.Stands s line) c → IsLowest (g.Stands s line) d → c ≡ d
  pub given_once : (s : State) (v w : Value) → g.Gives s v → g.Gives s w → v ≡ w
  pub given_free : (s : State) (v : Value) (cause : TextCause) → g.Gives s v → g.EndStands s cause → ⊥
  pub ended_once : (s : State) (c d : TextCause) → g.EndStands s c → g.EndStands s d → c ≡ d

-- bytes are a text of one value at most
abbrev pub OneValue : {State Line Value : Type 0} → Grammar State Line Value → Type 0
OneValue {State} {Line} {Value} g = (first : State) (bytes : List ℕ) (v w : Value) → IsText g first bytes v → IsText g first bytes w → v ≡ w

-- no bytes are both a text and refused
abbrev pub NeverBoth : {State Line Value : Type 0} → Grammar State Line Value → Type 0
NeverBoth {State} {Line} {Value} g = (first : State) (bytes : List ℕ) (v : Value) (at : ℕ) (cause : TextCause) → IsText g first bytes v → IsRefused g first bytes at cause → ⊥

-- it is the same line, and the same cause
pub record IsSameRefusal (at line : ℕ) (cause what : TextCause) : Type 0 where
  pub line_is : at ≡ line
  pub cause_is : cause ≡ what

-- bytes are refused at one line, with one cause, at most
abbrev pub OneRefusal : {State Line Value : Type 0} → Grammar State Line Value → Type 0
OneRefusal {State} g = (first : State) (bytes : List ℕ) (at line : ℕ) (cause what : TextCause) → IsRefused g first bytes at cause → IsRefused g first bytes line what → IsSameRefusal at line cause what
