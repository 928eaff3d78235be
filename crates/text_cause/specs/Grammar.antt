-- What a text of lines stands for, and where it is refused, by its grammar.
use Rattle.std.specs.Prelude.{ℕ, ◌≡◌, ◌+◌, ◌⊎◌, List, [], ◌∷◌}
use Rattle.text_cause.specs.declared.cause.TextCause.{TextCause}
use Rattle.text_cause.specs.Cause.{IsLowest}

-- how bytes are cut into lines; which state a line leaves that is taken, and what stands against it; which value a state gives at the end of
-- the text, and what stands against an end there
pub record Grammar (State Line Value : Type 0) : Type 1 where
  pub lines : List ℕ → List Line
  pub Takes : State → Line → State → Type 0
  pub Stands : State → Line → TextCause → Type 0
  pub Gives : State → Value → Type 0
  pub EndStands : State → TextCause → Type 0

-- the lines below this state are taken, and the last leaves this value
abbrev pub StandsFor : {State Line Value : Type 0} → Grammar State Line Value → State → List Line → Value → Type 0
StandsFor g s [] v = g.Gives s v
StandsFor {State} g s (line ∷ lines) v = (t : State) × g.Takes s line t × StandsFor g t lines v

-- the lines below this state, of which the first is line n, are taken as far as line at, which has this lowest cause
abbrev pub RefusedAt : {State Line Value : Type 0} → Grammar State Line Value → State → ℕ → List Line → ℕ → TextCause → Type 0
RefusedAt g s n [] at cause = (at ≡ n) × g.EndStands s cause
RefusedAt {State} g s n (line ∷ lines) at cause = ((at ≡ n) × IsLowest (g.Stands s line) cause) ⊎ ((t : State) × g.Takes s line t × RefusedAt g t (n + 1) lines at cause)

-- the bytes, from their first state, are a text of the value
abbrev pub IsText : {State Line Value : Type 0} → Grammar State Line Value → State → List ℕ → Value → Type 0
IsText g first bytes v = StandsFor g first (g.lines bytes) v

-- the first bad line of the bytes, counted from 1, and its lowest cause
abbrev pub IsRefused : {State Line Value : Type 0} → Grammar State Line Value → State → List ℕ → ℕ → TextCause → Type 0
IsRefused g first bytes at cause = RefusedAt g first 1 (g.lines bytes) at cause
