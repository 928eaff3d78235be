-- What reading a line and a text answers.
use Rattle.std.specs.Prelude.{ℕ, ◌≡◌, ◌⊎◌, List}
use Rattle.text_cause.specs.declared.cause.TextCause.{TextCause}
use Rattle.text_cause.specs.declared.cause.TextFault.{TextFault}
use Rattle.text_cause.specs.declared.cause.TextFault.TheVariants.{At, Memory}
use Rattle.text_cause.specs.declared.line_fault.LineFault.{LineFault}
use Rattle.text_cause.specs.declared.line_fault.LineFault.TheVariants.{Bad, Memory as NoMemory}
use Rattle.text_cause.specs.Cause.{IsLowest}
use Rattle.text_cause.specs.Grammar.{Grammar, RefusedAt}

-- want of memory, or the lowest cause that stands
abbrev pub IsBadBy : (TextCause → Type 0) → LineFault → Type 0
IsBadBy against NoMemory = Unit {0}
IsBadBy against (Bad cause) = IsLowest against cause

-- want of memory, or the first bad line below this state, of which the first is line n, and its lowest cause
abbrev pub IsRefusalFrom : {State Line Value : Type 0} → Grammar State Line Value → State → ℕ → List Line → TextFault → Type 0
IsRefusalFrom g s n lines Memory = Unit {0}
IsRefusalFrom g s n lines (At line what) = RefusedAt g s n lines line what

-- want of memory, or the first bad line of the bytes and its lowest cause
abbrev pub IsRefusal : {State Line Value : Type 0} → Grammar State Line Value → State → List ℕ → TextFault → Type 0
IsRefusal g first bytes fault = IsRefusalFrom g first 1 (g.lines bytes) fault

-- want of memory, or this line with this cause
abbrev pub IsFaultAt : ℕ → TextCause → TextFault → Type 0
IsFaultAt at cause fault = (fault ≡ Memory) ⊎ (fault ≡ At at cause)
