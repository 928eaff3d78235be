-- The printed texts of a file that is refused, and of numbers that are.
use Rattle.std.specs.Prelude.{ℕ, ◌++◌, List, codes, decimal}
use Rattle.text_cause.specs.declared.cause.TextCause.{TextCause}
use Rattle.text_cause.specs.Cause.{cause_word}

-- the file's word, the line, counted from 1, and the cause
abbrev pub refused_text : List ℕ → ℕ → TextCause → List ℕ
refused_text word line cause = codes "refused " ++ word ++ codes " " ++ decimal line ++ codes " " ++ cause_word cause ++ codes "\n"

-- what is told where a number of the call is out of its limits
abbrev pub out_of_limits_text : List ℕ
out_of_limits_text = codes "out of limits\n"
