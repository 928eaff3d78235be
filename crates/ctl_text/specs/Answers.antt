-- What reading a text answers.
use Rattle.std.specs.Prelude.{ℕ, List}
use Rattle.text_cause.specs.declared.cause.TextFault.{TextFault}
use Rattle.text_cause.specs.Answers.{IsRefusal as IsRefusalBy}
use Rattle.ctl_text.specs.State.{first_state}
use Rattle.ctl_text.specs.Text.{specifications}

-- want of memory, or the first bad line and its lowest cause
abbrev pub IsRefusal : List ℕ → TextFault → Type 0
IsRefusal bytes fault = IsRefusalBy specifications first_state bytes fault
