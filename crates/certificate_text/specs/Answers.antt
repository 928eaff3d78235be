-- What reading a line and a text answers.
use Rattle.std.specs.Prelude.{ℕ, ◌≡◌, List}
use Rattle.conjunctive_compose.specs.System.{SystemParts}
use Rattle.ctl_text.specs.Value.{SpecParts}
use Rattle.text_cause.specs.declared.cause.TextFault.{TextFault}
use Rattle.text_cause.specs.Cause.{IsFree}
use Rattle.text_cause.specs.Answers.{IsRefusal as IsRefusalBy}
use Rattle.certificate_text.specs.Item.{Said}
use Rattle.certificate_text.specs.State.{State, after_line, first_state}
use Rattle.certificate_text.specs.Cause.{BarsLine}
use Rattle.certificate_text.specs.Text.{certificates}

-- nothing stands against what the line says, and it leaves this state
pub record IsTakenAs (v : SpecParts) (sys : SystemParts) (s : State) (item : Said) (t : State) : Type 0 where
  pub free : IsFree (BarsLine v sys s item)
  pub next : t ≡ after_line v s item

-- want of memory, or the first bad line and its lowest cause
abbrev pub IsRefusal : SpecParts → SystemParts → List ℕ → TextFault → Type 0
IsRefusal v sys bytes fault = IsRefusalBy (certificates v sys) first_state bytes fault
