-- What reading a line and a text answers.
use Rattle.std.specs.Prelude.{ℕ, ◌≡◌, ◌<◌, List}
use Rattle.pair_structure.specs.Role.{RoleParts}
use Rattle.ctl_form.specs.declared.pair_spec.PairSpec.{PairSpec}
use Rattle.text_cause.specs.declared.cause.TextFault.{TextFault}
use Rattle.text_cause.specs.Cause.{IsFree}
use Rattle.text_cause.specs.Answers.{IsRefusal as IsRefusalBy}
use Rattle.solution_text.specs.Item.{Said}
use Rattle.solution_text.specs.State.{State, after_line, first_state}
use Rattle.solution_text.specs.Cause.{BarsLine, EndsWhole}
use Rattle.solution_text.specs.Text.{solutions}

-- both roles of the kind are among so many
pub record HasRoles (count : ℕ) (kind : PairSpec) : Type 0 where
  pub a : kind.role_a < count
  pub b : kind.role_b < count

-- nothing stands against what the line says, and it leaves this state
pub record IsTakenAs (roles : List RoleParts) (s : State) (item : Said) (t : State) : Type 0 where
  pub free : IsFree (BarsLine s item)
  pub whole : EndsWhole item s.group
  pub next : t ≡ after_line roles s item

-- want of memory, or the first bad line and its lowest cause
abbrev pub IsRefusal : List RoleParts → List PairSpec → List ℕ → TextFault → Type 0
IsRefusal roles kinds bytes fault = IsRefusalBy (solutions roles) (first_state kinds) bytes fault
