-- Which structures a text stands for, and where it is refused.
use Rattle.std.specs.Prelude.{ℕ, ◌≡◌, List}
use Rattle.pair_structure.specs.Role.{RoleParts}
use Rattle.pair_structure.specs.Structure.{Structure}
use Rattle.ctl_form.specs.declared.pair_spec.PairSpec.{PairSpec}
use Rattle.text_cause.specs.declared.cause.TextCause.{TextCause}
use Rattle.text_cause.specs.declared.cause.TextCause.TheVariants.{BadHead, BadLine}
use Rattle.text_cause.specs.Grammar.{Grammar, IsText, IsRefused as IsRefusedBy}
use Rattle.strict_text.specs.Lines.{Line, lines_of}
use Rattle.solution_text.specs.State.{Group, before_head, after_done, State, first_state}
use Rattle.solution_text.specs.Cause.{Stands, Takes}

-- what stands against the end of a text, below this group
abbrev pub EndStands : Group → TextCause → Type 0
EndStands before_head cause = cause ≡ BadHead
EndStands after_done cause = ⊥
EndStands group cause = cause ≡ BadLine

-- the structures that are whole at the end
abbrev pub Gives : State → List Structure → Type 0
Gives s structures = (s.group ≡ after_done) × (structures ≡ s.made)

-- solutions over these roles
abbrev pub solutions : List RoleParts → Grammar State Line (List Structure)
solutions roles = record { lines = lines_of; Takes = Takes roles; Stands = Stands; Gives = Gives; EndStands = λ s. EndStands s.group }

-- the bytes are a text of these structures, one for each of the kinds over these roles
abbrev pub IsSolutionText : List RoleParts → List PairSpec → List ℕ → List Structure → Type 0
IsSolutionText roles kinds bytes structures = IsText (solutions roles) (first_state kinds) bytes structures

-- the first bad line of the bytes, and its lowest cause
abbrev pub IsRefused : List RoleParts → List PairSpec → List ℕ → ℕ → TextCause → Type 0
IsRefused roles kinds bytes at cause = IsRefusedBy (solutions roles) (first_state kinds) bytes at cause
