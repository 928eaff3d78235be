-- Laws of the texts of solutions.
use Rattle.std.specs.Prelude.{ℕ, ◌≡◌, ◌≤◌, ◌^◌, List, [], ◌++◌, All, length}
use Rattle.pair_structure.specs.Role.{RoleParts}
use Rattle.pair_structure.specs.Structure.{Structure}
use Rattle.ctl_form.specs.declared.pair_spec.PairSpec.{PairSpec}
use Rattle.text_cause.specs.declared.cause.TextCause.{TextCause}
use Rattle.ctl_text.specs.SoundValue.{IsSoundValue}
use Rattle.ctl_text.specs.Value.{SpecParts}
use Rattle.solution_text.specs.SolutionText.{solution_text, AreOver}
use Rattle.solution_text.specs.Text.{IsSolutionText, IsRefused}

-- its states have numbers that a text may have
abbrev pub IsNumbered : Structure → Type 0
IsNumbered m = length m.states ≤ 2 ^ 64

-- what is written of a solution is a text of it
abbrev pub WrittenIsText : Type 0
WrittenIsText = (v : SpecParts) (structures : List Structure) → IsSoundValue v → AreOver v.roles v.kinds structures → All IsNumbered structures → IsSolutionText v.roles v.kinds (solution_text v.roles v.kinds structures) structures

-- and it is its only text
abbrev pub OneText : Type 0
OneText = (roles : List RoleParts) (kinds : List PairSpec) (bytes : List ℕ) (structures : List Structure) → IsSolutionText roles kinds bytes structures → bytes ≡ solution_text roles kinds structures

-- a text of a solution stops being one where its end is cut off
abbrev pub NoPrefix : Type 0
NoPrefix = (roles : List RoleParts) (kinds : List PairSpec) (front back : List ℕ) (v w : List Structure) → IsSolutionText roles kinds front v → IsSolutionText roles kinds (front ++ back) w → back ≡ []

-- no text is both read and refused
abbrev pub NeverBoth : Type 0
NeverBoth = (roles : List RoleParts) (kinds : List PairSpec) (bytes : List ℕ) (v : List Structure) (line : ℕ) (cause : TextCause) → IsSolutionText roles kinds bytes v → IsRefused roles kinds bytes line cause → ⊥
