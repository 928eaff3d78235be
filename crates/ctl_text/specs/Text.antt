-- Which value a text stands for, and where it is refused.
use Rattle.std.specs.Prelude.{ℕ, ◌≡◌, List}
use Rattle.text_cause.specs.declared.cause.TextCause.{TextCause}
use Rattle.text_cause.specs.declared.cause.TextCause.TheVariants.{BadHead, BadLine}
use Rattle.text_cause.specs.Grammar.{Grammar, IsText, IsRefused as IsRefusedBy}
use Rattle.ctl_text.specs.Lines.{lines_of}
use Rattle.ctl_text.specs.Value.{SpecParts, spec_of}
use Rattle.ctl_text.specs.State.{Group, before_head, after_done, State, first_state}
use Rattle.ctl_text.specs.Cause.{Stands, Takes}

-- what stands against the end of a text, below this group
abbrev pub EndStands : Group → TextCause → Type 0
EndStands before_head cause = cause ≡ BadHead
EndStands after_done cause = ⊥
EndStands group cause = cause ≡ BadLine

-- the parts that are whole at the end
abbrev pub Gives : State → SpecParts → Type 0
Gives s v = (s.group ≡ after_done) × (v ≡ spec_of s.parts)

abbrev pub specifications : Grammar State (List ℕ) SpecParts
specifications = record { lines = lines_of; Takes = Takes; Stands = Stands; Gives = Gives; EndStands = λ s. EndStands s.group }

-- the bytes are a text of the value
abbrev pub IsSpecText : List ℕ → SpecParts → Type 0
IsSpecText bytes v = IsText specifications first_state bytes v

-- the first bad line of the bytes, and its lowest cause
abbrev pub IsRefused : List ℕ → ℕ → TextCause → Type 0
IsRefused bytes at cause = IsRefusedBy specifications first_state bytes at cause
