-- Which stars a text of a certificate stands for, and where it is refused.
use Rattle.std.specs.Prelude.{ℕ, ◌≡◌, List}
use Rattle.conjunctive_compose.specs.System.{SystemParts}
use Rattle.text_cause.specs.declared.cause.TextCause.{TextCause}
use Rattle.text_cause.specs.declared.cause.TextCause.TheVariants.{BadHead, BadLine}
use Rattle.text_cause.specs.Grammar.{Grammar, IsText, IsRefused as IsRefusedBy}
use Rattle.ctl_text.specs.Value.{SpecParts}
use Rattle.strict_text.specs.Lines.{Line, lines_of}
use Rattle.waitfor_check.specs.declared.star.Star.{Star}
use Rattle.certificate_text.specs.State.{Group, before_head, after_done, State, first_state}
use Rattle.certificate_text.specs.Cause.{Stands, Takes}

-- what stands against the end of a text, below this group
abbrev pub EndStands : Group → TextCause → Type 0
EndStands before_head cause = cause ≡ BadHead
EndStands after_done cause = ⊥
EndStands group cause = cause ≡ BadLine

-- the stars that are whole at the end
abbrev pub Gives : State → List Star → Type 0
Gives s stars = (s.group ≡ after_done) × (stars ≡ s.made)

-- certificates of a system, over the names of its specification
abbrev pub certificates : SpecParts → SystemParts → Grammar State Line (List Star)
certificates v sys = record { lines = lines_of; Takes = Takes v sys; Stands = Stands v sys; Gives = Gives; EndStands = λ s. EndStands s.group }

-- the bytes are a text of the certificate of these stars
abbrev pub IsCertificateText : SpecParts → SystemParts → List ℕ → List Star → Type 0
IsCertificateText v sys bytes stars = IsText (certificates v sys) first_state bytes stars

-- the first bad line of the bytes, and its lowest cause
abbrev pub IsRefused : SpecParts → SystemParts → List ℕ → ℕ → TextCause → Type 0
IsRefused v sys bytes at cause = IsRefusedBy (certificates v sys) first_state bytes at cause
