-- Which journal a text stands for, and where it is refused. What follows the line `done` belongs to no journal.
use Rattle.std.specs.Prelude.{ℕ, ◌≡◌, List}
use Rattle.conjunctive_compose.specs.System.{SystemParts}
use Rattle.text_cause.specs.declared.cause.TextCause.{TextCause}
use Rattle.text_cause.specs.declared.cause.TextCause.TheVariants.{BadHead, BadLine}
use Rattle.text_cause.specs.declared.cause.TextFault.{TextFault}
use Rattle.text_cause.specs.Grammar.{Grammar, IsText, IsRefused as IsRefusedBy}
use Rattle.text_cause.specs.Answers.{IsRefusal as IsRefusalBy}
use Rattle.strict_text.specs.Lines.{Line, lines_of}
use Rattle.firing_journal.specs.declared.journal.Entry.{Entry}
use Rattle.firing_journal.specs.Place.{Place, before_head, among_entries, after_done}
use Rattle.firing_journal.specs.Cause.{Stands, Takes}

-- the text is at its end there, with these entries
abbrev pub Gives : Place → List Entry → Type 0
Gives before_head v = ⊥
Gives (among_entries entries) v = ⊥
Gives (after_done entries) v = v ≡ entries

-- what stands against a text that ends there
abbrev pub EndStands : Place → TextCause → Type 0
EndStands before_head cause = cause ≡ BadHead
EndStands (among_entries entries) cause = cause ≡ BadLine
EndStands (after_done entries) cause = ⊥

-- journals for this system
abbrev pub journals : SystemParts → Grammar Place Line (List Entry)
journals sys = record { lines = lines_of; Takes = Takes sys; Stands = Stands sys; Gives = Gives; EndStands = EndStands }

-- the bytes are a text of the journal with these entries, for this system
abbrev pub IsJournalText : SystemParts → List ℕ → List Entry → Type 0
IsJournalText sys bytes v = IsText (journals sys) before_head bytes v

-- the first bad line of the bytes, and its lowest cause
abbrev pub IsRefused : SystemParts → List ℕ → ℕ → TextCause → Type 0
IsRefused sys bytes at cause = IsRefusedBy (journals sys) before_head bytes at cause

-- want of memory, or the first bad line of the bytes and its lowest cause
abbrev pub IsRefusal : SystemParts → List ℕ → TextFault → Type 0
IsRefusal sys bytes fault = IsRefusalBy (journals sys) before_head bytes fault
