-- The text of a journal.
use Rattle.std.specs.Prelude.{ℕ, ◌≡◌, ◌++◌, List, All}
use Rattle.std.specs.List.{flat_map}
use Rattle.conjunctive_compose.specs.System.{SystemParts}
use Rattle.strict_text.specs.Spaced.{line_text}
use Rattle.firing_journal.specs.declared.journal.Entry.{Entry}
use Rattle.firing_journal.specs.Journal.{AreNumbered, JournalFits}
use Rattle.firing_journal.specs.Said.{Said, head_line, entry_line, done_line, words_for, HasSmallNumbers}
use Rattle.firing_journal.specs.Text.{IsJournalText}

-- the line that says this
abbrev pub said_text : Said → List ℕ
said_text said = line_text (words_for said)

abbrev pub entry_text : Entry → List ℕ
entry_text entry = said_text (entry_line entry)

-- the head, a line for each entry, and `done`
abbrev pub journal_text : List Entry → List ℕ
journal_text entries = said_text head_line ++ flat_map entry_text entries ++ said_text done_line

-- what is written of a journal that fits the system is a text of it for that system, whatever follows
abbrev pub ReadBack : Type 0
ReadBack = (sys : SystemParts) (entries : List Entry) (rest : List ℕ) → AreNumbered entries → All HasSmallNumbers entries → JournalFits sys entries → IsJournalText sys (journal_text entries ++ rest) entries

-- a text of a journal is its one text, with something behind it
abbrev pub OneText : Type 0
OneText = (sys : SystemParts) (bytes : List ℕ) (entries : List Entry) → IsJournalText sys bytes entries → (rest : List ℕ) × (bytes ≡ journal_text entries ++ rest)
