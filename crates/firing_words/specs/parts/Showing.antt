-- Words: the word of a process or of an edge shows how often it moved, and its local state or pair state after so many moves.
use Rattle.std.specs.Prelude.{ℕ, List}
use Rattle.conjunctive_compose.specs.System.{SystemParts}
use Rattle.firing_words.specs.declared.cell.Cell.{Cell}
use Rattle.firing_words.specs.Cells.{IsCell}
use Rattle.firing_words.specs.History.{IsWordAfter}
use Rattle.firing_words.specs.Past.{Past, word_at}

-- each word shows what the history gives after as many moves as it shows
abbrev pub ShowsHistory : SystemParts → Past → List ℕ → Type 0
ShowsHistory sys past words = (i : Cell) → IsCell sys i → IsWordAfter sys past.run i (past.shown i) (word_at sys words i)
