-- What is known decides a wish.
use Rattle.std.specs.Prelude.{◌<◌, List}
use Rattle.conjunctive_compose.specs.declared.wish.StepAnswer.{StepAnswer}
use Rattle.conjunctive_compose.specs.declared.wish.StepAnswer.TheVariants.{Moved, Away, Blocked}
use Rattle.conjunctive_compose.specs.declared.wish.Wish.{Wish}
use Rattle.conjunctive_compose.specs.Firing.{Moves}
use Rattle.conjunctive_compose.specs.System.{SystemParts, process_count}
use Rattle.conjunctive_compose.specs.Whole.{WholeParts, IsProper}
use Rattle.firing_words.specs.declared.limits.TheConstants.{HALF_WORD}
use Rattle.firing_words.specs.declared.cell.Reading.{Reading}
use Rattle.firing_words.specs.Cells.{IsCell}
use Rattle.firing_words.specs.Firings.{IsDecided}
use Rattle.firing_words.specs.History.{Knows}
use Rattle.firing_words.specs.Lists.{Has}

-- the readings fit their words
abbrev pub AreStorable : SystemParts → List Reading → Type 0
AreStorable sys stores = (r : Reading) → Has r stores → IsCell sys r.cell × (r.moves < HALF_WORD) × (r.content < HALF_WORD)

-- the wish moves, wherever the whole state has what is known
abbrev pub IsMovable : SystemParts → List Reading → Wish → Type 0
IsMovable sys known wish = (w : WholeParts) → IsProper sys w → Knows sys known w → Moves sys w wish

-- the answer, wherever the whole state has what is known
abbrev pub IsAnswered : SystemParts → List Reading → Wish → StepAnswer → Type 0
IsAnswered sys known wish Moved = IsMovable sys known wish
IsAnswered sys known wish (Away local) = IsDecided sys known wish (Away local)
IsAnswered sys known wish (Blocked j) = IsDecided sys known wish (Blocked j)

-- a neighbour that the answer names is a process
abbrev pub NamesNeighbour : SystemParts → StepAnswer → Type 0
NamesNeighbour sys Moved = Unit {0}
NamesNeighbour sys (Away local) = Unit {0}
NamesNeighbour sys (Blocked j) = j < process_count sys
