-- Knowing: what a view knows is the history's, as long as it holds the locks.
use Rattle.conjunctive_compose.specs.System.{SystemParts}
use Rattle.firing_words.specs.declared.cell.Reading.{Reading}
use Rattle.firing_words.specs.declared.view.View.{View}
use Rattle.firing_words.specs.Cells.{IsCell}
use Rattle.firing_words.specs.History.{IsLatest}
use Rattle.firing_words.specs.Lists.{Has}
use Rattle.firing_words.specs.Past.{Past}
use Rattle.firing_words.specs.Views.{IsGuarded}

-- each reading that the view knows is the latest of its cell, and the view holds all locks that guard the cell
abbrev pub KnowsLatest : SystemParts → Past → View → Type 0
KnowsLatest sys past v = (r : Reading) → Has r v.known → IsCell sys r.cell × IsGuarded sys v r.cell × IsLatest sys past.run r
