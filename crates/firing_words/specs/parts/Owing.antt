-- Owing: a word shows all moves of the history but the last one, where a view still has to store that.
use Rattle.std.specs.Prelude.{ℕ, ◌≡◌, ◌+◌, ◌⊎◌, List, []}
use mathlib.Core.Option.{some}
use lib.ListN.{get_elem?}
use Rattle.conjunctive_compose.specs.System.{SystemParts}
use Rattle.firing_words.specs.declared.cell.Cell.{Cell}
use Rattle.firing_words.specs.declared.cell.Reading.{Reading}
use Rattle.firing_words.specs.declared.view.View.{View}
use Rattle.firing_words.specs.Cells.{IsCell}
use Rattle.firing_words.specs.History.{IsLatest, moves_in}
use Rattle.firing_words.specs.Lists.{Has}
use Rattle.firing_words.specs.Past.{Past}
use Rattle.firing_words.specs.Views.{IsGuarded, Owes}

-- some view owes the word of the cell
abbrev pub IsOwed : List View → Cell → Type 0
IsOwed views i = (id : ℕ) × (v : View) × (get_elem? views id ≡ some v) × Owes v i

-- each word shows all moves of its cell, or all but one that is owed
abbrev pub ShowsAllButOwed : SystemParts → Past → List View → Type 0
ShowsAllButOwed sys past views = (i : Cell) → IsCell sys i → (past.shown i ≡ moves_in sys past.run i) ⊎ ((past.shown i + 1 ≡ moves_in sys past.run i) × IsOwed views i)

-- what a view owes is the history's, under all locks that guard it; and a view that owes knows nothing
abbrev pub OwesLatest : SystemParts → Past → View → Type 0
OwesLatest sys past v = (r : Reading) → Has r v.owed → IsCell sys r.cell × IsGuarded sys v r.cell × IsLatest sys past.run r × (v.known ≡ [])
