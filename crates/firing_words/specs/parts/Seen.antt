-- Seen: nothing that a caller was told is ahead of the words, but for those that its own view owes.
use Rattle.std.specs.Prelude.{◌⊎◌}
use Rattle.conjunctive_compose.specs.System.{SystemParts}
use Rattle.firing_words.specs.declared.cell.Cell.{Cell}
use Rattle.firing_words.specs.declared.view.Item.{Item}
use Rattle.firing_words.specs.declared.view.Track.{Track}
use Rattle.firing_words.specs.declared.view.View.{View}
use Rattle.firing_words.specs.Cells.{IsCell}
use Rattle.firing_words.specs.Lists.{Has}
use Rattle.firing_words.specs.Notes.{IsBehind}
use Rattle.firing_words.specs.Past.{Past}
use Rattle.firing_words.specs.Views.{Owes}

-- each word shows as many moves as each entry, place and look of the view asks, or the view owes that word
abbrev pub IsNotAhead : SystemParts → Past → View → Type 0
IsNotAhead sys past v = (t : Track) (y : Item) (i : Cell) → Has t v.tracks → Has y t.items → IsCell sys i → IsBehind sys past.run y i (past.shown i) ⊎ Owes v i
