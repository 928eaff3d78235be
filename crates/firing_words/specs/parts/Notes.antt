-- Notes: what each caller did is its part of the history, and stands in order.
use Rattle.conjunctive_compose.specs.System.{SystemParts}
use Rattle.firing_words.specs.declared.view.Track.{Track}
use Rattle.firing_words.specs.declared.view.View.{View}
use Rattle.firing_words.specs.Lists.{Has}
use Rattle.firing_words.specs.Notes.{IsTrackOf}
use Rattle.firing_words.specs.Past.{Past}

-- the entries of each caller of the view are those of the history, its notes hold there, and they are in order
abbrev pub KeepsTracks : SystemParts → Past → View → Type 0
KeepsTracks sys past v = (t : Track) → Has t v.tracks → IsTrackOf sys past.log past.run t
