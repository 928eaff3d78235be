-- What a firing call did.
use Rattle.std.specs.Prelude.{◌<◌, List}
use Rattle.conjunctive_compose.specs.declared.wish.Wish.{Wish}
use Rattle.conjunctive_compose.specs.declared.wish.StepAnswer.TheVariants.{Away as AwayAnswer, Blocked as BlockedAnswer}
use Rattle.conjunctive_compose.specs.System.{SystemParts, process_count}
use Rattle.firing_words.specs.declared.cell.Reading.{Reading}
use Rattle.firing_words.specs.declared.view.Item.TheVariants.{Made, Placed}
use Rattle.firing_words.specs.declared.view.View.{View}
use Rattle.firing_words.specs.Firings.{IsDecided}
use Rattle.firing_hall.specs.declared.reply.Reply.{Reply}
use Rattle.firing_hall.specs.declared.reply.Reply.TheVariants.{Fired, Away, Blocked, Full, Busy}
use Rattle.firing_hall.specs.Items.{OneItem, SameItems}

-- what the call added to the caller's list: the entry of this firing, the note of this place, or nothing
abbrev pub HasMade : SystemParts → Wish → View → View → Reply → Type 0
HasMade sys wish v w (Fired n) = OneItem (Made n wish) v w
HasMade sys wish v w (Away local p) = (known : List Reading) × OneItem (Placed p wish.process known) v w × IsDecided sys known wish (AwayAnswer local)
HasMade sys wish v w (Blocked j p) = (known : List Reading) × OneItem (Placed p wish.process known) v w × IsDecided sys known wish (BlockedAnswer j)
HasMade sys wish v w Full = SameItems v w
HasMade sys wish v w (Busy lock holder) = SameItems v w

-- a neighbour that is named is a process
abbrev pub NamesProcess : SystemParts → Reply → Type 0
NamesProcess sys (Fired n) = Unit {0}
NamesProcess sys (Away local p) = Unit {0}
NamesProcess sys (Blocked j p) = j < process_count sys
NamesProcess sys Full = Unit {0}
NamesProcess sys (Busy lock holder) = Unit {0}
