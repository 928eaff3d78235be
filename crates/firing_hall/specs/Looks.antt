-- What a look did.
use Rattle.std.specs.Prelude.{ℕ, List, map}
use Rattle.conjunctive_compose.specs.declared.wish.Wish.{Wish}
use Rattle.conjunctive_compose.specs.Order.{IsTold}
use Rattle.conjunctive_compose.specs.Run.{IsRun}
use Rattle.conjunctive_compose.specs.System.{SystemParts}
use Rattle.conjunctive_compose.specs.Whole.{start_of}
use Rattle.firing_words.specs.declared.cell.Cell.TheVariants.{Process, Edge}
use Rattle.firing_words.specs.declared.view.Item.TheVariants.{Seen as SeenItem}
use Rattle.firing_words.specs.declared.view.View.{View}
use Rattle.firing_words.specs.Cells.{reading}
use Rattle.firing_journal.specs.Report.{told_of}
use Rattle.firing_journal.specs.declared.asked.Asked.{Asked}
use Rattle.firing_hall.specs.Items.{OneItem, SameItems}
use Rattle.firing_hall.specs.declared.looking.Looked.{Looked}
use Rattle.firing_hall.specs.declared.looking.Looked.TheVariants.{Seen, Full}
use Rattle.firing_hall.specs.declared.looking.PairLooked.{PairLooked}
use Rattle.firing_hall.specs.declared.looking.PairLooked.TheVariants.{Seen as SeenState, Full as FullPair}

-- what a look at process k added to the caller's list: the note of what it showed, or nothing
abbrev pub HasNoted : ℕ → View → View → Looked → Type 0
HasNoted k v w (Seen m local) = OneItem (SeenItem (reading (Process k) m local)) v w
HasNoted k v w Full = SameItems v w

-- what a look at edge e added to it
abbrev pub HasNotedPair : ℕ → View → View → PairLooked → Type 0
HasNotedPair e v w (SeenState m s) = OneItem (SeenItem (reading (Edge e) m s)) v w
HasNotedPair e v w FullPair = SameItems v w

-- in some run of the system all these replies hold, and they are in order: so a look shows no fewer moves than an earlier one, and
-- than the caller's own firings
abbrev pub HoldTogether : SystemParts → List Asked → Type 0
HoldTogether sys list = (run : List Wish) × IsRun sys (start_of sys) run × IsTold sys run (map told_of list)

-- the list that ends with this look
abbrev pub IsInOrder : SystemParts → List Asked → Looked → Type 0
IsInOrder sys list (Seen m local) = HoldTogether sys list
IsInOrder sys list Full = Unit {0}

abbrev pub IsPairInOrder : SystemParts → List Asked → PairLooked → Type 0
IsPairInOrder sys list (SeenState m s) = HoldTogether sys list
IsPairInOrder sys list FullPair = Unit {0}
