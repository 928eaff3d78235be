-- The firings of all callers' lists, gathered into one history.
use Rattle.std.specs.Prelude.{ℕ, ◌≡◌, ◌<◌, List, length, map}
use Rattle.conjunctive_compose.specs.System.{SystemParts, IsSystem}
use Rattle.firing_journal.specs.Journal.{AreNumbered}
use Rattle.firing_journal.specs.Report.{IsLawful, list_by, told_of}
use Rattle.firing_journal.specs.declared.asked.Asked.{Asked}
use Rattle.firing_journal.specs.declared.journal.Entry.{Entry}
use Rattle.firing_words.specs.History.{Firing}
use Rattle.firing_words.specs.declared.view.Track.{Track}
use Rattle.firing_words.specs.declared.view.View.{View}
use Rattle.firing_words.specs.Lists.{Has}
use Rattle.firing_words.specs.Telling.{AreTold}
use Rattle.firing_words.specs.Views.{IsPartOf}

abbrev pub firing_of : Entry → Firing
firing_of e = record { caller = e.caller; wish = e.wish }

-- the history that a journal's entries are
abbrev pub log_of : List Entry → List Firing
log_of entries = map firing_of entries

-- each list is told of the track of its caller
abbrev pub HasLists : SystemParts → View → List (List Asked) → Type 0
HasLists sys v lists = (c : ℕ) → c < length lists → (t : Track) × Has t v.tracks × (t.caller ≡ c) × AreTold sys t.items (map told_of (list_by lists c))

-- where one view has the tracks of all callers, and the entries are the history, the report is lawful
abbrev pub ReportIsLawful : Type 0
ReportIsLawful = (sys : SystemParts) (v : View) (log : List Firing) (entries : List Entry) (lists : List (List Asked)) → IsSystem sys → IsPartOf sys (length lists) v log → HasLists sys v lists → log_of entries ≡ log → AreNumbered entries → IsLawful sys entries lists
