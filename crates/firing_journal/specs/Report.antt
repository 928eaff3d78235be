-- What callers were told, beside the journal of their firings, and when such a report is lawful.
use Rattle.std.specs.Prelude.{ℕ, ◌≡◌, ◌<◌, ◌==◌, Bool, List, [], ◌∷◌, length, map, All, slice_index_or}
use Rattle.std.specs.Global.{Vec}
use Rattle.std.specs.List.{filter}
use Rattle.conjunctive_compose.specs.System.{SystemParts}
use Rattle.conjunctive_compose.specs.Whole.{start_of}
use Rattle.conjunctive_compose.specs.Run.{IsRun}
use Rattle.conjunctive_compose.specs.Reply.{Told, fired_at, away_at, blocked_at, seen, seen_pair}
use Rattle.conjunctive_compose.specs.Order.{IsTold}
use Rattle.firing_journal.specs.declared.asked.Asked.{Asked}
use Rattle.firing_journal.specs.declared.asked.Asked.TheVariants.{Fired, Away, Blocked, Seen, SeenPair}
use Rattle.firing_journal.specs.declared.journal.Entry.{Entry}
use Rattle.firing_journal.specs.declared.report.Report.{Report}
use Rattle.firing_journal.specs.Journal.{AreNumbered, wishes_of}

-- what the caller was told of the run
abbrev pub told_of : Asked → Told
told_of (Fired wish n) = fired_at wish n
told_of (Away wish local p) = away_at wish local p
told_of (Blocked wish j p) = blocked_at wish j p
told_of (Seen k m local) = seen k m local
told_of (SeenPair e m s) = seen_pair e m s

-- the entries that a caller's list says it fired, in the order of the list
abbrev pub fired_of : ℕ → List Asked → List Entry
fired_of caller [] = []
fired_of caller (Fired wish n ∷ list) = record { number = n; caller = caller; wish = wish } ∷ fired_of caller list
fired_of caller (Away wish local p ∷ list) = fired_of caller list
fired_of caller (Blocked wish j p ∷ list) = fired_of caller list
fired_of caller (Seen k m local ∷ list) = fired_of caller list
fired_of caller (SeenPair e m s ∷ list) = fired_of caller list

abbrev pub is_by : ℕ → Entry → Bool
is_by caller entry = entry.caller == caller

-- the entries of one caller, in the order of the journal
abbrev pub entries_by : ℕ → List Entry → List Entry
entries_by caller entries = filter (is_by caller) entries

-- the list of one caller
abbrev pub list_by : List (List Asked) → ℕ → List Asked
list_by lists caller = slice_index_or lists caller []

abbrev pub lists_in : List (Vec Asked) → List (List Asked)
lists_in callers = map (λ list. list.items) callers

-- the lists of the callers
abbrev pub lists_of : Report → List (List Asked)
lists_of report = lists_in report.callers.items

abbrev pub HasList : List (List Asked) → Entry → Type 0
HasList lists entry = entry.caller < length lists

-- every reply of the list holds in the run, and the list is in order
abbrev pub IsToldOf : SystemParts → List Entry → List Asked → Type 0
IsToldOf sys entries list = IsTold sys (wishes_of entries) (map told_of list)

pub record IsLawful (sys : SystemParts) (entries : List Entry) (lists : List (List Asked)) : Type 0 where
  -- the wishes of the journal are a run from the start
  pub run : IsRun sys (start_of sys) (wishes_of entries)
  -- the entry at place n has number n
  pub numbered : AreNumbered entries
  -- each entry's caller has a list
  pub listed : All (HasList lists) entries
  -- the entries of a caller are those that its list says it fired, in order, each once
  pub each_once : (caller : ℕ) → caller < length lists → entries_by caller entries ≡ fired_of caller (list_by lists caller)
  -- every reply holds, and each list is in order
  pub told : All (IsToldOf sys entries) lists
