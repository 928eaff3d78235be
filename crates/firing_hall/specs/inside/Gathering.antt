-- The firings of all callers, each put at its place.
use Rattle.std.specs.Prelude.{ℕ, ◌≡◌, ◌<◌, ◌+◌, List, [], ◌∷◌, length, slice_index_or, slice_set}
use Rattle.firing_journal.specs.Report.{list_by}
use Rattle.firing_journal.specs.declared.asked.Asked.{Asked}
use Rattle.firing_journal.specs.declared.asked.Asked.TheVariants.{Fired, Away, Blocked, Seen, SeenPair}
use Rattle.firing_journal.specs.declared.journal.Entry.{Entry}
use Rattle.firing_words.specs.History.{CallersBelow, Firing, Making, made_by}

-- the firings among the replies, each with its number
abbrev pub makings_of : List Asked → List Making
makings_of [] = []
makings_of (Fired wish n ∷ list) = record { number = n; wish = wish } ∷ makings_of list
makings_of (Away wish local p ∷ list) = makings_of list
makings_of (Blocked wish j p ∷ list) = makings_of list
makings_of (Seen k m local ∷ list) = makings_of list
makings_of (SeenPair e m s ∷ list) = makings_of list

abbrev pub no_entry : Entry
no_entry = record { number = 0; caller = 0; wish = record { process = 0; arc = 0; pick = 0 } }

abbrev pub entry_at : List Entry → ℕ → Entry
entry_at entries n = slice_index_or entries n no_entry

-- the firings of each list are its caller's part of the history, and no other caller has one
pub record AreListsOf (log : List Firing) (lists : List (List Asked)) : Type 0 where
  pub callers : CallersBelow (length lists) log
  pub fired : (c : ℕ) → c < length lists → makings_of (list_by lists c) ≡ made_by c log

-- the entries with one caller's firings at their places
abbrev pub placed : List Entry → ℕ → List Asked → List Entry
placed entries c [] = entries
placed entries c (Fired wish n ∷ list) = placed (slice_set entries n (record { number = n; caller = c; wish = wish })) c list
placed entries c (Away wish local p ∷ list) = placed entries c list
placed entries c (Blocked wish j p ∷ list) = placed entries c list
placed entries c (Seen k m local ∷ list) = placed entries c list
placed entries c (SeenPair e m s ∷ list) = placed entries c list

-- with those of all callers from c on
abbrev pub all_placed : List Entry → ℕ → List (List Asked) → List Entry
all_placed entries c [] = entries
all_placed entries c (l ∷ ls) = all_placed (placed entries c l) (c + 1) ls
