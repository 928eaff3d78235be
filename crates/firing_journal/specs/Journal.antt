-- Journals: the firings of a run in their order, each with the caller that made it.
use Rattle.std.specs.Prelude.{ℕ, ◌≡◌, ◌≤◌, List, length, map, All}
use Rattle.conjunctive_compose.specs.declared.limits.TheConstants.{MAX_CALLER}
use Rattle.std.specs.List.{range_with_len}
use Rattle.conjunctive_compose.specs.declared.wish.Wish.{Wish}
use Rattle.conjunctive_compose.specs.System.{SystemParts}
use Rattle.conjunctive_compose.specs.Firing.{WishFits}
use Rattle.firing_journal.specs.declared.journal.Entry.{Entry}
use Rattle.firing_journal.specs.Said.{HasSmallNumbers}

abbrev pub number_of : Entry → ℕ
number_of entry = entry.number

abbrev pub wish_of : Entry → Wish
wish_of entry = entry.wish

-- the entry at place i has number i
abbrev pub AreNumbered : List Entry → Type 0
AreNumbered entries = map number_of entries ≡ range_with_len 0 (length entries)

-- the entries of a journal
pub record IsJournal (entries : List Entry) : Type 0 where
  pub numbered : AreNumbered entries
  pub small : All HasSmallNumbers entries

-- the wishes of the entries, in their order
abbrev pub wishes_of : List Entry → List Wish
wishes_of entries = map wish_of entries

-- the wish is one of the system, and the caller one of 64
pub record EntryFits (sys : SystemParts) (entry : Entry) : Type 0 where
  pub wish : WishFits sys entry.wish
  pub caller : entry.caller ≤ MAX_CALLER

abbrev pub JournalFits : SystemParts → List Entry → Type 0
JournalFits sys entries = All (EntryFits sys) entries
