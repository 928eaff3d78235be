-- History: the entries made so far are a run of the system, numbered by the counter.
use Rattle.std.specs.Prelude.{ℕ, ◌≡◌, ◌<◌, ◌≤◌, List, length, slice_index}
use Rattle.conjunctive_compose.specs.System.{SystemParts}
use Rattle.conjunctive_compose.specs.Run.{IsRun}
use Rattle.conjunctive_compose.specs.Whole.{start_of}
use Rattle.firing_words.specs.History.{CallersBelow, made_by, wishes}
use Rattle.firing_words.specs.Past.{Past}

-- the run is the wishes of the entries, in their order
abbrev pub HasWishesOf : Past → Type 0
HasWishesOf past = past.run ≡ wishes past.log

-- it is a run of the system from its start
abbrev pub IsRunOf : SystemParts → Past → Type 0
IsRunOf sys past = IsRun sys (start_of sys) past.run

-- the counter says how many entries there are, so that what it gives out next is the number of the next entry
abbrev pub CountsEntries : Past → List ℕ → Type 0
CountsEntries past words = slice_index words 0 ≡ length past.log

-- each entry is one of a caller
abbrev pub HaveCallers : ℕ → Past → Type 0
HaveCallers callers past = CallersBelow callers past.log

-- no caller has made more entries than it has room for
abbrev pub AreWithinRoom : ℕ → ℕ → Past → Type 0
AreWithinRoom callers room past = (c : ℕ) → c < callers → length (made_by c past.log) ≤ room
