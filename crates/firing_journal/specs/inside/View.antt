-- What the reader's values say.
use Rattle.std.specs.Prelude.{ℕ, ◌≤◌, ◌∷◌, ◌++◌, Option, Some, None, List, [], length}
use Rattle.conjunctive_compose.specs.declared.limits.TheConstants.{MAX_CALLER}
use Rattle.conjunctive_compose.specs.declared.wish.Wish.{Wish}
use Rattle.conjunctive_compose.specs.System.{SystemParts}
use Rattle.conjunctive_compose.specs.Firing.{Fits}
use Rattle.firing_journal.specs.declared.journal.Entry.{Entry}
use Rattle.firing_journal.specs.declared.item.Item.{Item}
use Rattle.firing_journal.specs.declared.item.Item.TheVariants.{Head, Firing, Done}
use Rattle.firing_journal.specs.Said.{Said, head_line, entry_line, done_line}
use Rattle.firing_journal.specs.Place.{Place, among_entries, after_done}

abbrev pub wish_of_numbers : ℕ → ℕ → ℕ → Wish
wish_of_numbers process arc pick = record { process = process; arc = arc; pick = pick }

abbrev pub said : Item → Said
said Head = head_line
said (Firing number caller process arc pick) = entry_line (record { number = number; caller = caller; wish = wish_of_numbers process arc pick })
said Done = done_line

-- the caller is one of 64, and the system has the process and its arc
pub record IsKnown (sys : SystemParts) (caller process arc : ℕ) : Type 0 where
  pub caller_in : caller ≤ MAX_CALLER
  pub fits : Fits sys process arc

-- these entries with the next one
abbrev pub grown : List Entry → ℕ × Wish → List Entry
grown entries next = entries ++ record { number = length entries; caller = next.0; wish = next.1 } ∷ []

-- where an entry to append, or none, leaves the text
abbrev pub place_after : List Entry → Option (ℕ × Wish) → Place
place_after entries None = after_done entries
place_after entries (Some next) = among_entries (grown entries next)

-- an entry to append, if there is one, fits the system
abbrev pub IsFitting : SystemParts → Option (ℕ × Wish) → Type 0
IsFitting sys None = Unit {0}
IsFitting sys (Some next) = IsKnown sys next.0 next.1.process next.1.arc
