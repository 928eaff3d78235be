-- The text of a report.
use Rattle.std.specs.Prelude.{ℕ, ◌+◌, ◌++◌, List, [], ◌∷◌, map, codes, decimal}
use Rattle.std.specs.List.{flat_map}
use Rattle.strict_text.specs.Spaced.{line_text}
use Rattle.firing_journal.specs.declared.asked.Asked.{Asked}
use Rattle.firing_journal.specs.declared.asked.Asked.TheVariants.{Fired, Away, Blocked, Seen, SeenPair}
use Rattle.firing_journal.specs.declared.journal.Entry.{Entry}
use Rattle.firing_journal.specs.JournalText.{journal_text}

-- a word and numbers
abbrev pub numbers_line : List ℕ → List ℕ → List ℕ
numbers_line word numbers = line_text (word ∷ map decimal numbers)

-- a number of a line, with the space before it
abbrev pub number_text : ℕ → List ℕ
number_text n = 32 ∷ decimal n

abbrev pub asked_text : Asked → List ℕ
asked_text (Fired wish n) = numbers_line (codes "fired") (wish.process ∷ wish.arc ∷ wish.pick ∷ n ∷ [])
asked_text (Away wish local p) = numbers_line (codes "away") (wish.process ∷ wish.arc ∷ wish.pick ∷ local ∷ p ∷ [])
asked_text (Blocked wish j p) = numbers_line (codes "blocked") (wish.process ∷ wish.arc ∷ wish.pick ∷ j ∷ p ∷ [])
asked_text (Seen k m local) = numbers_line (codes "seen") (k ∷ m ∷ local ∷ [])
asked_text (SeenPair e m s) = numbers_line (codes "seenpair") (e ∷ m ∷ s ∷ [])

-- a caller's number, and its replies in order
abbrev pub caller_text : ℕ → List Asked → List ℕ
caller_text caller list = numbers_line (codes "caller") (caller ∷ []) ++ flat_map asked_text list

-- the callers from this number on
abbrev pub callers_text : ℕ → List (List Asked) → List ℕ
callers_text caller [] = []
callers_text caller (list ∷ lists) = caller_text caller list ++ callers_text (caller + 1) lists

-- the journal, the report's head, the callers, and `end`
abbrev pub report_text : List Entry → List (List Asked) → List ℕ
report_text entries lists = journal_text entries ++ codes "report 1\n" ++ callers_text 0 lists ++ codes "end\n"
