-- What one line of a journal says.
use Rattle.std.specs.Prelude.{ℕ, ◌≡◌, ◌<◌, ◌^◌, true, List, [], ◌∷◌, map, All, codes, decimal}
use Rattle.strict_text.specs.Lines.{Line}
use Rattle.strict_text.specs.Words.{words_of}
use Rattle.firing_journal.specs.declared.journal.Entry.{Entry}

pub data Said : Type 0 where
  head_line : Said
  entry_line : Entry → Said
  done_line : Said

-- number, caller, process, arc and pick
abbrev pub numbers_of : Entry → List ℕ
numbers_of entry = entry.number ∷ entry.caller ∷ entry.wish.process ∷ entry.wish.arc ∷ entry.wish.pick ∷ []

abbrev pub words_for : Said → List (List ℕ)
words_for head_line = codes "journal" ∷ codes "1" ∷ []
words_for (entry_line entry) = codes "entry" ∷ map decimal (numbers_of entry)
words_for done_line = codes "done" ∷ []

abbrev pub IsWordNumber : ℕ → Type 0
IsWordNumber n = n < 2 ^ 64

abbrev pub HasNumbers : Said → Type 0
HasNumbers head_line = Unit {0}
HasNumbers (entry_line entry) = All IsWordNumber (numbers_of entry)
HasNumbers done_line = Unit {0}

-- the numbers of the entry are below 2^64
abbrev pub HasSmallNumbers : Entry → Type 0
HasSmallNumbers entry = All IsWordNumber (numbers_of entry)

-- the words say this, with numbers below 2^64
pub record SaysWords (words : List (List ℕ)) (said : Said) : Type 0 where
  pub words_are : words ≡ words_for said
  pub numbers : HasNumbers said

-- the line ends, and its words say this
pub record Says (line : Line) (said : Said) : Type 0 where
  pub ended : line.is_ended ≡ true
  pub words : SaysWords (words_of line.bytes) said
