-- What the rule speaks of and no word shows.
use Rattle.std.specs.Prelude.{ℕ, List, slice_index}
use Rattle.conjunctive_compose.specs.declared.wish.Wish.{Wish}
use Rattle.conjunctive_compose.specs.System.{SystemParts}
use Rattle.firing_words.specs.declared.cell.Cell.{Cell}
use Rattle.firing_words.specs.Cells.{cell_word, lock_word}
use Rattle.firing_words.specs.History.{Firing}

-- the history and its wishes, the seat that has each caller, and how many moves the word of each cell shows
pub record Past : Type 0 where
  pub log : List Firing
  pub run : List Wish
  pub seat : ℕ → ℕ
  pub shown : Cell → ℕ

abbrev pub lock_at : List ℕ → ℕ → ℕ
lock_at words l = slice_index words (lock_word l)

abbrev pub word_at : SystemParts → List ℕ → Cell → ℕ
word_at sys words i = slice_index words (cell_word sys i)
