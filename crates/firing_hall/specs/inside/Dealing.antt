-- Hands and lists before they are passes.
use Rattle.std.specs.Prelude.{ℕ, ◌≡◌, ◌≤◌, ◌+◌, List, [], slice_get, Some, vec_capacity}
use Rattle.std.specs.Global.{Vec}
use Rattle.firing_words.specs.declared.words.Words.{Words}
use Rattle.firing_words.specs.declared.hand.Hand.{Hand}
use Rattle.firing_words.specs.Hands.{IsFreshHand}
use Rattle.firing_journal.specs.declared.asked.Asked.{Asked}

-- the hands of the callers from c on
abbrev pub AreHandsFrom : Words → ℕ → List Hand → Type 0
AreHandsFrom words c hands = (j : ℕ) (h : Hand) → slice_get hands j ≡ Some h → IsFreshHand words (c + j) h

-- no reply yet, and room for so many
abbrev pub HasRoom : ℕ → Vec Asked → Type 0
HasRoom room list = (list.items ≡ []) × (room ≤ vec_capacity list)
