-- Seats and spaces before they are hands.
use Rattle.std.specs.Prelude.{◌≡◌, ℕ, List, [], length, slice_get, Some, ◌+◌}
use Rattle.atomic_table.specs.declared.shared.Seat.{Seat}
use Rattle.conjunctive_compose.specs.System.{SystemParts}
use Rattle.firing_words.specs.declared.view.View.{View}
use Rattle.firing_words.specs.declared.words.Words.{Words}
use Rattle.firing_words.specs.Views.{opened_from}
use Rattle.firing_words.specs.declared.hand.Space.{Space}
use Rattle.firing_words.specs.Of.{IsSeatOf, seat_view}
use Rattle.firing_words.specs.Hands.{HasSpace, KeepsStars}

-- a seat for each caller below n, in order
abbrev pub AreDealt : Words → ℕ → List (Seat (Unit {0}) View) → Type 0
AreDealt words n hands = (length hands ≡ n) × ((c : ℕ) (h : Seat (Unit {0}) View) → slice_get hands c ≡ Some h → IsSeatOf words h × (seat_view h ≡ opened_from c 1))

-- a space with nothing in it, for a hand that keeps so many readings
pub record IsSpaceFor (sys : SystemParts) (most : ℕ) (s : Space) : Type 0 where
  pub space : HasSpace sys s
  pub keeps : KeepsStars sys most s
  pub nothing : s.known.items ≡ []
  pub ready : s.owed.items ≡ []

-- the seats of the callers from c on
abbrev pub AreSeatsFrom : Words → ℕ → List (Seat (Unit {0}) View) → Type 0
AreSeatsFrom words c seats = (j : ℕ) (h : Seat (Unit {0}) View) → slice_get seats j ≡ Some h → IsSeatOf words h × (seat_view h ≡ opened_from (c + j) 1)
