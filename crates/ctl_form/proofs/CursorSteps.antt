-- Cursors over the moves of each state: where they begin, and where they go on.
use Rattle.std.proofs.Common.{ℕ, ◌≡◌, ◌≢◌, ◌<◌, ◌≤◌, Bool, List, length, slice_index}
use Rattle.pair_structure.specs.declared.side.Move.{Move}
use Rattle.pair_structure.specs.StructureFault.{move_at}
use Rattle.ctl_form.specs.Row.{IsAt}
use Rattle.ctl_form.specs.inside.Spread.{AreCursors}

-- from this place on, each state's cursor stands at its first move
pub record AreFirst (states : ℕ) (moves : List Move) (place : ℕ) (cursors : List ℕ) : Type 0 where
  pub long : length cursors ≡ states
  pub few : place ≤ length moves
  pub within : (s : ℕ) → s < states → slice_index cursors s ≤ length moves
  pub none_before : (s j : ℕ) → s < states → place ≤ j → j < slice_index cursors s → j < length moves → (move_at moves j).from ≢ s
  pub ahead : (s j : ℕ) → s < states → slice_index cursors s ≤ j → j < length moves → s ≤ (move_at moves j).from

-- more marks, and what was passed is passed still
pub AreCursors-more : (states : ℕ) (moves : List Move) (row more : List Bool) (cursors : List ℕ) → ((t : ℕ) → IsAt row t → IsAt more t) → AreCursors states moves row cursors → AreCursors states moves more cursors
AreCursors-more states moves row more cursors keeps h = record { long = h.long; within = h.within; passed = λ s j lt before l e. keeps (move_at moves j).to (h.passed s j lt before l e); ahead = h.ahead }
