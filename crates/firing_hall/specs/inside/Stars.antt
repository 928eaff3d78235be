-- What is read of a process and of its edges, one edge after another.
use Rattle.std.specs.Prelude.{◌≡◌, ℕ, ◌<◌, ◌+◌, List, length}
use Rattle.interconnection.specs.declared.parts.Beside.{Beside}
use Rattle.firing_words.specs.declared.cell.Cell.TheVariants.{Process, Edge}
use Rattle.firing_words.specs.declared.cell.Reading.{Reading}
use Rattle.firing_words.specs.Stars.{HasReading, beside_at}

-- these are one reading of process k, and one of each of its first n edges in the order of its neighbours
pub record HasStarUpTo (n k : ℕ) (list : List Beside) (readings : List Reading) : Type 0 where
  pub size : length readings ≡ n + 1
  pub own : HasReading readings (Process k)
  pub edges : (i : ℕ) → i < n → HasReading readings (Edge (beside_at list i).edge)
