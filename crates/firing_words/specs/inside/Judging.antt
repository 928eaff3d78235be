-- What is read of a process and its edges decides a wish, one edge after another.
use Rattle.std.specs.Prelude.{◌<◌, List, ◌≡◌, ℕ, ◌≤◌, ◌+◌, length, slice_index_or}
use Rattle.conjunctive_compose.specs.declared.wish.StepAnswer.{StepAnswer}
use Rattle.conjunctive_compose.specs.declared.wish.StepAnswer.TheVariants.{Moved, Away, Blocked}
use Rattle.conjunctive_compose.specs.declared.wish.Wish.{Wish}
use Rattle.conjunctive_compose.specs.System.{SystemParts}
use Rattle.firing_words.specs.declared.limits.TheConstants.{HALF_WORD}
use Rattle.firing_words.specs.declared.cell.Reading.{Reading}
use Rattle.firing_words.specs.Firings.{AreNext, IsDecided, IsNext}
use Rattle.firing_words.specs.Lists.{Has}
use Rattle.interconnection.specs.declared.parts.Beside.{Beside}
use Rattle.conjunctive_compose.specs.NextPair.{IsNextPair}
use Rattle.firing_words.specs.declared.cell.Cell.TheVariants.{Process, Edge}
use Rattle.firing_words.specs.Judged.{AreStorable}
use Rattle.firing_words.specs.Stars.{IsKnown, beside_at}

-- the answer, wherever the whole state has what is known; where the wish moves, what its firing stores
abbrev pub IsJudged : SystemParts → List Reading → Wish → List Reading → StepAnswer → Type 0
IsJudged sys known wish stores Moved = AreNext sys known wish stores × AreStorable sys stores
IsJudged sys known wish stores (Away local) = IsDecided sys known wish (Away local)
IsJudged sys known wish stores (Blocked j) = IsDecided sys known wish (Blocked j)

abbrev pub no_reading : Reading
no_reading = record { cell = Process 0; moves = 0; content = 0 }

abbrev pub reading_at : List Reading → ℕ → Reading
reading_at readings i = slice_index_or readings i no_reading

-- the first n readings are those of process k, and of its edges in the order of its neighbours
pub record IsStarUpTo (n k : ℕ) (list : List Beside) (known readings : List Reading) : Type 0 where
  pub size : length readings ≡ n + 1
  pub own : (reading_at readings 0).cell ≡ Process k
  pub edges : (i : ℕ) → i < n → (reading_at readings (i + 1)).cell ≡ Edge (beside_at list i).edge
  pub known_all : (i : ℕ) → i ≤ n → IsKnown known (reading_at readings i)

abbrev pub IsStar : ℕ → List Beside → List Reading → List Reading → Type 0
IsStar k list known readings = IsStarUpTo (length list) k list known readings

-- the first neighbours permit the arc, and these are the readings that the firing makes of what was read of them
pub record IsNextUpTo (sys : SystemParts) (n : ℕ) (wish : Wish) (list : List Beside) (known readings stores : List Reading) : Type 0 where
  pub each : (r : Reading) → Has r stores → (o : Reading) × IsKnown known o × IsNext sys wish o r × (r.content < HALF_WORD)
  pub own : (r : Reading) × Has r stores × (r.cell ≡ Process wish.process)
  pub edges : (i : ℕ) → i < n → (r : Reading) × Has r stores × (r.cell ≡ Edge (beside_at list i).edge)
  pub permit : (i : ℕ) → i < n → (t : ℕ) × IsNextPair sys wish (beside_at list i) (reading_at readings (i + 1)).content t
