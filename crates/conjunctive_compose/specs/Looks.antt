-- What looks show: of an edge its projection, of a process its local state.
use Rattle.std.specs.Prelude.{ℕ, ◌≡◌, ◌+◌, Some, List, length, slice_get}
use Rattle.pair_structure.specs.declared.side.Side.{Side}
use Rattle.conjunctive_compose.specs.declared.wish.Wish.{Wish}
use Rattle.conjunctive_compose.specs.declared.wish.PairMove.{PairMove}
use Rattle.conjunctive_compose.specs.System.{SystemParts, IsSystem}
use Rattle.conjunctive_compose.specs.Whole.{WholeParts, local_at, start_of, start_state}
use Rattle.conjunctive_compose.specs.Projection.{IsProjection}
use Rattle.conjunctive_compose.specs.Reply.{ReplyHolds, after_first, count_of, count_on, seen_pair}
use Rattle.conjunctive_compose.specs.Run.{IsRun}

-- a projection has as many moves as the run has firings of the edge's processes
abbrev pub ProjectionCounts : Type 0
ProjectionCounts = (sys : SystemParts) (w : WholeParts) (run : List Wish) (e : ℕ) (moves : List PairMove) → IsProjection sys w e run moves → length moves ≡ count_on sys run e (length run)

-- after no move the state where the edge starts, and after m the state of move m - 1
pub record IsShown (sys : SystemParts) (moves : List PairMove) (e m s : ℕ) : Type 0 where
  pub start : m ≡ 0 → s ≡ start_state sys e
  pub item : (before : ℕ) → before + 1 ≡ m → (side : Side) × (slice_get moves before ≡ Some (record { side = side; state = s }))

-- a look at an edge after m firings shows its projection
abbrev pub LookShowsProjection : Type 0
LookShowsProjection = (sys : SystemParts) (run : List Wish) (e m s : ℕ) (moves : List PairMove) → IsSystem sys → IsRun sys (start_of sys) run → IsProjection sys (start_of sys) e run moves → ReplyHolds sys run (seen_pair e m s) → IsShown sys moves e m s

-- where a process has fired equally often it is in one local state
abbrev pub EqualCountsEqualLocals : Type 0
EqualCountsEqualLocals = (sys : SystemParts) (run : List Wish) (k p q : ℕ) → count_of run k p ≡ count_of run k q → local_at (after_first sys run p) k ≡ local_at (after_first sys run q) k
