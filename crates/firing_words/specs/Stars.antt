-- What is read of a process and its edges, and what a firing makes of it.
use Rattle.std.specs.Prelude.{◌≡◌, ℕ, ◌<◌, ◌≤◌, List, slice_index_or}
use Rattle.interconnection.specs.declared.parts.Beside.{Beside}
use Rattle.interconnection.specs.Graph.{IsEdgeOf}
use Rattle.pair_structure.specs.declared.side.Side.TheVariants.{A}
use Rattle.conjunctive_compose.specs.System.{SystemParts}
use Rattle.firing_words.specs.declared.limits.TheConstants.{HALF_WORD, MAX_ENTRIES}
use Rattle.firing_words.specs.declared.cell.Cell.{Cell}
use Rattle.firing_words.specs.declared.cell.Cell.TheVariants.{Process, Edge}
use Rattle.firing_words.specs.declared.cell.Reading.{Reading}
use Rattle.firing_words.specs.Lists.{Has}

abbrev pub no_beside : Beside
no_beside = record { process = 0; edge = 0; side = A }

abbrev pub beside_at : List Beside → ℕ → Beside
beside_at list i = slice_index_or list i no_beside

-- the reading is known, and fits its word
pub record IsKnown (known : List Reading) (r : Reading) : Type 0 where
  pub has : Has r known
  pub moves : r.moves ≤ MAX_ENTRIES
  pub content : r.content < HALF_WORD

-- each of the readings is
abbrev pub AreKnown : List Reading → List Reading → Type 0
AreKnown known readings = (r : Reading) → Has r readings → IsKnown known r

-- some reading is of this cell
abbrev pub HasReading : List Reading → Cell → Type 0
HasReading readings i = (r : Reading) × Has r readings × (r.cell ≡ i)

-- there are readings of the process and of each of its edges
pub record HasStar (sys : SystemParts) (k : ℕ) (readings : List Reading) : Type 0 where
  pub own : HasReading readings (Process k)
  pub edges : (e : ℕ) → IsEdgeOf sys.network.edges k e → HasReading readings (Edge e)
