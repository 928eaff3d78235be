-- How a peel order is found: processes that can go are placed one after another, and marked. For each process and arc
-- it is kept how many of the process's neighbours, from the first on, were found to be placed or to permit the arc, so
-- that none is looked at twice.
use Rattle.std.specs.Prelude.{ℕ, ◌≡◌, ◌<◌, ◌≤◌, ◌+◌, ◌*◌, ◌==◌, ◌↔◌, ◌⊎◌, ◌++◌, Bool, true, false, List, [], length, take, All, Contains, count_by, slice_index_or}
use Rattle.pair_structure.specs.declared.limits.TheConstants.{MAX_ARCS}
use Rattle.interconnection.specs.declared.parts.Beside.{Beside}
use Rattle.interconnection.specs.Graph.{AreNeighbours}
use Rattle.conjunctive_compose.specs.System.{SystemParts, process_count}
use Rattle.conjunctive_compose.specs.Whole.{WholeParts}
use Rattle.conjunctive_compose.specs.Firing.{Permits}
use Rattle.conjunctive_compose.specs.Peel.{CanGoInTurn, CanGoPast}

abbrev pub IsMarked : List Bool → ℕ → Type 0
IsMarked marks k = slice_index_or marks k false ≡ true

-- where the count of an arc of a process stands
abbrev pub place_of : ℕ → ℕ → ℕ
place_of k arc = k * MAX_ARCS + arc

abbrev pub passed_at : List ℕ → ℕ → ℕ → ℕ
passed_at passed k arc = slice_index_or passed (place_of k arc) 0

-- the processes placed so far, a mark for each process that is one of them, and the counts of passed neighbours
pub record PeelingParts : Type 0 where
  pub order : List ℕ
  pub marks : List Bool
  pub passed : List ℕ

-- the neighbour permits the arc, or is placed
abbrev pub IsPast : SystemParts → WholeParts → List Bool → ℕ → Beside → Type 0
IsPast sys w marks arc b = Permits sys w b.side arc b.edge ⊎ IsMarked marks b.process

-- so is each of the first n of these neighbours
abbrev pub ArePast : SystemParts → WholeParts → List Bool → ℕ → List Beside → ℕ → Type 0
ArePast sys w marks arc list n = (i : ℕ) (d : Beside) → i < n → IsPast sys w marks arc (slice_index_or list i d)

-- those placed are marked, stand once, and can go in turn; and the neighbours that are counted are past
pub record IsPeeling (sys : SystemParts) (w : WholeParts) (p : PeelingParts) : Type 0 where
  pub size : length p.marks ≡ process_count sys
  pub within : All (λ k. k < process_count sys) p.order
  pub marked : (k : ℕ) → Contains p.order k ↔ IsMarked p.marks k
  pub once : (k : ℕ) → count_by (λ j. j == k) p.order ≤ 1
  pub turns : CanGoInTurn sys w [] p.order
  pub count : length p.order ≡ count_by (λ b. b) p.marks
  pub room : length p.passed ≡ process_count sys * MAX_ARCS
  pub past : (k arc : ℕ) (list : List Beside) → arc < MAX_ARCS → AreNeighbours sys.network.edges k list → ArePast sys w p.marks arc list (passed_at p.passed k arc)

-- the same are placed
abbrev pub PlaceSame : PeelingParts → PeelingParts → Type 0
PlaceSame old new = (new.order ≡ old.order) × (new.marks ≡ old.marks)

-- more are placed, behind those of before
abbrev pub IsGrown : PeelingParts → PeelingParts → Type 0
IsGrown old new = (more : List ℕ) × (new.order ≡ old.order ++ more) × ((k : ℕ) → IsMarked old.marks k → IsMarked new.marks k)

-- no process that is left can go past the first n placed
abbrev pub NoneCanGo : SystemParts → WholeParts → PeelingParts → ℕ → Type 0
NoneCanGo sys w p n = (k : ℕ) → k < process_count sys → (IsMarked p.marks k → ⊥) → CanGoPast sys w (Contains (take n p.order)) k → ⊥

-- of the first n of these each is placed, or can't go past those that were placed before
abbrev pub WereTried : SystemParts → WholeParts → PeelingParts → PeelingParts → List Beside → ℕ → Type 0
WereTried sys w old new list n = (i : ℕ) (d : Beside) → i < n → IsMarked new.marks (slice_index_or list i d).process ⊎ (CanGoPast sys w (Contains old.order) (slice_index_or list i d).process → ⊥)
