-- How a strong until is labelled: marks spread against the moves, by a worklist. The machine's words; no public clause cites them.
use Rattle.std.specs.Prelude.{ℕ, ◌≡◌, ◌⊎◌, ◌<◌, ◌≤◌, ◌++◌, Bool, true, false, List, [], ◌∷◌, All, Contains, length, slice_index, slice_set}
use Rattle.pair_structure.specs.declared.side.Move.{Move}
use Rattle.pair_structure.specs.Structure.{Structure}
use Rattle.pair_structure.specs.StructureFault.{move_at}
use Rattle.ctl_form.specs.Rounds.{AfterMove}
use Rattle.ctl_form.specs.Row.{IsAt}
use Rattle.ctl_form.specs.Truth.{AlongPaths}

-- no move goes before an earlier one, by the states that they leave
abbrev pub AreInOrder : List Move → Type 0
AreInOrder moves = (j k : ℕ) → j ≤ k → k < length moves → (move_at moves j).from ≤ (move_at moves k).from

-- each state's cursor: its moves before that place lead to marked states, and from there on no move leaves an earlier state
pub record AreCursors (states : ℕ) (moves : List Move) (row : List Bool) (cursors : List ℕ) : Type 0 where
  pub long : length cursors ≡ states
  pub within : (s : ℕ) → s < states → slice_index cursors s ≤ length moves
  pub passed : (s j : ℕ) → s < states → j < slice_index cursors s → j < length moves → (move_at moves j).from ≡ s → IsAt row (move_at moves j).to
  pub ahead : (s j : ℕ) → s < states → slice_index cursors s ≤ j → j < length moves → s ≤ (move_at moves j).from

-- from place `from` up to `end` each move leads from s to a marked state, and at `end` there is none that does
pub record IsPassed (moves : List Move) (row : List Bool) (s from end : ℕ) : Type 0 where
  pub upward : from ≤ end
  pub within : end ≤ length moves
  pub between : (j : ℕ) → from ≤ j → j < end → ((move_at moves j).from ≡ s) × IsAt row (move_at moves j).to
  pub stops : end < length moves → (move_at moves end).from ≡ s → IsAt row (move_at moves end).to → ⊥

-- every move from s leads to a marked state
abbrev pub EachLeads : List Move → List Bool → ℕ → Type 0
EachLeads moves row s = (j : ℕ) → j < length moves → (move_at moves j).from ≡ s → IsAt row (move_at moves j).to

-- s, some move of which leads to a marked state, is to be marked too
pub record IsAdmitted (moves : List Move) (all : Bool) (p row : List Bool) (s : ℕ) : Type 0 where
  pub unmarked : IsAt row s → ⊥
  pub first : IsAt p s
  pub leads : all ≡ true → EachLeads moves row s

-- s was looked at: it is marked and put on the worklist, or nothing changes
abbrev pub Visits : List Move → Bool → List Bool → ℕ → List Bool → List ℕ → List Bool → List ℕ → Type 0
Visits moves all p s row work row' work' = (IsAdmitted moves all p row s × (row' ≡ slice_set row s true) × (work' ≡ work ++ s ∷ [])) ⊎ ((IsAdmitted moves all p row s → ⊥) × (row' ≡ row) × (work' ≡ work))

-- the states where the row is true
pub record IsMarkList (row : List Bool) (states : List ℕ) : Type 0 where
  pub marked : All (IsAt row) states
  pub within : All (λ s. s < length row) states
  pub complete : (s : ℕ) → s < length row → IsAt row s → Contains states s

-- nothing is asked of a move
abbrev pub Anyhow : ℕ → ℕ → Type 0
Anyhow s t = Unit {0}

-- a move from s to t: if t is the state in hand, s stands among its predecessors before place k
abbrev pub SeenBefore : List ℕ → List ℕ → ℕ → ℕ → ℕ → ℕ → Type 0
SeenBefore begins sources hand k s t = t ≡ hand → (i : ℕ) × (slice_index begins hand ≤ i) × (i < k) × (slice_index sources i ≡ s)

-- the move from s to t is used: it leads to a marked state that is off the worklist, and it was seen
pub record IsUsed (row : List Bool) (work : List ℕ) (Seen : ℕ → ℕ → Type 0) (s t : ℕ) : Type 0 where
  pub marked : IsAt row t
  pub off : Contains work t → ⊥
  pub seen : Seen s t

-- marks on their way: what is marked is true, what has q is marked, and so is what has p and the used moves that it needs
pub record IsSpread (m : Structure) (all : Bool) (p q row : List Bool) (work : List ℕ) (Seen : ℕ → ℕ → Type 0) : Type 0 where
  pub long : length row ≡ length m.states
  pub listed : All (λ s. s < length m.states) work
  pub marked : All (IsAt row) work
  pub sound : (s : ℕ) → s < length m.states → IsAt row s → AlongPaths m all false (IsAt p) (IsAt q) s
  pub started : (s : ℕ) → IsAt q s → IsAt row s
  pub spread : (s : ℕ) → s < length m.states → IsAt p s → AfterMove m all (IsUsed row work Seen s) s → IsAt row s
