-- What the code of a round asks of the blocks that it touches, and of the lists of predecessors.
use Rattle.std.proofs.Common.{ℕ, ◌≡◌, ◌<◌, ◌≤◌, ◌+◌, List, All, Contains, length, slice_index, get_or, subst}
use Rattle.std.proofs.lemmas.List.Elements.{All-contains, Contains-get_or}
use Rattle.pair_structure.specs.Structure.{Structure, GoesOn}
use Rattle.ctl_form.specs.Predecessors.{ArePredecessors}
use Rattle.ctl_form.proofs.Moves.{reaches_from}

-- the blocks of states that wait are blocks
pub touched_within : (m : Structure) (classes leaders waiting touched : List ℕ) → ((s : ℕ) → s < length m.states → slice_index classes s < length leaders) → All (λ s. s < length m.states) waiting → ((b : ℕ) → Contains touched b → (s : ℕ) × Contains waiting s × (slice_index classes s ≡ b)) → All (λ b. b < length leaders) touched
touched_within m classes leaders waiting touched within states from k d lt =
    let u = from (get_or touched k d) (Contains-get_or touched k d lt) in
    subst (λ b. b < length leaders) u.2 (within u.0 (All-contains (λ s. s < length m.states) waiting u.0 states u.1))

-- the sources of a state are states
pub sources_within : (m : Structure) → GoesOn m → (begins sources : List ℕ) → ArePredecessors m begins sources → (t : ℕ) → t < length m.states → (k : ℕ) → slice_index begins t ≤ k → k < slice_index begins (t + 1) → slice_index sources k < length m.states
sources_within m on begins sources p t lt k low high = reaches_from m on (slice_index sources k) t (p.leads t k lt low high)
