-- How a partition is refined: blocks of states, some of which wait to be looked at again.
use Rattle.std.specs.Prelude.{ℕ, ◌≡◌, ◌<◌, Bool, true, false, Option, Some, None, List, [], length, Contains, All, slice_index, slice_index_or}
use Rattle.pair_structure.specs.Structure.{Structure}
use Rattle.pair_quotient.specs.inside.Partition.{IsMatched, IsPartition}

-- the state is settled: nothing that it can reach by a move changed its block since it was looked at
abbrev pub IsSettled : List Bool → ℕ → Type 0
IsSettled settled s = slice_index_or settled s false ≡ true

-- each state has a block; each block has a leader, which is a state of it, and a list that has its states
pub record AreBlocks (n : ℕ) (classes leaders : List ℕ) (members : List (List ℕ)) : Type 0 where
  pub long : length classes ≡ n
  pub within : (s : ℕ) → s < n → slice_index classes s < length leaders
  pub states : (b : ℕ) → b < length leaders → slice_index leaders b < n
  pub led : (b : ℕ) → b < length leaders → slice_index classes (slice_index leaders b) ≡ b
  pub lists : length members ≡ length leaders
  pub in_range : (b : ℕ) → All (λ s. s < n) (slice_index_or members b [])
  pub listed : (s : ℕ) → s < n → Contains (slice_index_or members (slice_index classes s) []) s

-- no other state is in the block of s
abbrev pub IsAlone : List ℕ → ℕ → Type 0
IsAlone classes s = (t : ℕ) → t < length classes → slice_index classes t ≡ slice_index classes s → t ≡ s

-- each of the n states has a block, and stands in its list
pub record AreListed (n : ℕ) (classes : List ℕ) (members : List (List ℕ)) : Type 0 where
  pub long : length classes ≡ n
  pub listed : (s : ℕ) → s < n → Contains (slice_index_or members (slice_index classes s) []) s

-- states that are not settled wait
pub record AreWaiting (n : ℕ) (settled : List Bool) (waiting : List ℕ) : Type 0 where
  pub long : length settled ≡ n
  pub states : All (λ s. s < n) waiting
  pub each : (s : ℕ) → s < n → (IsSettled settled s → ⊥) → Contains waiting s

-- settled states of one block match each other
pub record AreCalm (m : Structure) (classes : List ℕ) (settled : List Bool) : Type 0 where
  pub matched : (s t : ℕ) → s < length m.states → t < length m.states → IsSettled settled s → IsSettled settled t → slice_index classes s ≡ slice_index classes t → IsMatched m classes s t

-- where a state of the block is settled, its leader is
abbrev pub IsElected : ℕ → List ℕ → List ℕ → List Bool → ℕ → Type 0
IsElected n classes leaders settled b = (s : ℕ) → s < n → slice_index classes s ≡ b → IsSettled settled s → IsSettled settled (slice_index leaders b)

-- a state of the block, or none
abbrev pub IsMemberIfAny : ℕ → List ℕ → ℕ → Option ℕ → Type 0
IsMemberIfAny n classes block None = Unit {0}
IsMemberIfAny n classes block (Some s) = (s < n) × (slice_index classes s ≡ block)

-- what each round of refining keeps
pub record AreRefined (m : Structure) (classes leaders : List ℕ) (members : List (List ℕ)) (settled : List Bool) (waiting : List ℕ) : Type 0 where
  pub partition : IsPartition m classes
  pub blocks : AreBlocks (length m.states) classes leaders members
  pub calm : AreCalm m classes settled
  pub waits : AreWaiting (length m.states) settled waiting
