-- States on their way to their targets.
use Rattle.std.specs.Prelude.{ℕ, ◌≡◌, ◌≢◌, ◌⊎◌, ◌<◌, ◌++◌, List, [], ◌∷◌, length, Contains, All, slice_index, slice_index_or, slice_set}

-- one of the first n states
abbrev pub IsAmong : List ℕ → ℕ → ℕ → Type 0
IsAmong states n s = (j : ℕ) × (j < n) × (slice_index states j ≡ s)

-- the targets of states that stand several times are equal
abbrev pub AreAgreed : List ℕ → List ℕ → Type 0
AreAgreed states targets = (j k : ℕ) → j < length states → k < length states → slice_index states j ≡ slice_index states k → slice_index targets j ≡ slice_index targets k

-- of the first n states each has gone to its target; the others are where they were; those that changed their block are listed
pub record HaveMoved (count : ℕ) (states targets : List ℕ) (n : ℕ) (old new : List ℕ) (members : List (List ℕ)) (moved : List ℕ) : Type 0 where
  pub long : length new ≡ length old
  pub gone : (j : ℕ) → j < n → slice_index new (slice_index states j) ≡ slice_index targets j
  pub stayed : (s : ℕ) → (slice_index new s ≡ slice_index old s) ⊎ IsAmong states n s
  pub changed : (s : ℕ) → slice_index new s ≢ slice_index old s → Contains moved s
  pub listed_moved : All (λ s. (s < length old) × IsAmong states n s × (slice_index new s ≢ slice_index old s)) moved
  pub lists : length members ≡ count
  pub in_range : (b : ℕ) → All (λ s. s < length old) (slice_index_or members b [])
  pub listed : (s : ℕ) → s < length old → Contains (slice_index_or members (slice_index new s) []) s

-- the state goes to a block that it was not in
pub record GoesTo (state target : ℕ) (old new : List ℕ) (members members' : List (List ℕ)) (moved moved' : List ℕ) : Type 0 where
  pub differ : slice_index old state ≢ target
  pub set : new ≡ slice_set old state target
  pub lists : length members' ≡ length members
  pub here : slice_index_or members' target [] ≡ slice_index_or members target [] ++ state ∷ []
  pub elsewhere : (b : ℕ) → (target ≡ b → ⊥) → slice_index_or members' b [] ≡ slice_index_or members b []
  pub list : moved' ≡ moved ++ state ∷ []

-- the state is in the block, and nothing changes
pub record StaysIn (state target : ℕ) (old new : List ℕ) (members members' : List (List ℕ)) (moved moved' : List ℕ) : Type 0 where
  pub at : slice_index old state ≡ target
  pub classes : new ≡ old
  pub lists : members' ≡ members
  pub list : moved' ≡ moved
