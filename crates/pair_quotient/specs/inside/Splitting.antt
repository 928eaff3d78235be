-- Where the states of a structure go in one round of refining.
use Rattle.std.specs.Prelude.{ℕ, ◌≡◌, ◌≢◌, ◌⊎◌, ◌<◌, ◌≤◌, ◌++◌, Bool, List, [], ◌∷◌, length, slice_index}
use Rattle.std.specs.BTreeMap.{BTreeMap}
use Rattle.std.specs.Global.{Vec}
use Rattle.pair_structure.specs.declared.side.Move.{Move}
use Rattle.pair_structure.specs.Structure.{Structure}
use Rattle.pair_quotient.specs.inside.Naming.{AreNames, HasName, IsNameOf}
use Rattle.pair_quotient.specs.inside.Refining.{IsElected, IsSettled}

-- the state goes where its key says; its block's leader stays, and is settled where a state of the block is
pub record IsPlaced (m : Structure) (old leaders : List ℕ) (settled : List Bool) (names : BTreeMap (Vec Move) ℕ) (new : List ℕ) (s : ℕ) : Type 0 where
  pub own : IsNameOf m old names s (slice_index new s)
  pub lead : IsNameOf m old names (slice_index leaders (slice_index old s)) (slice_index old s)
  pub elected : IsElected (length m.states) old leaders settled (slice_index old s)

-- a settled state stays, another is placed
abbrev pub IsMoved : Structure → List ℕ → List ℕ → List Bool → BTreeMap (Vec Move) ℕ → List ℕ → ℕ → Type 0
IsMoved m old leaders settled names new s = (IsSettled settled s × (slice_index new s ≡ slice_index old s)) ⊎ IsPlaced m old leaders settled names new s

-- each block's leader is a state of it
pub record AreLed (n : ℕ) (classes leaders : List ℕ) : Type 0 where
  pub within : (s : ℕ) → s < n → slice_index classes s < length leaders
  pub states : (b : ℕ) → b < length leaders → slice_index leaders b < n
  pub led : (b : ℕ) → b < length leaders → slice_index classes (slice_index leaders b) ≡ b

-- a new block gets the state as its leader
abbrev pub IsLeading : ℕ → ℕ → List ℕ → List ℕ → Type 0
IsLeading block state old new = ((block ≡ length old) × (new ≡ old ++ state ∷ [])) ⊎ ((block ≢ length old) × (new ≡ old))

-- b is a block of before, or one of the first n states leads it and goes there
abbrev pub LeadsItself : List ℕ → List ℕ → List ℕ → ℕ → ℕ → Type 0
LeadsItself states targets leaders n b = (j : ℕ) × (j < n) × (slice_index states j ≡ slice_index leaders b) × (slice_index targets j ≡ b)

-- the first n states have their targets
pub record AreTargets (m : Structure) (classes old : List ℕ) (before : BTreeMap (Vec Move) ℕ) (states : List ℕ) (n : ℕ) (leaders : List ℕ) (names : BTreeMap (Vec Move) ℕ) (targets : List ℕ) : Type 0 where
  pub are : AreNames m classes old (length leaders) names
  pub more : length old ≤ length leaders
  pub kept : (b : ℕ) → b < length old → slice_index leaders b ≡ slice_index old b
  pub named : (key : Vec Move) (k : ℕ) → HasName before key k → HasName names key k
  pub long : length targets ≡ n
  pub each : (j : ℕ) → j < n → IsNameOf m classes names (slice_index states j) (slice_index targets j)
  pub leading : (b : ℕ) → length old ≤ b → b < length leaders → LeadsItself states targets leaders n b
