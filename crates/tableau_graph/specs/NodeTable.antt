-- How nodes are kept: in the order of their numbers, and the numbers by the nodes.
use Rattle.std.specs.Prelude.{ℕ, ◌≡◌, ◌<◌, ◌≤◌, ◌⊎◌, ◌++◌, List, [], ◌∷◌, length, Contains, Some, slice_get}
use Rattle.std.specs.declared.cmp.Ordering.{Ordering}
use Rattle.std.specs.BTreeMap.{BTreeMap, get}

-- the map has the number of each node, and no other numbers
pub record IsTable {N : Type 0} (cmp : N → N → Ordering) (nodes : List N) (numbers : BTreeMap N ℕ) : Type 0 where
  pub found : (node : N) (n : ℕ) → slice_get nodes n ≡ Some node → get cmp numbers node ≡ Some n
  pub only : (node : N) (n : ℕ) → get cmp numbers node ≡ Some n → slice_get nodes n ≡ Some node

-- the node has this number, and at most this node was put behind the others
pub record IsNumber {N : Type 0} (before : List N) (node : N) (after : List N) (n : ℕ) : Type 0 where
  pub at : slice_get after n ≡ Some node
  pub grown : (after ≡ before) ⊎ ((n ≡ length before) × (after ≡ before ++ node ∷ []))

-- the nodes have these numbers, and each node that was put behind the others is among them
pub record AreNumbers {N : Type 0} (before nodes after : List N) (numbers : List ℕ) : Type 0 where
  pub kept : (n : ℕ) (node : N) → slice_get before n ≡ Some node → slice_get after n ≡ Some node
  pub long : length numbers ≡ length nodes
  pub at : (k n : ℕ) (node : N) → slice_get nodes k ≡ Some node → slice_get numbers k ≡ Some n → slice_get after n ≡ Some node
  pub new : (n : ℕ) → length before ≤ n → n < length after → Contains numbers n
