-- Names of keys: the block of a leader for its own key, and a new number for each other.
use Rattle.std.specs.Prelude.{ℕ, ◌≡◌, ◌⊎◌, ◌<◌, ◌≤◌, cond, List, length, Some, None, slice_index}
use Rattle.std.specs.BTreeMap.{BTreeMap, get, is_at}
use Rattle.std.specs.Cmp.Lexicographic.{slice_cmp}
use Rattle.std.specs.Global.{Vec}
use Rattle.std.specs.declared.cmp.Ordering.{Ordering}
use Rattle.pair_structure.specs.contracts.side.MoveOrd.TheImpl as move_ord
use Rattle.pair_structure.specs.declared.side.Move.{Move}
use Rattle.pair_structure.specs.Structure.{Structure}
use Rattle.pair_quotient.specs.inside.ClassMoves.{IsKey}

-- the order of keys
abbrev pub key_cmp : Vec Move → Vec Move → Ordering
key_cmp key other = slice_cmp (move_ord.ghosts).cmp key.items other.items

-- the key has this name
abbrev pub HasName : BTreeMap (Vec Move) ℕ → Vec Move → ℕ → Type 0
HasName names key n = get key_cmp names key ≡ Some n

-- a key that had a name keeps it; another gets the next one
pub record IsNamed (old : BTreeMap (Vec Move) ℕ) (key : Vec Move) (next : ℕ) (new : BTreeMap (Vec Move) ℕ) (n : ℕ) : Type 0 where
  pub here : HasName new key n
  pub cases : (HasName old key n × (new ≡ old)) ⊎ ((n ≡ next) × (get key_cmp old key ≡ None) × ((q : Vec Move) → get key_cmp new q ≡ cond (is_at (key_cmp key) q) (Some next) (get key_cmp old q)))

-- names below the number of blocks are those of the leaders' keys, the others are new; no two keys have one name
pub record AreNames (m : Structure) (classes leaders : List ℕ) (next : ℕ) (names : BTreeMap (Vec Move) ℕ) : Type 0 where
  pub of : (key : Vec Move) (n : ℕ) → HasName names key n → ((n < length leaders) × IsKey m classes (slice_index leaders n) key.items) ⊎ ((length leaders ≤ n) × (n < next))
  pub apart : (key other : Vec Move) (n : ℕ) → HasName names key n → HasName names other n → key.items ≡ other.items

-- the key of state s has the name n
pub record IsNameOf (m : Structure) (classes : List ℕ) (names : BTreeMap (Vec Move) ℕ) (s n : ℕ) : Type 0 where
  pub key : Vec Move
  pub is : IsKey m classes s key.items
  pub named : HasName names key n
