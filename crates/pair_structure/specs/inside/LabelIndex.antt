-- How a structure finds states by their labels: the states of each label in one list, rising.
use Rattle.std.specs.Prelude.{ℕ, ◌≡◌, ◌<◌, List, length, count_by, take, slice_index}
use Rattle.pair_structure.specs.Lists.{list_at}
use Rattle.pair_structure.specs.Ordinal.{is_same_label, ordinal_of, IsStateAt}

-- the list in row a at b; outside the rows it is empty
abbrev pub label_list : List (List (List ℕ)) → ℕ → ℕ → List ℕ
label_list rows a b = list_at (list_at rows a) b

-- the list has those of the first n states with this label, each at its ordinal
pub record IsListed (states : List (ℕ × ℕ)) (n : ℕ) (label : ℕ × ℕ) (list : List ℕ) : Type 0 where
  pub count : length list ≡ count_by (is_same_label label) (take n states)
  pub each : (x : ℕ) → x < length list → IsStateAt states label x (slice_index list x)

-- the ordinals and the lists of the first n states
pub record IsIndexBelow (n : ℕ) (states : List (ℕ × ℕ)) (ordinals : List ℕ) (rows : List (List (List ℕ))) : Type 0 where
  pub long : length ordinals ≡ n
  pub ordinal : (s : ℕ) → s < n → slice_index ordinals s ≡ ordinal_of states s
  pub lists : (a b : ℕ) → IsListed states n (a, b) (label_list rows a b)

abbrev pub IsIndexOf : List (ℕ × ℕ) → List ℕ → List (List (List ℕ)) → Type 0
IsIndexOf states = IsIndexBelow (length states) states
