-- Structures that are joined: the start states come first, and each in turn gets the states and moves of a structure that begins there.
use Rattle.std.specs.Prelude.{ℕ, ◌≡◌, ◌<◌, ◌≤◌, ◌⊎◌, ◌+◌, ◌-◌, ◌*◌, ◌++◌, ◌==◌, List, All, cond, drop, length, map}
use Rattle.std.specs.List.{flat_map}
use Rattle.pair_structure.specs.declared.side.Move.{Move}
use Rattle.pair_structure.specs.declared.side.Side.{Side}
use Rattle.pair_structure.specs.Role.{RoleParts, start_at}
use Rattle.pair_structure.specs.Structure.{Structure, HasMove, HaveStarts, IsLabel, IsLawfulMove, Reaches, start_count}
use Rattle.ctl_form.specs.NormalParts.{NormalParts, formula_of}
use Rattle.ctl_form.specs.Truth.{Holds}

-- the labels of the start states with this start of side a, and of all start states
abbrev pub start_row : ℕ → List ℕ → List (ℕ × ℕ)
start_row p b = map (λ q. (p, q)) b

abbrev pub start_labels : List ℕ → List ℕ → List (ℕ × ℕ)
start_labels a b = flat_map (λ p. start_row p b) a

-- of so many states one that has its moves: a start state whose turn was, or a state behind the start states
abbrev pub IsBegun : ℕ → ℕ → ℕ → ℕ → Type 0
IsBegun count begun size s = (s < size) × ((s < begun) ⊎ (count ≤ s))

-- so many start states have had their turn
pub record IsJoined (a b : RoleParts) (begun : ℕ) (w : Structure) : Type 0 where
  pub long : start_count a b ≤ length w.states
  pub starts : HaveStarts a b w.states
  pub labels : All (IsLabel a b) w.states
  pub lawful : All (IsLawfulMove a b w.states) w.moves
  pub leaves : (side : Side) (s t : ℕ) → HasMove w side s t → IsBegun (start_count a b) begun (length w.states) s
  pub within : (side : Side) (s t : ℕ) → HasMove w side s t → IsBegun (start_count a b) begun (length w.states) t
  pub onward : (s : ℕ) → IsBegun (start_count a b) begun (length w.states) s → (t : ℕ) × Reaches w s t

-- the formula of each root is true at the first states
abbrev pub HaveRoots : NormalParts → ℕ → Structure → Type 0
HaveRoots n begun w = (s : ℕ) → s < begun → All (λ root. Holds w (formula_of n root) s) n.roots

-- where a state of a structure stands that begins at a start state: its state 0 there, the others behind what there is
abbrev pub place_of : ℕ → ℕ → ℕ → ℕ
place_of begun size s = cond (s == 0) begun (size + (s - 1))

abbrev pub moved : ℕ → ℕ → Move → Move
moved begun size x = record { from = place_of begun size x.from; side = x.side; to = place_of begun size x.to }

-- with the states and moves of one more
abbrev pub with_joined : ℕ → Structure → Structure → Structure
with_joined begun w m = record { states = w.states ++ drop 1 m.states; moves = w.moves ++ map (moved begun (length w.states)) m.moves }

-- the turn is at the first start state with this start of side a
abbrev pub IsAtRow : RoleParts → RoleParts → ℕ → ℕ → Type 0
IsAtRow a b start begun = (i : ℕ) × (i < length a.starts) × (start ≡ start_at a.starts i) × (begun ≡ i * length b.starts)
