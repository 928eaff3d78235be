-- An until as far as n moves show it: in each round one more move is looked at.
use Rattle.std.specs.Prelude.{ℕ, zero, suc, ◌⊎◌, Bool, true, false}
use Rattle.pair_structure.specs.Structure.{Structure, Reaches}

-- after each move, or after some
abbrev pub AfterMove : Structure → Bool → (ℕ → Type 0) → ℕ → Type 0
AfterMove m true X s = (t : ℕ) → Reaches m s t → X t
AfterMove m false X s = (t : ℕ) × Reaches m s t × X t

-- before the first move: a weak until asks for either part, a strong one for the second
abbrev pub Outset : Bool → Type 0 → Type 0 → Type 0
Outset true P Q = P ⊎ Q
Outset false P Q = Q

abbrev pub Round : Structure → Bool → Bool → (ℕ → Type 0) → (ℕ → Type 0) → ℕ → ℕ → Type 0
Round m all weak P Q zero s = Outset weak (P s) (Q s)
Round m all weak P Q (suc n) s = Q s ⊎ (P s × AfterMove m all (Round m all weak P Q n) s)

-- a weak until holds in every round, a strong one in some
abbrev pub InRounds : Structure → Bool → Bool → (ℕ → Type 0) → (ℕ → Type 0) → ℕ → Type 0
InRounds m all true P Q s = (n : ℕ) → Round m all true P Q n s
InRounds m all false P Q s = (n : ℕ) × Round m all false P Q n s
