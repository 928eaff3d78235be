-- Paths of a pair structure, and what holds along one.
use Rattle.std.specs.Prelude.{ℕ, ◌≡◌, ◌⊎◌, List, [], ◌∷◌, length}
use Rattle.pair_structure.specs.Structure.{Structure, Reaches}

-- from s through these later states, each reached by a move from the one before
abbrev pub IsPath : Structure → ℕ → List ℕ → Type 0
IsPath m s [] = Unit {0}
IsPath m s (t ∷ later) = Reaches m s t × IsPath m t later

-- the last state has Q, and each before it has P
abbrev pub LastAfter : (ℕ → Type 0) → (ℕ → Type 0) → ℕ → List ℕ → Type 0
LastAfter P Q s [] = Q s
LastAfter P Q s (t ∷ later) = P s × LastAfter P Q t later

-- some state has Q, and each before that one has P
abbrev pub SomeAfter : (ℕ → Type 0) → (ℕ → Type 0) → ℕ → List ℕ → Type 0
SomeAfter P Q s [] = Q s
SomeAfter P Q s (t ∷ later) = Q s ⊎ (P s × SomeAfter P Q t later)

-- each state has P, or it or one before it has Q
abbrev pub EachUnless : (ℕ → Type 0) → (ℕ → Type 0) → ℕ → List ℕ → Type 0
EachUnless P Q s [] = P s ⊎ Q s
EachUnless P Q s (t ∷ later) = Q s ⊎ (P s × EachUnless P Q t later)

-- E[P U Q]: some path ends in Q, with P at every earlier place
abbrev pub SomePathUntil : Structure → (ℕ → Type 0) → (ℕ → Type 0) → ℕ → Type 0
SomePathUntil m P Q s = (later : List ℕ) × IsPath m s later × LastAfter P Q s later

-- A[P U Q]: for some n, each path of n moves has a place with Q, and P at every earlier place
abbrev pub EachPathUntil : Structure → (ℕ → Type 0) → (ℕ → Type 0) → ℕ → Type 0
EachPathUntil m P Q s = (n : ℕ) × ((later : List ℕ) → length later ≡ n → IsPath m s later → SomeAfter P Q s later)

-- A[P W Q]: on each path each place has P, or Q there or earlier
abbrev pub EachPathUnless : Structure → (ℕ → Type 0) → (ℕ → Type 0) → ℕ → Type 0
EachPathUnless m P Q s = (later : List ℕ) → IsPath m s later → EachUnless P Q s later

-- E[P W Q]: for every n, some path of n moves is such
abbrev pub SomePathUnless : Structure → (ℕ → Type 0) → (ℕ → Type 0) → ℕ → Type 0
SomePathUnless m P Q s = (n : ℕ) → (later : List ℕ) × (length later ≡ n) × IsPath m s later × EachUnless P Q s later
