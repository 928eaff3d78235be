-- Roles: what a process of a pair is, alone.
use Rattle.std.specs.Prelude.{ℕ, ◌≡◌, ◌≢◌, ◌<◌, ◌≤◌, List, length, All, AllPairs, Any, slice_index_or, [], ◌∷◌}
use Rattle.pair_structure.specs.declared.limits.TheConstants.{MAX_ARCS, MAX_LOCALS}
use Rattle.pair_structure.specs.declared.side.LocalArc.{LocalArc}

-- a role as a value: the names of its local states, the numbers of those where it may start, and its arcs
pub record RoleParts : Type 0 where
  pub name : List ℕ
  pub locals : List (List ℕ)
  pub starts : List ℕ
  pub arcs : List LocalArc

-- some arc leads from p to q
abbrev pub HasArc : List LocalArc → ℕ → ℕ → Type 0
HasArc arcs p q = Any (λ (arc : LocalArc). (arc.from ≡ p) × (arc.to ≡ q)) arcs

-- some arc leaves p
abbrev pub HasArcFrom : List LocalArc → ℕ → Type 0
HasArcFrom arcs p = Any (λ (arc : LocalArc). arc.from ≡ p) arcs

-- an arc joins two different ones of so many local states
pub record JoinsTwo (count : ℕ) (arc : LocalArc) : Type 0 where
  pub from : arc.from < count
  pub to : arc.to < count
  pub differ : arc.from ≢ arc.to

-- what makes local states, starts and arcs a role
pub record AreLawful (locals : List (List ℕ)) (starts : List ℕ) (arcs : List LocalArc) : Type 0 where
  pub some : 0 < length locals
  pub few_locals : length locals ≤ MAX_LOCALS
  pub names_differ : AllPairs (λ x y. x ≢ y) locals
  pub begins : 0 < length starts
  pub starts_within : All (λ start. start < length locals) starts
  pub starts_differ : AllPairs (λ x y. x ≢ y) starts
  pub few_arcs : length arcs ≤ MAX_ARCS
  pub joins : All (JoinsTwo (length locals)) arcs
  pub ends_differ : AllPairs (λ (x y : LocalArc). x.from ≡ y.from → x.to ≡ y.to → ⊥) arcs
  pub leaves : (p : ℕ) → p < length locals → HasArcFrom arcs p

abbrev pub IsRole : RoleParts → Type 0
IsRole r = AreLawful r.locals r.starts r.arcs

-- a start by its number; past the end local state 0
abbrev pub start_at : List ℕ → ℕ → ℕ
start_at starts n = slice_index_or starts n 0

abbrev pub first_start : RoleParts → ℕ
first_start r = start_at r.starts 0

-- the role with this start alone
abbrev pub starting_at : RoleParts → ℕ → RoleParts
starting_at r start = record { name = r.name; locals = r.locals; starts = start ∷ []; arcs = r.arcs }

abbrev pub HasOneStart : RoleParts → Type 0
HasOneStart r = length r.starts ≡ 1
