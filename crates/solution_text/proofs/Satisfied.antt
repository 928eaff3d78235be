-- A solution solves where the structure of each kind satisfies it.
use Rattle.std.proofs.Common.{ℕ, zero, suc, ◌≡◌, ◌<◌, List, [], ◌∷◌, length, refl, arith, ◌+◌, below_more, get_or, ◌∙◌}
use Rattle.pair_structure.specs.Role.{RoleParts}
use Rattle.pair_structure.specs.Structure.{Structure, IsOver}
use Rattle.ctl_form.specs.declared.pair_spec.PairSpec.{PairSpec}
use Rattle.ctl_form.specs.Kind.{role_at, SatisfiesKind, Solves}
use Rattle.std.proofs.lemmas.List.{get_or_default}
use Rattle.ctl_text.specs.Value.{kind_at}
use Rattle.solution_text.specs.Failing.{structure_at}
use Rattle.solution_text.specs.SolutionText.{AreOver}

pub over_count : (roles : List RoleParts) (kinds : List PairSpec) (structures : List Structure) → AreOver roles kinds structures → length structures ≡ length kinds
over_count roles [] [] over = refl
over_count roles [] (m ∷ structures) over = absurd over
over_count roles (kind ∷ kinds) [] over = absurd over
over_count roles (kind ∷ kinds) (m ∷ structures) over = let e = over_count roles kinds structures over.1 in omega arith

pub over_at : (roles : List RoleParts) (kinds : List PairSpec) (structures : List Structure) (k : ℕ) → AreOver roles kinds structures → k < length kinds → IsOver (role_at roles (kind_at kinds k).role_a) (role_at roles (kind_at kinds k).role_b) (structure_at structures k)
over_at roles [] [] k over lt = absurd (omega arith)
over_at roles [] (m ∷ structures) k over lt = absurd over
over_at roles (kind ∷ kinds) [] k over lt = absurd over
over_at roles (kind ∷ kinds) (m ∷ structures) zero over lt = over.0
over_at roles (kind ∷ kinds) (m ∷ structures) (suc k) over lt = over_at roles kinds structures k over.1 (omega arith)

pub all_solve : (roles : List RoleParts) (kinds : List PairSpec) (structures : List Structure) → AreOver roles kinds structures → ((k : ℕ) → k < length kinds → SatisfiesKind roles (kind_at kinds k) (structure_at structures k)) → Solves roles kinds structures
all_solve roles [] [] over each = tt
all_solve roles [] (m ∷ structures) over each = absurd over
all_solve roles (kind ∷ kinds) [] over each = absurd over
all_solve roles (kind ∷ kinds) (m ∷ structures) over each = (each 0 (omega arith), all_solve roles kinds structures over.1 (λ k lt. each (suc k) (omega arith)))

-- an element of a list, whatever stands past its end
pub kind_is : (kinds : List PairSpec) (n : ℕ) (kind : PairSpec) → n < length kinds → kind ≡ get_or kinds n kind → kind ≡ kind_at kinds n
kind_is kinds n kind lt is = is ∙ get_or_default kinds n kind _ lt

pub structure_is : (structures : List Structure) (n : ℕ) (m : Structure) → n < length structures → m ≡ get_or structures n m → m ≡ structure_at structures n
structure_is structures n m lt is = is ∙ get_or_default structures n m _ lt

-- a kind and its structure, at the same place
pub record ArePaired (kinds : List PairSpec) (structures : List Structure) (n : ℕ) (kind : PairSpec) (m : Structure) : Type 0 where
  pub within : n < length kinds
  pub kind_there : kind ≡ kind_at kinds n
  pub structure_there : m ≡ structure_at structures n

pub ArePaired-at : (roles : List RoleParts) (kinds : List PairSpec) (structures : List Structure) (n : ℕ) (kind : PairSpec) (m : Structure) → AreOver roles kinds structures → n < length kinds → kind ≡ get_or kinds n kind → m ≡ get_or structures n m → ArePaired kinds structures n kind m
ArePaired-at roles kinds structures n kind m over lt k_is m_is =
    let count = over_count roles kinds structures over in
    record { within = lt; kind_there = kind_is kinds n kind lt k_is; structure_there = structure_is structures n m (omega arith) m_is }

pub over_there : (roles : List RoleParts) (kinds : List PairSpec) (structures : List Structure) (n : ℕ) (kind : PairSpec) (m : Structure) → AreOver roles kinds structures → ArePaired kinds structures n kind m → IsOver (role_at roles kind.role_a) (role_at roles kind.role_b) m
over_there roles kinds structures n kind m over p = rw (p.kind_there, p.structure_there) (over_at roles kinds structures n over p.within)

-- a kind that is satisfied joins those before it
pub one_more : (roles : List RoleParts) (kinds : List PairSpec) (structures : List Structure) (n : ℕ) (kind : PairSpec) (m : Structure) → ((k : ℕ) → k < n → SatisfiesKind roles (kind_at kinds k) (structure_at structures k)) → ArePaired kinds structures n kind m → SatisfiesKind roles kind m → (k : ℕ) → k < n + 1 → SatisfiesKind roles (kind_at kinds k) (structure_at structures k)
one_more roles kinds structures n kind m before p here = below_more (λ k. SatisfiesKind roles (kind_at kinds k) (structure_at structures k)) n before (rw (p.kind_there, p.structure_there) at here)
