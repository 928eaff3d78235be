-- What synthesis answers.
use Rattle.std.specs.Prelude.{ℕ, ◌<◌, All}
use Rattle.pair_structure.specs.Role.{RoleParts}
use Rattle.pair_structure.specs.Structure.{Structure, IsOver, start_count}
use Rattle.ctl_form.specs.NormalParts.{NormalParts, formula_of}
use Rattle.ctl_form.specs.Truth.{Holds}
use Rattle.unravel.specs.declared.synthesis.Outcome.{Outcome}
use Rattle.unravel.specs.declared.synthesis.Outcome.TheVariants.{Structure as Found, Unsatisfiable}

-- a structure over the roles at each of whose start states the formula of each root is true
pub record SatisfiesRoots (a b : RoleParts) (n : NormalParts) (m : Structure) : Type 0 where
  pub over : IsOver a b m
  pub roots : (s : ℕ) → s < start_count a b → All (λ root. Holds m (formula_of n root) s) n.roots

-- a structure that satisfies the roots, or none does
abbrev pub IsSynthesized : RoleParts → RoleParts → NormalParts → Outcome → Type 0
IsSynthesized a b n (Found m) = SatisfiesRoots a b n m
IsSynthesized a b n Unsatisfiable = (m : Structure) → SatisfiesRoots a b n m → ⊥
