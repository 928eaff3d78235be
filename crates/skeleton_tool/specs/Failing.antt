-- What is answered where a solution does not solve.
use Rattle.std.specs.Prelude.{ℕ, ◌≡◌, List, ◌++◌, codes}
use Rattle.pair_structure.specs.Structure.{Structure}
use Rattle.ctl_text.specs.Value.{SpecParts, kind_at}
use Rattle.solution_text.specs.Failing.{IsFirstFailing}

-- the first kind that its structure does not satisfy, by name
abbrev pub NamesFailing : SpecParts → List Structure → List ℕ → Type 0
NamesFailing v structures text = (kind : ℕ) × IsFirstFailing v.roles v.kinds structures kind × (text ≡ codes "fails " ++ (kind_at v.kinds kind).name ++ codes "\n")
