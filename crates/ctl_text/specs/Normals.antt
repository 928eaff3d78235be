-- The normal forms that a specification keeps, one of each kind.
use Rattle.std.specs.Prelude.{List, [], ◌∷◌}
use Rattle.pair_structure.specs.Parts.{role_at}
use Rattle.pair_structure.specs.Role.{RoleParts}
use Rattle.ctl_form.specs.declared.pair_spec.PairSpec.{PairSpec}
use Rattle.ctl_form.specs.Form.{Form}
use Rattle.ctl_form.specs.Kind.{whole_forms}
use Rattle.ctl_form.specs.NormalParts.{NormalParts}
use Rattle.ctl_form.specs.Numbered.{IsNormalOf}

-- the conjuncts of a kind: its clauses, and what the free arcs of its roles ask
abbrev pub conjuncts_of : List RoleParts → PairSpec → List Form
conjuncts_of roles k = whole_forms (role_at roles k.role_a) (role_at roles k.role_b) k.clauses

-- one for each kind: the normal form of its conjuncts
abbrev pub AreNormals : List RoleParts → List PairSpec → List NormalParts → Type 0
AreNormals roles [] [] = Unit {0}
AreNormals roles [] (n ∷ normals) = ⊥
AreNormals roles (k ∷ kinds) [] = ⊥
AreNormals roles (k ∷ kinds) (n ∷ normals) = IsNormalOf (conjuncts_of roles k) n × AreNormals roles kinds normals
