-- The roles and the kinds so far.
use Rattle.std.specs.Prelude.{List, length, All}
use Rattle.pair_structure.specs.Role.{RoleParts}
use Rattle.ctl_form.specs.declared.pair_spec.PairSpec.{PairSpec}
use Rattle.ctl_form.specs.NormalParts.{NormalParts}
use Rattle.ctl_text.specs.Normals.{AreNormals}
use Rattle.ctl_text.specs.SoundValue.{IsOverRoles}

pub record PairsParts : Type 0 where
  pub roles : List RoleParts
  pub kinds : List PairSpec

-- each kind has its normal form, over roles that are there
pub record ArePairs (roles : List RoleParts) (kinds : List PairSpec) (made : List NormalParts) : Type 0 where
  pub normals : AreNormals roles kinds made
  pub over : All (IsOverRoles (length roles)) kinds
