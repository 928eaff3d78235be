-- How skeletons are written: kind by kind, each with the commands of its structure.
use Rattle.std.specs.Prelude.{ℕ, ◌≡◌, List, ◌++◌}
use Rattle.pair_structure.specs.Role.{RoleParts}
use Rattle.pair_structure.specs.Structure.{Structure}
use Rattle.skeleton_extract.specs.Commands.{Lists, IsSkeleton}
use Rattle.ctl_form.specs.declared.pair_spec.PairSpec.{PairSpec}
use Rattle.ctl_form.specs.Kind.{role_at}
use Rattle.skeleton_tool.specs.Skel.{AreSkeletons, kind_skeleton, kind_skeletons}

-- the text of the commands of one kind's structure was appended
pub record ShowsKind (roles : List RoleParts) (kind : PairSpec) (m : Structure) (old new : List ℕ) : Type 0 where
  pub lists : Lists
  pub commands : IsSkeleton (role_at roles kind.role_a) (role_at roles kind.role_b) m lists
  pub appended : new ≡ old ++ kind_skeleton roles kind lists

-- the text of the commands of each kind's structure was appended
pub record ShowsKinds (roles : List RoleParts) (kinds : List PairSpec) (structures : List Structure) (old new : List ℕ) : Type 0 where
  pub lists : List Lists
  pub commands : AreSkeletons roles kinds structures lists
  pub appended : new ≡ old ++ kind_skeletons roles kinds lists
