-- What `skel` answers to a solution: for each kind the commands of its structure's moves, as a text.
use Rattle.std.specs.Prelude.{ℕ, ◌≡◌, List, [], ◌∷◌, ◌++◌, codes}
use Rattle.pair_structure.specs.Role.{RoleParts}
use Rattle.pair_structure.specs.Structure.{Structure}
use Rattle.skeleton_extract.specs.Commands.{Lists, IsSkeleton}
use Rattle.skeleton_extract.specs.SkeletonText.{skeleton_text}
use Rattle.ctl_form.specs.declared.pair_spec.PairSpec.{PairSpec}
use Rattle.ctl_form.specs.Kind.{role_at, Solves}
use Rattle.ctl_text.specs.Value.{SpecParts}
use Rattle.skeleton_tool.specs.declared.status.Status.{Status}
use Rattle.skeleton_tool.specs.declared.status.Status.TheVariants.{Done, Fails}
use Rattle.skeleton_tool.specs.Failing.{NamesFailing}

-- the commands of each kind's structure, in the order of the kinds
abbrev pub AreSkeletons : List RoleParts → List PairSpec → List Structure → List Lists → Type 0
AreSkeletons roles [] [] [] = Unit {0}
AreSkeletons roles (kind ∷ kinds) (m ∷ structures) (lists ∷ more) = IsSkeleton (role_at roles kind.role_a) (role_at roles kind.role_b) m lists × AreSkeletons roles kinds structures more
AreSkeletons roles kinds structures lists = ⊥

-- the text of a kind's commands
abbrev pub kind_skeleton : List RoleParts → PairSpec → Lists → List ℕ
kind_skeleton roles kind lists = skeleton_text kind.name (role_at roles kind.role_a) (role_at roles kind.role_b) lists

abbrev pub kind_skeletons : List RoleParts → List PairSpec → List Lists → List ℕ
kind_skeletons roles [] lists = []
kind_skeletons roles (kind ∷ kinds) [] = []
kind_skeletons roles (kind ∷ kinds) (lists ∷ more) = kind_skeleton roles kind lists ++ kind_skeletons roles kinds more

-- the head, the text of each kind, and `done`
abbrev pub skeletons_text : List RoleParts → List PairSpec → List Lists → List ℕ
skeletons_text roles kinds lists = codes "skeleton 1\n" ++ (kind_skeletons roles kinds lists ++ codes "done\n")

-- the text of the commands of these structures
pub record ShowsSkeletons (v : SpecParts) (structures : List Structure) (text : List ℕ) : Type 0 where
  pub lists : List Lists
  pub commands : AreSkeletons v.roles v.kinds structures lists
  pub text_is : text ≡ skeletons_text v.roles v.kinds lists

-- the structures solve, and their commands are shown; or the first kind that fails is named
abbrev pub Skels : SpecParts → List Structure → Status → List ℕ → Type 0
Skels v structures Done text = Solves v.roles v.kinds structures × ShowsSkeletons v structures text
Skels v structures Fails text = NamesFailing v structures text
Skels v structures status text = ⊥
