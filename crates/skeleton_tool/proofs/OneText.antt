-- What is told of kinds and of a solution is one text.
use Rattle.std.proofs.Common.{ℕ, ◌≡◌, ◌<◌, ◌∙◌, List, [], ◌∷◌, ◌++◌, sym, ap, refl, codes}
use Rattle.pair_structure.specs.Role.{RoleParts}
use Rattle.pair_structure.specs.Structure.{Structure}
use Rattle.skeleton_extract.specs.Commands.{Lists}
use Rattle.ctl_form.specs.declared.pair_spec.PairSpec.{PairSpec}
use Rattle.ctl_form.specs.Kind.{role_at, Solves}
use Rattle.ctl_text.specs.Value.{SpecParts, kind_at}
use Rattle.solution_text.specs.Failing.{IsFirstFailing, structure_at}
use Rattle.skeleton_tool.specs.Answer.{IsFirstUnsatisfiable, IsUnsolvable}
use Rattle.skeleton_tool.specs.Failing.{NamesFailing}
use Rattle.skeleton_tool.specs.Skel.{AreSkeletons, ShowsSkeletons, skeletons_text}
use Rattle.skeleton_tool.proofs.OneRefusal.{same_if_neither}
use Rattle.skeleton_tool.proofs.OneSystem.{same_skeleton}
use Rattle.skeleton_tool.proofs.Solved.{satisfied_at}

-- where some kind has no structure, nothing solves
pub never_solved : (roles : List RoleParts) (kinds : List PairSpec) (structures : List Structure) (kind : ℕ) → Solves roles kinds structures → IsFirstUnsatisfiable roles kinds kind → ⊥
never_solved roles kinds structures kind solves first = first.none (structure_at structures kind) (satisfied_at roles kinds structures kind solves first.within)

unsolvable_before : (roles : List RoleParts) (kinds : List PairSpec) (kind other : ℕ) → IsFirstUnsatisfiable roles kinds kind → IsFirstUnsatisfiable roles kinds other → kind < other → ⊥
unsolvable_before roles kinds kind other a b lt = let earlier = b.before kind lt in a.none earlier.0 earlier.1

pub unsolvable_once : (roles : List RoleParts) (kinds : List PairSpec) (text written : List ℕ) → IsUnsolvable roles kinds text → IsUnsolvable roles kinds written → text ≡ written
unsolvable_once roles kinds text written a b =
    let same : a.kind ≡ b.kind = same_if_neither a.kind b.kind (unsolvable_before roles kinds a.kind b.kind a.first b.first) (unsolvable_before roles kinds b.kind a.kind b.first a.first) in
    a.text_is ∙ ap (λ kind. codes "unsatisfiable " ++ (kind_at kinds kind).name ++ codes "\n") same ∙ sym b.text_is

fails_before : (v : SpecParts) (structures : List Structure) (kind other : ℕ) → IsFirstFailing v.roles v.kinds structures kind → IsFirstFailing v.roles v.kinds structures other → kind < other → ⊥
fails_before v structures kind other a b lt = a.fails (b.before kind lt)

pub failing_once : (v : SpecParts) (structures : List Structure) (text written : List ℕ) → NamesFailing v structures text → NamesFailing v structures written → text ≡ written
failing_once v structures text written (kind, a, is) (other, b, also) =
    let same : kind ≡ other = same_if_neither kind other (fails_before v structures kind other a b) (fails_before v structures other kind b a) in
    is ∙ ap (λ k. codes "fails " ++ (kind_at v.kinds k).name ++ codes "\n") same ∙ sym also

skeletons_once : (roles : List RoleParts) (kinds : List PairSpec) (structures : List Structure) (lists more : List Lists) → AreSkeletons roles kinds structures lists → AreSkeletons roles kinds structures more → lists ≡ more
skeletons_once roles [] [] [] [] a b = refl
skeletons_once roles [] [] [] (m ∷ more) a b = absurd b
skeletons_once roles [] [] (l ∷ lists) more a b = absurd a
skeletons_once roles [] (s ∷ structures) lists more a b = absurd a
skeletons_once roles (kind ∷ kinds) [] lists more a b = absurd a
skeletons_once roles (kind ∷ kinds) (s ∷ structures) [] more a b = absurd a
skeletons_once roles (kind ∷ kinds) (s ∷ structures) (l ∷ lists) [] a b = absurd b
skeletons_once roles (kind ∷ kinds) (s ∷ structures) (l ∷ lists) (m ∷ more) a b =
    let first : l ≡ m = same_skeleton (role_at roles kind.role_a) (role_at roles kind.role_b) s l m a.0 b.0 in
    let later : lists ≡ more = skeletons_once roles kinds structures lists more a.1 b.1 in
    rw (first, later) refl

pub shown_once : (v : SpecParts) (structures : List Structure) (text written : List ℕ) → ShowsSkeletons v structures text → ShowsSkeletons v structures written → text ≡ written
shown_once v structures text written a b = a.text_is ∙ ap (skeletons_text v.roles v.kinds) (skeletons_once v.roles v.kinds structures a.lists b.lists a.commands b.commands) ∙ sym b.text_is
