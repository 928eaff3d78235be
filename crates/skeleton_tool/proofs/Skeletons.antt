-- The skeletons of kinds, one more at a time.
use Rattle.std.proofs.Common.{ℕ, ◌≡◌, ◌<◌, ◌≤◌, ◌+◌, List, [], ◌∷◌, ◌++◌, length, get_or, take, refl, sym, ap, ◌∙◌, arith, append_assoc, append-nil}
use Rattle.std.proofs.lemmas.List.{get_or_default, take_more, take_all}
use Rattle.pair_structure.specs.Role.{RoleParts}
use Rattle.pair_structure.specs.Structure.{Structure, IsOver}
use Rattle.skeleton_extract.specs.Commands.{Lists, IsSkeleton}
use Rattle.ctl_form.specs.declared.pair_spec.PairSpec.{PairSpec}
use Rattle.ctl_form.specs.Kind.{role_at}
use Rattle.solution_text.specs.SolutionText.{AreOver}
use Rattle.solution_text.proofs.Satisfied.{over_count}
use Rattle.skeleton_tool.specs.inside.Showing.{ShowsKind, ShowsKinds}
use Rattle.skeleton_tool.specs.Skel.{AreSkeletons, kind_skeleton, kind_skeletons}

-- a kind joins those before it
skeletons_append : (roles : List RoleParts) (kinds : List PairSpec) (structures : List Structure) (lists : List Lists) (kind : PairSpec) (m : Structure) (l : Lists)
    → AreSkeletons roles kinds structures lists → IsSkeleton (role_at roles kind.role_a) (role_at roles kind.role_b) m l → AreSkeletons roles (kinds ++ kind ∷ []) (structures ++ m ∷ []) (lists ++ l ∷ [])
skeletons_append roles [] [] [] kind m l are is = (is, tt)
skeletons_append roles [] [] (l0 ∷ lists) kind m l are is = absurd are
skeletons_append roles [] (m0 ∷ structures) lists kind m l are is = absurd are
skeletons_append roles (k0 ∷ kinds) [] lists kind m l are is = absurd are
skeletons_append roles (k0 ∷ kinds) (m0 ∷ structures) [] kind m l are is = absurd are
skeletons_append roles (k0 ∷ kinds) (m0 ∷ structures) (l0 ∷ lists) kind m l are is = (are.0, skeletons_append roles kinds structures lists kind m l are.1 is)

text_append : (roles : List RoleParts) (kinds : List PairSpec) (structures : List Structure) (lists : List Lists) (kind : PairSpec) (l : Lists)
    → AreSkeletons roles kinds structures lists → kind_skeletons roles (kinds ++ kind ∷ []) (lists ++ l ∷ []) ≡ kind_skeletons roles kinds lists ++ kind_skeleton roles kind l
text_append roles [] [] [] kind l are = append-nil (kind_skeleton roles kind l)
text_append roles [] [] (l0 ∷ lists) kind l are = absurd are
text_append roles [] (m0 ∷ structures) lists kind l are = absurd are
text_append roles (k0 ∷ kinds) [] lists kind l are = absurd are
text_append roles (k0 ∷ kinds) (m0 ∷ structures) [] kind l are = absurd are
text_append roles (k0 ∷ kinds) (m0 ∷ structures) (l0 ∷ lists) kind l are =
    ap (λ text. kind_skeleton roles k0 l0 ++ text) (text_append roles kinds structures lists kind l are.1)
    ∙ sym (append_assoc (kind_skeleton roles k0 l0) (kind_skeletons roles kinds lists) (kind_skeleton roles kind l))

shows_append : (roles : List RoleParts) (kinds : List PairSpec) (structures : List Structure) (kind : PairSpec) (m : Structure) (old now new : List ℕ)
    → ShowsKinds roles kinds structures old now → ShowsKind roles kind m now new → ShowsKinds roles (kinds ++ kind ∷ []) (structures ++ m ∷ []) old new
shows_append roles kinds structures kind m old now new before here = record {
  lists = before.lists ++ here.lists ∷ [];
  commands = skeletons_append roles kinds structures before.lists kind m here.lists before.commands here.commands;
  appended =
      here.appended
      ∙ ap (λ text. text ++ kind_skeleton roles kind here.lists) before.appended
      ∙ append_assoc old (kind_skeletons roles kinds before.lists) (kind_skeleton roles kind here.lists)
      ∙ ap (λ text. old ++ text) (sym (text_append roles kinds structures before.lists kind here.lists before.commands));
}

pub shows_more : (roles : List RoleParts) (kinds : List PairSpec) (structures : List Structure) (n : ℕ) (kind : PairSpec) (m : Structure) (old now new : List ℕ)
    → AreOver roles kinds structures → n < length kinds → kind ≡ get_or kinds n kind → m ≡ get_or structures n m
    → ShowsKinds roles (take n kinds) (take n structures) old now → ShowsKind roles kind m now new → ShowsKinds roles (take (n + 1) kinds) (take (n + 1) structures) old new
shows_more roles kinds structures n kind m old now new over lt k_is m_is before here =
    let count = over_count roles kinds structures over in
    let within : n < length structures = omega arith in
    rw (take_more kinds n kind lt, take_more structures n m within, sym k_is, sym m_is) (shows_append roles (take n kinds) (take n structures) kind m old now new before here)

-- past the last kind all are shown
pub shows_all : (roles : List RoleParts) (kinds : List PairSpec) (structures : List Structure) (n : ℕ) (old new : List ℕ) → AreOver roles kinds structures → length kinds ≤ n → ShowsKinds roles (take n kinds) (take n structures) old new → ShowsKinds roles kinds structures old new
shows_all roles kinds structures n old new over le shows =
    let count = over_count roles kinds structures over in
    let within : length structures ≤ n = omega arith in
    rw (take_all n kinds le, take_all n structures within) at shows
