-- What is kept of the normal forms, as roles and kinds are declared.
use Rattle.std.proofs.Common.{ℕ, zero, suc, ◌≡◌, ◌<◌, List, [], ◌∷◌, ◌++◌, length, get_or, All, sym, ap, subst, arith, length-append, refl}
use Rattle.std.proofs.lemmas.List.{get_or_append_left}
use Rattle.std.proofs.lemmas.List.Elements.{All-push}
use Rattle.pair_structure.specs.Parts.{role_at}
use Rattle.pair_structure.specs.Role.{RoleParts}
use Rattle.ctl_form.specs.declared.pair_spec.PairSpec.{PairSpec}
use Rattle.ctl_form.specs.NormalParts.{NormalParts}
use Rattle.ctl_form.specs.Numbered.{IsNormalOf}
use Rattle.ctl_text.specs.Normals.{conjuncts_of, AreNormals}
use Rattle.ctl_text.specs.SoundValue.{IsOverRoles}
use Rattle.ctl_text.specs.inside.Pairs.{ArePairs}

pub normals_count : (roles : List RoleParts) (kinds : List PairSpec) (normals : List NormalParts) → AreNormals roles kinds normals → length normals ≡ length kinds
normals_count roles [] [] are = refl
normals_count roles [] (n ∷ normals) are = absurd are
normals_count roles (k ∷ kinds) [] are = absurd are
normals_count roles (k ∷ kinds) (n ∷ normals) are = ap suc (normals_count roles kinds normals are.1)

pub normal_at : (roles : List RoleParts) (kinds : List PairSpec) (normals : List NormalParts) (i : ℕ) (k : PairSpec) (n : NormalParts) → AreNormals roles kinds normals → i < length kinds → IsNormalOf (conjuncts_of roles (get_or kinds i k)) (get_or normals i n)
normal_at roles [] normals i k n are lt = absurd (omega arith)
normal_at roles (j ∷ kinds) [] i k n are lt = absurd are
normal_at roles (j ∷ kinds) (m ∷ normals) zero k n are lt = are.0
normal_at roles (j ∷ kinds) (m ∷ normals) (suc i) k n are lt = normal_at roles kinds normals i k n are.1 (omega arith)

pub none_kept : (roles : List RoleParts) (kinds : List PairSpec) (normals : List NormalParts) → kinds ≡ [] → normals ≡ [] → ArePairs roles kinds normals
none_kept roles kinds normals none empty = rw (none, empty) (record { normals = tt; over = λ k d lt. absurd (omega arith) })

more : (roles : List RoleParts) (kinds : List PairSpec) (normals : List NormalParts) (k : PairSpec) (n : NormalParts) → AreNormals roles kinds normals → IsNormalOf (conjuncts_of roles k) n → AreNormals roles (kinds ++ k ∷ []) (normals ++ n ∷ [])
more roles [] [] k n are one = (one, tt)
more roles [] (m ∷ normals) k n are one = absurd are
more roles (j ∷ kinds) [] k n are one = absurd are
more roles (j ∷ kinds) (m ∷ normals) k n are one = (are.0, more roles kinds normals k n are.1 one)

-- one more kind
pub kind_kept : (roles : List RoleParts) (kinds : List PairSpec) (normals : List NormalParts) (k : PairSpec) (n : NormalParts) → ArePairs roles kinds normals → IsOverRoles (length roles) k → IsNormalOf (conjuncts_of roles k) n → ArePairs roles (kinds ++ k ∷ []) (normals ++ n ∷ [])
kind_kept roles kinds normals k n are over one = record {
  normals = more roles kinds normals k n are.normals one;
  over = All-push (IsOverRoles (length roles)) kinds k are.over over;
}

-- a role that is there is the same where one more is declared
pub same_role : (roles : List RoleParts) (r : RoleParts) (k : ℕ) → k < length roles → role_at roles k ≡ role_at (roles ++ r ∷ []) k
same_role roles r k lt = sym (get_or_append_left roles (r ∷ []) (record { name = []; locals = []; starts = []; arcs = [] }) k lt)

same_conjuncts : (roles : List RoleParts) (r : RoleParts) (k : PairSpec) → IsOverRoles (length roles) k → conjuncts_of roles k ≡ conjuncts_of (roles ++ r ∷ []) k
same_conjuncts roles r k over =
    let a = same_role roles r k.role_a over.role_a in
    let b = same_role roles r k.role_b over.role_b in rw (a, b) refl

wider : (roles : List RoleParts) (r : RoleParts) (kinds : List PairSpec) (normals : List NormalParts) → All (IsOverRoles (length roles)) kinds → AreNormals roles kinds normals → AreNormals (roles ++ r ∷ []) kinds normals
wider roles r [] [] over are = tt
wider roles r [] (m ∷ normals) over are = absurd are
wider roles r (j ∷ kinds) [] over are = absurd are
wider roles r (j ∷ kinds) (m ∷ normals) over are = (
  subst (λ forms. IsNormalOf forms m) (same_conjuncts roles r j (over 0 j (omega arith))) are.0,
  wider roles r kinds normals (λ k d lt. over (suc k) d (omega arith)) are.1,
)

over_more : (roles : List RoleParts) (r : RoleParts) (k : PairSpec) → IsOverRoles (length roles) k → IsOverRoles (length (roles ++ r ∷ [])) k
over_more roles r k over = record {
  role_a = (let lt = over.role_a in omega (arith, length-append roles (r ∷ [])));
  role_b = (let lt = over.role_b in omega (arith, length-append roles (r ∷ [])));
}

-- one more role
pub role_kept : (roles : List RoleParts) (kinds : List PairSpec) (normals : List NormalParts) (r : RoleParts) → ArePairs roles kinds normals → ArePairs (roles ++ r ∷ []) kinds normals
role_kept roles kinds normals r are = record {
  normals = wider roles r kinds normals are.over are.normals;
  over = λ k d lt. over_more roles r (get_or kinds k d) (are.over k d lt);
}
