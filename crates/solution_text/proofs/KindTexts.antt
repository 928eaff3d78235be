-- The text of kinds, one more at a time.
use Rattle.std.proofs.Common.{ℕ, zero, suc, ◌≡◌, ◌<◌, ◌+◌, List, [], ◌∷◌, ◌++◌, length, take, refl, sym, ap, ◌∙◌, arith, append_assoc, append-nil, add-one, All, get_or, subst}
use Rattle.pair_structure.specs.Role.{RoleParts}
use Rattle.pair_structure.specs.Structure.{Structure}
use Rattle.ctl_form.specs.declared.pair_spec.PairSpec.{PairSpec}
use Rattle.ctl_form.specs.Kind.{role_at}
use Rattle.ctl_text.specs.Value.{kind_at}
use Rattle.std.proofs.lemmas.List.{get_or_default, take_more}
use Rattle.std.proofs.lemmas.List.Elements.{All-push}
use Rattle.solution_text.specs.Answers.{HasRoles}
use Rattle.solution_text.specs.Failing.{structure_at}
use Rattle.solution_text.specs.Laws.{IsNumbered}
use Rattle.solution_text.specs.SolutionText.{kind_text, kinds_text}
use Rattle.solution_text.proofs.Satisfied.{kind_is, structure_is}

-- the text of kind n
abbrev pub nth_text : List RoleParts → List PairSpec → List Structure → ℕ → List ℕ
nth_text roles kinds structures n = kind_text (kind_at kinds n).name (role_at roles (kind_at kinds n).role_a) (role_at roles (kind_at kinds n).role_b) (structure_at structures n)

more_kinds : (roles : List RoleParts) (kinds : List PairSpec) (structures : List Structure) (n : ℕ) → n < length kinds → n < length structures → kinds_text roles (take (suc n) kinds) (take (suc n) structures) ≡ kinds_text roles (take n kinds) (take n structures) ++ nth_text roles kinds structures n
more_kinds roles [] structures n lt le = absurd (omega arith)
more_kinds roles (kind ∷ kinds) [] n lt le = absurd (omega arith)
more_kinds roles (kind ∷ kinds) (m ∷ structures) zero lt le = append-nil (kind_text kind.name (role_at roles kind.role_a) (role_at roles kind.role_b) m)
more_kinds roles (kind ∷ kinds) (m ∷ structures) (suc n) lt le =
    ap (λ text. kind_text kind.name (role_at roles kind.role_a) (role_at roles kind.role_b) m ++ text) (more_kinds roles kinds structures n (omega arith) (omega arith))
    ∙ sym (append_assoc (kind_text kind.name (role_at roles kind.role_a) (role_at roles kind.role_b) m) (kinds_text roles (take n kinds) (take n structures)) (nth_text roles kinds structures n))

kinds_push : (roles : List RoleParts) (kinds : List PairSpec) (structures : List Structure) (n : ℕ) (old now : List ℕ) → n < length kinds → n < length structures → now ≡ old ++ kinds_text roles (take n kinds) (take n structures) → now ++ nth_text roles kinds structures n ≡ old ++ kinds_text roles (take (n + 1) kinds) (take (n + 1) structures)
kinds_push roles kinds structures n old now lt le e = rw (add-one, e) (append_assoc old (kinds_text roles (take n kinds) (take n structures)) (nth_text roles kinds structures n) ∙ ap (λ text. old ++ text) (sym (more_kinds roles kinds structures n lt le)))

role_is : (roles : List RoleParts) (n : ℕ) (r : RoleParts) → n < length roles → r ≡ get_or roles n r → r ≡ role_at roles n
role_is roles n r lt is = is ∙ get_or_default roles n r _ lt

nth_is : (roles : List RoleParts) (kinds : List PairSpec) (structures : List Structure) (n : ℕ) (kind : PairSpec) (a b : RoleParts) (m : Structure) → kind ≡ kind_at kinds n → a ≡ role_at roles kind.role_a → b ≡ role_at roles kind.role_b → m ≡ structure_at structures n → kind_text kind.name a b m ≡ nth_text roles kinds structures n
nth_is roles kinds structures n kind a b m k p q s = rw (p, q, s, k) refl

-- the text of one more kind was added
pub kind_added : (roles : List RoleParts) (kinds : List PairSpec) (structures : List Structure) (n : ℕ) (kind : PairSpec) (a b : RoleParts) (m : Structure) (old now new : List ℕ) → All (HasRoles (length roles)) kinds → n < length structures → length structures ≡ length kinds
    → kind ≡ get_or kinds n kind → a ≡ get_or roles kind.role_a a → b ≡ get_or roles kind.role_b b → m ≡ get_or structures n m
    → now ≡ old ++ kinds_text roles (take n kinds) (take n structures) → new ≡ now ++ kind_text kind.name a b m → new ≡ old ++ kinds_text roles (take (n + 1) kinds) (take (n + 1) structures)
kind_added roles kinds structures n kind a b m old now new has lt count k p q s e w =
    let in_kinds : n < length kinds = omega arith in
    let r : HasRoles (length roles) kind = rw (sym k) at (has n kind in_kinds) in
    w ∙ ap (λ text. now ++ text) (nth_is roles kinds structures n kind a b m (kind_is kinds n kind in_kinds k) (role_is roles kind.role_a a r.a p) (role_is roles kind.role_b b r.b q) (structure_is structures n m lt s)) ∙ kinds_push roles kinds structures n old now in_kinds lt e

-- and its states have numbers too
pub numbered_more : (structures : List Structure) (n : ℕ) (m : Structure) → n < length structures → m ≡ get_or structures n m → All IsNumbered (take n structures) → IsNumbered m → All IsNumbered (take (n + 1) structures)
numbered_more structures n m lt is each here =
    subst (All IsNumbered) (ap (λ x. take n structures ++ x ∷ []) is ∙ sym (take_more structures n m lt)) (All-push IsNumbered (take n structures) m each here)
