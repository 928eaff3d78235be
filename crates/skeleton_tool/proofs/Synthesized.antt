-- What synthesis answers of a kind's conjuncts is true of the kind.
use Rattle.std.proofs.Common.{ℕ, ◌≡◌, ◌<◌, ◌↔◌, ◌∙◌, true, List, length, get_or, ap, sym, subst, arith}
use Rattle.std.proofs.lemmas.List.{get_or_default, length-map}
use Rattle.pair_structure.proofs.StartRows.{start_within}
use Rattle.pair_structure.specs.Parts.{role_at}
use Rattle.pair_structure.specs.Role.{RoleParts}
use Rattle.pair_structure.specs.Structure.{Structure, IsOver, start_count}
use Rattle.ctl_form.specs.Form.{Form, truth}
use Rattle.ctl_form.specs.declared.pair_spec.PairSpec.{PairSpec}
use Rattle.ctl_form.specs.Kind.{whole_forms, Satisfies, SatisfiesKind}
use Rattle.ctl_form.specs.Members.{form_at}
use Rattle.ctl_form.specs.Normal.{normal}
use Rattle.ctl_form.specs.NormalParts.{NormalParts, formula_of}
use Rattle.ctl_form.specs.Numbered.{IsNormalOf}
use Rattle.ctl_form.specs.Truth.{Holds}
use Rattle.ctl_text.specs.Normals.{conjuncts_of}
use Rattle.ctl_text.specs.SoundValue.{IsOverRoles}
use Rattle.pair_quotient.specs.Quotient.{KeepsStarts}
use Rattle.unravel.specs.Outcome.{SatisfiesRoots}

-- there is a root for each conjunct
as_many_roots : (conjuncts : List Form) (n : NormalParts) → IsNormalOf conjuncts n → length n.roots ≡ length conjuncts
as_many_roots conjuncts n of = sym (length-map n.roots (formula_of n)) ∙ ap length of.rooted ∙ length-map conjuncts (normal true)

-- a root is true at a start state exactly where its conjunct is
root_means : (conjuncts : List Form) (n : NormalParts) (a b : RoleParts) (m : Structure) (s i : ℕ) → IsNormalOf conjuncts n → IsOver a b m → s < start_count a b → i < length conjuncts
    → Holds m (formula_of n (get_or n.roots i 0)) s ↔ Holds m (form_at conjuncts i) s
root_means conjuncts n a b m s i of over begins lt = of.mean m over.goes_on i s lt (start_within a b m.states s over.starts begins)

roots_satisfy : (a b : RoleParts) (clauses : List Form) (n : NormalParts) (m : Structure) → IsNormalOf (whole_forms a b clauses) n → SatisfiesRoots a b n m → Satisfies a b clauses m
roots_satisfy a b clauses n m of sat = record {
  over = sat.over;
  holds = λ s begins i d lt.
      let within : i < length n.roots = omega (arith, lt, as_many_roots (whole_forms a b clauses) n of) in
      subst (λ f. Holds m f s) (get_or_default (whole_forms a b clauses) i truth d lt) ((root_means (whole_forms a b clauses) n a b m s i of sat.over begins lt).0 (sat.roots s begins i 0 within));
}

satisfies_roots : (a b : RoleParts) (clauses : List Form) (n : NormalParts) (m : Structure) → IsNormalOf (whole_forms a b clauses) n → Satisfies a b clauses m → SatisfiesRoots a b n m
satisfies_roots a b clauses n m of sat = record {
  over = sat.over;
  roots = λ s begins i d lt.
      let within : i < length (whole_forms a b clauses) = omega (arith, lt, as_many_roots (whole_forms a b clauses) n of) in
      subst (λ r. Holds m (formula_of n r) s) (get_or_default n.roots i 0 d lt) ((root_means (whole_forms a b clauses) n a b m s i of sat.over begins within).1 (sat.holds s begins i truth within));
}

-- a structure that begins as another does satisfies the roots that the other does
pub keeps_roots : (a b : RoleParts) (n : NormalParts) (m q : Structure) → SatisfiesRoots a b n m → KeepsStarts a b m q → SatisfiesRoots a b n q
keeps_roots a b n m q sat keeps = record { over = keeps.over; roots = λ s begins i d lt. (keeps.truth s begins (formula_of n (get_or n.roots i d))).0 (sat.roots s begins i d lt) }

none_satisfies : (a b : RoleParts) (clauses : List Form) (n : NormalParts) → IsNormalOf (whole_forms a b clauses) n → ((m : Structure) → SatisfiesRoots a b n m → ⊥) → (m : Structure) → Satisfies a b clauses m → ⊥
none_satisfies a b clauses n of none m sat = none m (satisfies_roots a b clauses n m of sat)

module _ (roles : List RoleParts) (k : PairSpec) (n : NormalParts) (a b : RoleParts) (over : IsOverRoles (length roles) k) (a_is : a ≡ get_or roles k.role_a a) (b_is : b ≡ get_or roles k.role_b b) (of : IsNormalOf (conjuncts_of roles k) n) where
  side_a : a ≡ role_at roles k.role_a
  side_a = a_is ∙ get_or_default roles k.role_a a _ over.role_a

  side_b : b ≡ role_at roles k.role_b
  side_b = b_is ∙ get_or_default roles k.role_b b _ over.role_b

  -- a structure that synthesis gives for the normal form of a kind satisfies the kind
  pub kind_satisfied : (m : Structure) → SatisfiesRoots a b n m → SatisfiesKind roles k m
  kind_satisfied m sat = roots_satisfy (role_at roles k.role_a) (role_at roles k.role_b) k.clauses n m of (subst (λ x. SatisfiesRoots x (role_at roles k.role_b) n m) side_a (subst (λ y. SatisfiesRoots a y n m) side_b sat))

  -- where synthesis finds none, nothing satisfies it
  pub kind_unsatisfied : ((m : Structure) → SatisfiesRoots a b n m → ⊥) → (m : Structure) → SatisfiesKind roles k m → ⊥
  kind_unsatisfied none = none_satisfies (role_at roles k.role_a) (role_at roles k.role_b) k.clauses n of
      (λ m sat. none m (subst (λ x. SatisfiesRoots x b n m) (sym side_a) (subst (λ y. SatisfiesRoots (role_at roles k.role_a) y n m) (sym side_b) sat)))
