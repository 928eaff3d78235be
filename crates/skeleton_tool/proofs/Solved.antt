-- One more kind is solved, or is the first that cannot be.
use Rattle.std.proofs.Common.{ℕ, ◌≡◌, ◌<◌, ◌+◌, zero, suc, List, [], ◌∷◌, ◌++◌, length, get_or, take, ap, ◌∙◌, sym, subst, arith}
use Rattle.std.proofs.lemmas.List.{take_more, get_or_default, get_or-take, length-take-le}
use Rattle.pair_structure.specs.Role.{RoleParts}
use Rattle.pair_structure.specs.Structure.{Structure}
use Rattle.ctl_form.specs.declared.pair_spec.PairSpec.{PairSpec}
use Rattle.ctl_form.specs.Kind.{SatisfiesKind, Solves}
use Rattle.ctl_text.specs.Value.{kind_at}
use Rattle.skeleton_tool.specs.Answer.{IsFirstUnsatisfiable}
use Rattle.solution_text.specs.Failing.{IsFirstFailing, structure_at}
use Rattle.solution_text.specs.SolutionText.{AreOver}

solves_more : (roles : List RoleParts) (ks : List PairSpec) (ms : List Structure) (k : PairSpec) (m : Structure) → Solves roles ks ms → SatisfiesKind roles k m → Solves roles (ks ++ k ∷ []) (ms ++ m ∷ [])
solves_more roles [] [] k m s sat = (sat, tt)
solves_more roles [] (n ∷ ms) k m s sat = absurd s
solves_more roles (j ∷ ks) [] k m s sat = absurd s
solves_more roles (j ∷ ks) (n ∷ ms) k m s sat = (s.0, solves_more roles ks ms k m s.1 sat)

pub solved_step : (roles : List RoleParts) (kinds : List PairSpec) (i : ℕ) (kind : PairSpec) (ms : List Structure) (m : Structure) → i < length kinds → kind ≡ get_or kinds i kind → Solves roles (take i kinds) ms → SatisfiesKind roles kind m → Solves roles (take (i + 1) kinds) (ms ++ m ∷ [])
solved_step roles kinds i kind ms m lt is solved one =
    let grown : take i kinds ++ kind ∷ [] ≡ take (i + 1) kinds = ap (λ k. take i kinds ++ k ∷ []) is ∙ sym (take_more kinds i kind lt) in
    subst (λ ks. Solves roles ks (ms ++ m ∷ [])) grown (solves_more roles (take i kinds) ms kind m solved one)

-- what solves has structures over the roles of their kinds
pub solved_over : (roles : List RoleParts) (kinds : List PairSpec) (ms : List Structure) → Solves roles kinds ms → AreOver roles kinds ms
solved_over roles [] [] s = tt
solved_over roles [] (m ∷ ms) s = absurd s
solved_over roles (k ∷ ks) [] s = absurd s
solved_over roles (k ∷ ks) (m ∷ ms) s = (s.0.over, solved_over roles ks ms s.1)

-- each of the solved kinds has a structure
has_structure : (roles : List RoleParts) (ks : List PairSpec) (ms : List Structure) (i : ℕ) (d : PairSpec) → Solves roles ks ms → i < length ks → (m : Structure) × SatisfiesKind roles (get_or ks i d) m
has_structure roles [] ms i d s lt = absurd (omega (arith, lt))
has_structure roles (k ∷ ks) [] i d s lt = absurd s
has_structure roles (k ∷ ks) (m ∷ ms) zero d s lt = (m, s.0)
has_structure roles (k ∷ ks) (m ∷ ms) (suc i) d s lt = has_structure roles ks ms i d s.1 (omega (arith, lt))

pub first_unsatisfiable : (roles : List RoleParts) (kinds : List PairSpec) (i : ℕ) (kind : PairSpec) (ms : List Structure) → i < length kinds → kind ≡ get_or kinds i kind → Solves roles (take i kinds) ms → ((m : Structure) → SatisfiesKind roles kind m → ⊥) → IsFirstUnsatisfiable roles kinds i
first_unsatisfiable roles kinds i kind ms lt is solves none = record {
  within = lt;
  none = λ m sat. none m (subst (λ k. SatisfiesKind roles k m) (sym (is ∙ get_or_default kinds i kind _ lt)) sat);
  before = λ j below. earlier j below;
}
  where
    earlier : (j : ℕ) → j < i → (m : Structure) × SatisfiesKind roles (kind_at kinds j) m
    earlier j below = let within : j < length (take i kinds) = rw (length-take-le i kinds (omega (arith, lt))) below in
        let u = has_structure roles (take i kinds) ms j (record { name = []; role_a = 0; role_b = 0; clauses = [] }) solves within in
        (u.0, subst (λ k. SatisfiesKind roles k u.0) (get_or-take i kinds j (record { name = []; role_a = 0; role_b = 0; clauses = [] }) below) u.1)

pub satisfied_at : (roles : List RoleParts) (kinds : List PairSpec) (structures : List Structure) (i : ℕ) → Solves roles kinds structures → i < length kinds → SatisfiesKind roles (kind_at kinds i) (structure_at structures i)
satisfied_at roles [] structures i s lt = absurd (omega (arith, lt))
satisfied_at roles (k ∷ kinds) [] i s lt = absurd s
satisfied_at roles (k ∷ kinds) (m ∷ structures) zero s lt = s.0
satisfied_at roles (k ∷ kinds) (m ∷ structures) (suc i) s lt = satisfied_at roles kinds structures i s.1 (omega (arith, lt))

-- of what solves, no kind fails
pub never_fails : (roles : List RoleParts) (kinds : List PairSpec) (structures : List Structure) (kind : ℕ) → Solves roles kinds structures → IsFirstFailing roles kinds structures kind → ⊥
never_fails roles kinds structures kind solves first = first.fails (satisfied_at roles kinds structures kind solves first.within)
