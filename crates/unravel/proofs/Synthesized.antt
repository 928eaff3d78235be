-- From what is said of a tableau to what is said of the conjuncts.
use Rattle.std.proofs.Common.{ℕ, ◌≡◌, List, All, arith, subst, sym}
use Rattle.std.proofs.lemmas.List.Elements.{All-contains}
use Rattle.pair_structure.specs.Role.{RoleParts, start_at, starting_at}
use Rattle.pair_structure.specs.Structure.{IsOver, Structure, start_count}
use Rattle.ctl_form.specs.Members.{form_at, forms_of}
use Rattle.ctl_form.specs.NormalParts.{NormalParts}
use Rattle.ctl_form.specs.Truth.{Holds}
use Rattle.ctl_form.specs.declared.part.Part.{Part}
use Rattle.tableau_graph.specs.Rules.{IsTableau}
use Rattle.tableau_graph.specs.TableauParts.{IsWhole, TableauParts}
use Rattle.deletion_rules.specs.Outcome.{IsPruned}
use Rattle.deletion_rules.specs.Pruned.{IsUnsatisfiable, RankParts}
use Rattle.deletion_rules.specs.Satisfying.{Satisfies}
use Rattle.deletion_rules.specs.declared.pruning.Pruned.{Pruned}
use Rattle.deletion_rules.specs.declared.pruning.Pruned.TheVariants.{Alive, Dead}
use Rattle.unravel.specs.Outcome.{IsSynthesized, SatisfiesRoots}
use Rattle.unravel.specs.declared.synthesis.Outcome.{Outcome}

-- what pruning answered
pub alive_is : (t : TableauParts) (p : Pruned) (r : RankParts) → p ≡ Alive r → IsPruned t p → r.tableau ≡ t
alive_is t p r e h = let z = subst (IsPruned t) e h in z.0

pub dead_is : (t : TableauParts) (p : Pruned) → p ≡ Dead → IsPruned t p → IsWhole t → IsUnsatisfiable t
dead_is t p e h = subst (IsPruned t) e h

-- what was answered for copies of the roles with one start each
pub synthesized_here : (a b a' b' : RoleParts) (items : List ℕ) (start k : ℕ) (n : NormalParts) (o o' : Outcome) → a' ≡ starting_at a start → b' ≡ starting_at b (start_at items k) → items ≡ b.starts → o ≡ o' → IsSynthesized a' b' n o
    → IsSynthesized (starting_at a start) (starting_at b (start_at b.starts k)) n o'
synthesized_here a b a' b' items start k n o o' ea eb ei eo h =
    let one : IsSynthesized (starting_at a start) b' n o = subst (λ x. IsSynthesized x b' n o) ea h in
    let two : IsSynthesized (starting_at a start) (starting_at b (start_at items k)) n o = subst (λ x. IsSynthesized (starting_at a start) x n o) eb one in
    subst (IsSynthesized (starting_at a start) (starting_at b (start_at b.starts k)) n) eo (subst (λ x. IsSynthesized (starting_at a start) (starting_at b (start_at x k)) n o) ei two)

-- the roots hold at a state, by their parts
abbrev AreTrue : Structure → List Part → ℕ → List ℕ → Type 0
AreTrue m parts s roots = All (λ root. Holds m (form_at (forms_of parts) root) s) roots

-- the tableau is one of the normal form over the two roles, which have one start state
pub record IsTableauOf (a b : RoleParts) (n : NormalParts) (t : TableauParts) : Type 0 where
  pub role_a : t.a ≡ a
  pub role_b : t.b ≡ b
  pub parts : t.closure.parts ≡ n.parts
  pub roots : t.closure.roots ≡ n.roots
  pub count : start_count a b ≡ 1

module _ (a b : RoleParts) (n : NormalParts) (t : TableauParts) (of : IsTableauOf a b n t) (m : Structure) where
  pub roots_satisfied : Satisfies t.a t.b t.closure m → SatisfiesRoots a b n m
  roots_satisfied s = record {
    over = subst (λ x. IsOver x b m) of.role_a (subst (λ y. IsOver t.a y m) of.role_b s.over);
    roots = λ state lt. (let first : 0 ≡ state = omega (arith, lt, of.count) in subst (λ k. AreTrue m n.parts k n.roots) first true_first);
  }
    where
      true_first : AreTrue m n.parts 0 n.roots
      true_first = subst (AreTrue m n.parts 0) of.roots (subst (λ parts. AreTrue m parts 0 t.closure.roots) of.parts s.roots)

  pub not_satisfied : IsTableau t → IsUnsatisfiable t → SatisfiesRoots a b n m → ⊥
  not_satisfied tab none s = none m
      (subst (λ x. IsOver x t.b m) (sym of.role_a) (subst (λ y. IsOver a y m) (sym of.role_b) s.over))
      (λ i has. All-contains (λ root. Holds m (form_at (forms_of t.closure.parts) root) 0) t.closure.roots i
      (subst (λ parts. AreTrue m parts 0 t.closure.roots) (sym of.parts) (subst (AreTrue m n.parts 0) (sym of.roots) (s.roots 0 (omega (arith, of.count)))))
      ((tab.rules.root.seed i).0 has))
