-- The root alone follows the rules.
use Rattle.std.proofs.Common.{ℕ, ◌≡◌, ◌<◌, ◌+◌, ◌++◌, ◌↔◌, inl, inr, false, true, List, [], ◌∷◌, length, take, subst, sym, ◌∙◌, ap, arith, slice_get, slice_index_or, Contains}
use Rattle.std.proofs.lemmas.List.{take_more}
use Rattle.std.proofs.lemmas.List.Elements.{Contains-push, Contains-push_cases, Contains-append_left}
use Rattle.std.proofs.lemmas.Option.{none-some, slice_get_within}
use Rattle.pair_structure.specs.Role.{IsRole, HasOneStart}
use Rattle.closure_sets.specs.ClosureParts.{IsClosureParts}
use Rattle.closure_sets.specs.Expansion.{no_members}
use Rattle.closure_sets.specs.Full.{Has}
use Rattle.closure_sets.specs.Row.{Members, add}
use Rattle.closure_sets.proofs.Sets.{add_keeps, add_same, add_back}
use Rattle.tableau_graph.specs.NodeTable.{IsNumber}
use Rattle.tableau_graph.specs.Rules.{IsRoot, AreApart, FollowsRules}
use Rattle.tableau_graph.specs.TableauParts.{TableauParts, or_at}
use Rattle.tableau_graph.specs.declared.nodes.OrNode.{OrNode}

-- the set has the members of the list, and no others
abbrev pub IsSetOf : List ℕ → Members → Type 0
IsSetOf members set = (j : ℕ) → Has set j ↔ Contains members j

pub set_of_none : (set : Members) → set ≡ no_members → IsSetOf [] set
set_of_none set e j = ((λ h. absurd (let f : false ≡ true = subst (λ (m : Members). m j ≡ true) e h in cc)), (λ k. absurd (let lt : k.0 < 0 = k.1 in omega (arith, lt))))

-- the set of the first members of a list, and of one more
pub set_of_step : (members : List ℕ) (i m d : ℕ) (before after : Members) → i < length members → m ≡ slice_index_or members i d → IsSetOf (take i members) before → after ≡ add before m → IsSetOf (take (i + 1) members) after
set_of_step members i m d before after lt at is e = subst (λ (l : List ℕ). IsSetOf l after) (sym more) (subst (IsSetOf (take i members ++ m ∷ [])) (sym e) pushed)
  where
    more : take (i + 1) members ≡ take i members ++ m ∷ []
    more = take_more members i d lt ∙ ap (λ (z : ℕ). take i members ++ z ∷ []) (sym at)

    pushed : IsSetOf (take i members ++ m ∷ []) (add before m)
    pushed j = (
      (λ h. elim (add_back before m j h) [ inl new ↦ subst (Contains (take i members ++ m ∷ [])) (sym new) (Contains-push (take i members) m) | inr old ↦ Contains-append_left (take i members) (m ∷ []) j ((is j).0 old) ]),
      (λ k. elim (Contains-push_cases (take i members) m j k) [ inl old ↦ add_keeps before m j ((is j).1 old) | inr new ↦ subst (λ (z : ℕ). add before m z ≡ true) new (add_same before m) ]),
    )

one_apart : {N : Type 0} (x : N) → AreApart (x ∷ [])
one_apart x n k node e f = let lt : n < 1 = slice_get_within (x ∷ []) n node e in let lt' : k < 1 = slice_get_within (x ∷ []) k node f in omega (arith, lt, lt')

none_apart : {N : Type 0} → AreApart {N = N} []
none_apart n k node e f = let lt : n < 0 = slice_get_within [] n node e in absurd (omega (arith, lt))

pub root_follows : (t : TableauParts) → IsClosureParts t.closure → IsRole t.a → IsRole t.b → HasOneStart t.a → HasOneStart t.b → t.ands ≡ [] → t.children ≡ [] → t.successors ≡ [] → (root : OrNode) → t.ors ≡ root ∷ [] → IsRoot t root → FollowsRules t
root_follows t closure role_a role_b one_a one_b no_ands no_children no_successors root only is = record {
  closure = closure;
  role_a = role_a;
  role_b = role_b;
  one_a = one_a;
  one_b = one_b;
  some = omega (arith, one);
  root = subst (λ (l : List OrNode). IsRoot t (or_at l 0)) (sym only) is;
  ands_apart = subst AreApart (sym no_ands) none_apart;
  ors_apart = subst AreApart (sym only) (one_apart root);
  listed_ors = omega (arith, none_or);
  listed_ands = omega (arith, none_and);
  children = λ o lt. absurd (omega (arith, lt, none_or));
  successors = λ n lt. absurd (omega (arith, lt, none_and));
  ands_reached = λ n lt. absurd (omega (arith, lt, none));
  ors_reached = λ o lt. (0, let at : o ≡ 0 = omega (arith, lt, one) in at);
}
  where
    one : length t.ors ≡ 1
    one = ap length only

    none : length t.ands ≡ 0
    none = ap length no_ands

    none_or : length t.children ≡ 0
    none_or = ap length no_children

    none_and : length t.successors ≡ 0
    none_and = ap length no_successors

-- the one node that has a number
pub one_numbered : (before : List OrNode) (root : OrNode) (after : List OrNode) (n : ℕ) → before ≡ [] → IsNumber before root after n → after ≡ root ∷ []
one_numbered before root after n none is = elim is.grown [
  | inl same ↦ absurd (none-some root (sym (ap (λ (l : List OrNode). slice_get l n) (same ∙ none)) ∙ is.at))
  | inr more ↦ more.1 ∙ ap (λ (l : List OrNode). l ++ root ∷ []) none
]
