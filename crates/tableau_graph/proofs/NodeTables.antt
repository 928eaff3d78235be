-- What the table of nodes keeps where a node is added, and what it says of the numbers of several nodes.
use Rattle.std.proofs.Common.{ℕ, ◌≡◌, ◌⊎◌, ◌<◌, ◌≤◌, ◌+◌, ◌++◌, inl, inr, Bool, true, false, cond, Option, Some, List, [], ◌∷◌, length, length-append, take, refl, subst, sym, ◌∙◌, ap, arith, slice_get, slice_index_or, Contains}
use Rattle.std.specs.BTreeMap.{BTreeMap, get, is_at}
use Rattle.std.specs.declared.cmp.Ordering.{Ordering}
use Rattle.std.proofs.lemmas.List.{take_more}
use Rattle.std.proofs.lemmas.Map.Lookups.{CmpEqualImpliesEq}
use Rattle.std.proofs.lemmas.Map.Views.{tells_apart}
use Rattle.std.proofs.lemmas.Bool.{cases_lt}
use Rattle.std.proofs.lemmas.List.Elements.{Contains-push, Contains-append_left}
use Rattle.std.proofs.lemmas.Option.{same_Some, slice_get_within}
use Rattle.tableau_graph.specs.NodeTable.{IsTable, IsNumber, AreNumbers}
use Rattle.tableau_graph.specs.Rules.{AreApart}
use Rattle.tableau_graph.proofs.Places.{kept_before, stands_last, before_or_last}

pub table_apart : {N : Type 0} (cmp : N → N → Ordering) (nodes : List N) (numbers : BTreeMap N ℕ) → IsTable cmp nodes numbers → AreApart nodes
table_apart cmp nodes numbers t n k node e f = same_Some n k (sym (t.found node n e) ∙ t.found node k f)

abbrev pub IsNew : {N : Type 0} → List N → N → Type 0
IsNew {N} nodes node = (n : ℕ) → slice_get nodes n ≡ Some node → ⊥

-- a look-up that answers n where it hits, and as before elsewhere
hit_or_before : (hit : Bool) (n k : ℕ) (before : Option ℕ) → cond hit (Some n) before ≡ Some k → ((hit ≡ true) × (n ≡ k)) ⊎ (before ≡ Some k)
hit_or_before true n k before e = inl (refl, same_Some n k e)
hit_or_before false n k before e = inr e

missed : (hit : Bool) (n : ℕ) (before : Option ℕ) → (hit ≡ true → ⊥) → cond hit (Some n) before ≡ before
missed true n before never = absurd (never refl)
missed false n before _ = refl

-- the table with one more node
pub table_push : {N : Type 0} (cmp : N → N → Ordering) → CmpEqualImpliesEq cmp → (nodes nodes' : List N) (node : N) (numbers numbers' : BTreeMap N ℕ) (n : ℕ) → IsTable cmp nodes numbers → IsNew nodes node → n ≡ length nodes
    → ((q : N) → get cmp numbers' q ≡ cond (is_at (cmp node) q) (Some n) (get cmp numbers q)) → get cmp numbers' node ≡ Some n → nodes' ≡ nodes ++ node ∷ [] → IsTable cmp nodes' numbers'
table_push {N} cmp exact nodes nodes' node numbers numbers' n t new at_end updates here e =
    subst (λ (l : List N). IsTable cmp l numbers') (sym e) (record { found = found; only = only })
  where
    hits : (q : N) → is_at (cmp node) q ≡ true → node ≡ q
    hits q h = tells_apart exact node q h

    found : (q : N) (k : ℕ) → slice_get (nodes ++ node ∷ []) k ≡ Some q → get cmp numbers' q ≡ Some k
    found q k f = elim (before_or_last nodes node k q f) [
      | inl old ↦ updates q ∙ missed (is_at (cmp node) q) n (get cmp numbers q) (λ h. new k (subst (λ (z : N). slice_get nodes k ≡ Some z) (sym (hits q h)) old)) ∙ t.found q k old
      | inr last ↦ subst (λ (z : N). get cmp numbers' z ≡ Some k) last.1 (here ∙ ap (λ (j : ℕ). Some j) (at_end ∙ sym last.0))
    ]

    only : (q : N) (k : ℕ) → get cmp numbers' q ≡ Some k → slice_get (nodes ++ node ∷ []) k ≡ Some q
    only q k f = elim (hit_or_before (is_at (cmp node) q) n k (get cmp numbers q) (sym (updates q) ∙ f)) [
      | inl hit ↦ subst (λ (j : ℕ). slice_get (nodes ++ node ∷ []) j ≡ Some q) (sym at_end ∙ hit.1) (subst (λ (z : N). slice_get (nodes ++ node ∷ []) (length nodes) ≡ Some z) (hits q hit.0) (stands_last nodes node))
      | inr old ↦ kept_before nodes (node ∷ []) k q (t.only q k old)
    ]

-- the numbers of nodes, and of one more
pub numbers_push : {N : Type 0} (before nodes middle after : List N) (node : N) (numbers numbers' : List ℕ) (n : ℕ) → AreNumbers before nodes middle numbers → IsNumber middle node after n → numbers' ≡ numbers ++ n ∷ [] → AreNumbers before (nodes ++ node ∷ []) after numbers'
numbers_push {N} before nodes middle after node numbers numbers' n are is e = subst (AreNumbers before (nodes ++ node ∷ []) after) (sym e) (record {
  kept = λ k q f. kept k q (are.kept k q f);
  long = let l : length numbers ≡ length nodes = are.long in omega (arith, l, length-append numbers (n ∷ []), length-append nodes (node ∷ []));
  at = at;
  new = new;
})
  where
    kept : (k : ℕ) (q : N) → slice_get middle k ≡ Some q → slice_get after k ≡ Some q
    kept k q f = elim is.grown [ inl same ↦ subst (λ (l : List N). slice_get l k ≡ Some q) (sym same) f | inr more ↦ subst (λ (l : List N). slice_get l k ≡ Some q) (sym more.1) (kept_before middle (node ∷ []) k q f) ]

    at : (k j : ℕ) (q : N) → slice_get (nodes ++ node ∷ []) k ≡ Some q → slice_get (numbers ++ n ∷ []) k ≡ Some j → slice_get after j ≡ Some q
    at k j q f h = both (before_or_last nodes node k q f) (before_or_last numbers n k j h)
      where
        both : (slice_get nodes k ≡ Some q) ⊎ ((k ≡ length nodes) × (node ≡ q)) → (slice_get numbers k ≡ Some j) ⊎ ((k ≡ length numbers) × (n ≡ j)) → slice_get after j ≡ Some q
        both (inl f) (inl h) = kept j q (are.at k j q f h)
        both (inl f) (inr h) = let lt : k < length nodes = slice_get_within nodes k q f in let l : length numbers ≡ length nodes = are.long in let e : k ≡ length numbers = h.0 in absurd (omega (arith, lt, l, e))
        both (inr f) (inl h) = let lt : k < length numbers = slice_get_within numbers k j h in let l : length numbers ≡ length nodes = are.long in let e : k ≡ length nodes = f.0 in absurd (omega (arith, lt, l, e))
        both (inr f) (inr h) = subst (λ (z : N). slice_get after j ≡ Some z) f.1 (subst (λ (i : ℕ). slice_get after i ≡ Some node) h.1 is.at)

    new : (k : ℕ) → length before ≤ k → k < length after → Contains (numbers ++ n ∷ []) k
    new k le lt = elim is.grown [ inl same ↦ Contains-append_left numbers (n ∷ []) k (are.new k le (subst (λ (l : List N). k < length l) same lt)) | inr more ↦ newer more ]
      where
        newer : (n ≡ length middle) × (after ≡ middle ++ node ∷ []) → Contains (numbers ++ n ∷ []) k
        newer more = elim (cases_lt k (length middle)) [ inl here ↦ Contains-append_left numbers (n ∷ []) k (are.new k le here) | inr past ↦ subst (Contains (numbers ++ n ∷ [])) (let long : length after ≡ length (middle ++ node ∷ []) = ap length more.1 in let at_end : n ≡ length middle = more.0 in let up : length middle ≤ k = past in omega (arith, lt, long, length-append middle (node ∷ []), at_end, up)) (Contains-push numbers n) ]

-- the numbers of the first nodes of a list, and of one more
pub numbers_step : {N : Type 0} (before nodes middle after : List N) (node : N) (numbers numbers' : List ℕ) (i n : ℕ) → i < length nodes → node ≡ slice_index_or nodes i node → AreNumbers before (take i nodes) middle numbers → IsNumber middle node after n → numbers' ≡ numbers ++ n ∷ [] → AreNumbers before (take (i + 1) nodes) after numbers'
numbers_step {N} before nodes middle after node numbers numbers' i n lt at are is e =
    let more : take (i + 1) nodes ≡ take i nodes ++ node ∷ [] = take_more nodes i node lt ∙ ap (λ (z : N). take i nodes ++ z ∷ []) (sym at) in
    subst (λ (l : List N). AreNumbers before l after numbers') (sym more) (numbers_push before (take i nodes) middle after node numbers numbers' n are is e)
