-- Reaching, an OR node at a time.
use Rattle.std.proofs.Common.{ℕ, ◌≡◌, ◌⊎◌, ◌<◌, ◌≤◌, ◌+◌, inl, inr, Bool, List, Contains, length, refl, subst, sym, ◌∙◌, slice_index_or}
use Rattle.std.proofs.lemmas.Grind.{get_or_default_zero}
use Rattle.pair_structure.specs.Lists.{list_at}
use Rattle.deletion_rules.specs.inside.Prefix.{StandsBefore}
use Rattle.deletion_rules.specs.inside.Spread.{IsParentOf, Reaching}
use Rattle.deletion_rules.proofs.Standing.{none_before, stands_all, stands_cases, stands_here, stands_in, stands_more}

pub reaching_none : (before : List Bool) (old : List ℕ) (Named : ℕ → Type 0) → ((o : ℕ) → Named o → ⊥) → Reaching Named before old before old
reaching_none before old Named none = record { long = refl; kept = λ o h. h; all = λ o h. absurd (none o h); only = λ o h. inl h; listed = λ o h. h; fresh = λ o h. inl h }

pub reaching_same : (P Q : ℕ → Type 0) (b a : List Bool) (ol n : List ℕ) → ((o : ℕ) → P o → Q o) → ((o : ℕ) → Q o → P o) → Reaching P b ol a n → Reaching Q b ol a n
reaching_same P Q b a ol n to from h = record { long = h.long; kept = h.kept; all = λ o q. h.all o (from o q); only = λ o e. elim (h.only o e) [ inl f ↦ inl f | inr p ↦ inr (to o p.0, p.1) ]; listed = h.listed; fresh = h.fresh }

pub reaching_then : (P Q R : ℕ → Type 0) (b a a' : List Bool) (ol n n' : List ℕ) → ((o : ℕ) → P o → R o) → ((o : ℕ) → Q o → R o) → ((o : ℕ) → R o → P o ⊎ Q o) → Reaching P b ol a n → Reaching Q a n a' n' → Reaching R b ol a' n'
reaching_then P Q R b a a' ol n n' from_p from_q cases h k = record {
  long = k.long ∙ h.long;
  kept = λ o e. k.kept o (h.kept o e);
  all = λ o r. elim (cases o r) [ inl p ↦ k.kept o (h.all o p) | inr q ↦ k.all o q ];
  only = λ o e. elim (k.only o e) [ inl f ↦ elim (h.only o f) [ inl g ↦ inl g | inr p ↦ inr (from_p o p.0, k.listed o p.1) ] | inr q ↦ inr (from_q o q.0, q.1) ];
  listed = λ o c. k.listed o (h.listed o c);
  fresh = λ o c. elim (k.fresh o c) [ inl f ↦ elim (h.fresh o f) [ inl g ↦ inl g | inr e ↦ inr (k.kept o e) ] | inr e ↦ inr e ];
}

-- all items of a list, one after the other
pub reaching_begin : (items : List ℕ) (flags : List Bool) (list : List ℕ) → Reaching (StandsBefore items 0) flags list flags list
reaching_begin items flags list = reaching_none flags list (StandsBefore items 0) (λ o h. none_before items o h)

pub reaching_step : (items : List ℕ) (k : ℕ) (b a a' : List Bool) (ol n n' : List ℕ) → k < length items → Reaching (StandsBefore items k) b ol a n → Reaching (λ o. o ≡ slice_index_or items k 0) a n a' n' → Reaching (StandsBefore items (k + 1)) b ol a' n'
reaching_step items k b a a' ol n n' lt h s =
    let i = slice_index_or items k 0 in
    let at = get_or_default_zero items k i lt in
    reaching_then (StandsBefore items k) (λ o. o ≡ i) (StandsBefore items (k + 1)) b a a' ol n n' (λ o w. stands_more items k o w) (λ o e. stands_here items k o i lt at e) (λ o w. stands_cases items k o i lt at w) h s

pub reaching_end : (items : List ℕ) (k : ℕ) (b a : List Bool) (ol n : List ℕ) → length items ≤ k → Reaching (StandsBefore items k) b ol a n → Reaching (Contains items) b ol a n
reaching_end items k b a ol n le h = reaching_same (StandsBefore items k) (Contains items) b a ol n (λ o w. stands_in items k o w) (λ o c. stands_all items k o le c) h

-- parents of the nodes before place k
abbrev pub IsParentBefore : List (List ℕ) → List ℕ → ℕ → ℕ → Type 0
IsParentBefore parents nodes k o = (n : ℕ) × StandsBefore nodes k n × Contains (list_at parents n) o

pub parents_begin : (parents : List (List ℕ)) (nodes : List ℕ) (flags : List Bool) (list : List ℕ) → Reaching (IsParentBefore parents nodes 0) flags list flags list
parents_begin parents nodes flags list = reaching_none flags list (IsParentBefore parents nodes 0) (λ o h. none_before nodes h.0 h.1)

pub parents_step : (parents : List (List ℕ)) (nodes : List ℕ) (k : ℕ) (ors : List ℕ) (b a a' : List Bool) (ol n n' : List ℕ) → k < length nodes → ors ≡ list_at parents (slice_index_or nodes k 0) → Reaching (IsParentBefore parents nodes k) b ol a n → Reaching (Contains ors) a n a' n' → Reaching (IsParentBefore parents nodes (k + 1)) b ol a' n'
parents_step parents nodes k ors b a a' ol n n' lt e h s = reaching_then (IsParentBefore parents nodes k) (Contains ors) (IsParentBefore parents nodes (k + 1)) b a a' ol n n' (λ o w. (w.0, stands_more nodes k w.0 w.1, w.2)) here cases h s
  where
    i : ℕ
    i = slice_index_or nodes k 0

    at : slice_index_or nodes k i ≡ i
    at = get_or_default_zero nodes k i lt

    here : (o : ℕ) → Contains ors o → IsParentBefore parents nodes (k + 1) o
    here o c = (i, stands_here nodes k i i lt at refl, subst (λ (l : List ℕ). Contains l o) e c)

    cases : (o : ℕ) → IsParentBefore parents nodes (k + 1) o → IsParentBefore parents nodes k o ⊎ Contains ors o
    cases o w = elim (stands_cases nodes k w.0 i lt at w.1) [ inl b ↦ inl (w.0, b, w.2) | inr q ↦ inr (subst (λ (l : List ℕ). Contains l o) (sym e) (subst (λ z. Contains (list_at parents z) o) q w.2)) ]

pub parents_end : (parents : List (List ℕ)) (nodes : List ℕ) (k : ℕ) (b a : List Bool) (ol n : List ℕ) → length nodes ≤ k → Reaching (IsParentBefore parents nodes k) b ol a n → Reaching (IsParentOf parents nodes) b ol a n
parents_end parents nodes k b a ol n le h = reaching_same (IsParentBefore parents nodes k) (IsParentOf parents nodes) b a ol n (λ o w. (w.0, stands_in nodes k w.0 w.1, w.2)) (λ o w. (w.0, stands_all nodes k w.0 le w.1, w.2)) h
