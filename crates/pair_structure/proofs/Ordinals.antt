-- Ordinals, and the lists of the states of each label.
use Rattle.std.proofs.Common.{ℕ, ◌≡◌, ◌<◌, ◌≤◌, ◌+◌, ◌++◌, ◌∷◌, Bool, true, false, [], List, length, arith, below_more, inl, inr, refl, sym, ◌∙◌, subst, length-append, count_by, cond}
use Rattle.std.proofs.lemmas.Bool.{cases_eq, cases_lt}
use Rattle.std.proofs.lemmas.List.{get_or_append_left, get_or_push}
use Rattle.std.proofs.lemmas.List.Sums.{count_by_more_yes, count_by_more_no, sum_by-take-le}
use Rattle.std.proofs.Math.Seq.{take-length}
use Rattle.std.proofs.lemmas.Bool.Decides.{nat_tests}
use Rattle.pair_structure.specs.inside.LabelIndex.{IsListed, IsIndexBelow, label_list}
use Rattle.pair_structure.specs.Ordinal.{is_same_label, ordinal_of, IsStateAt}
use Rattle.pair_structure.specs.Structure.{label_at}

same_label : (label : ℕ × ℕ) → is_same_label label label ≡ true
same_label (a, b) = grind (arith, nat_tests)

pub other_label : (a b p q : ℕ) → ((a ≡ p) × (b ≡ q) → ⊥) → is_same_label (p, q) (a, b) ≡ false
other_label a b p q differ = grind (arith, nat_tests)

-- the ordinal of a state is below the count of its label
pub ordinal_below : (states : List (ℕ × ℕ)) (label : ℕ × ℕ) (s : ℕ) → s < length states → label_at states s ≡ label → ordinal_of states s < count_by (is_same_label label) states
ordinal_below states label s lt is =
    let test : ℕ × ℕ → Bool = is_same_label (label_at states s) in
    let below : ordinal_of states s < count_by test states = omega (arith, count_by_more_yes test states s (0, 0) lt (same_label (label_at states s)), sum_by-take-le (λ x. cond (test x) 1 0) states (s + 1)) in
    subst (λ label. ordinal_of states s < count_by (is_same_label label) states) is below

listed_here : (states : List (ℕ × ℕ)) (n : ℕ) (list : List ℕ) → n < length states → IsListed states n (label_at states n) list → IsListed states (n + 1) (label_at states n) (list ++ n ∷ [])
listed_here states n list lt listed = record {
  count = omega (arith, length-append {A = ℕ}, listed.count, count_by_more_yes (is_same_label (label_at states n)) states n (0, 0) lt (same_label (label_at states n)));
  each = λ x below. elim (cases_lt x (length list)) [
    | inl before ↦ subst (IsStateAt states (label_at states n) x) (sym (get_or_append_left list (n ∷ []) 0 x before)) (listed.each x before)
    | inr after ↦ (
        let last : length list ≡ x = omega (arith, length-append {A = ℕ}) in
        subst (IsStateAt states (label_at states n) x) (sym (get_or_push list n 0 x last)) (record { within = lt; label_is = refl; ordinal_is = sym listed.count ∙ last })
        )
  ];
}

listed_elsewhere : (states : List (ℕ × ℕ)) (n p q : ℕ) (list : List ℕ) → n < length states → (((label_at states n).0 ≡ p) × ((label_at states n).1 ≡ q) → ⊥) → IsListed states n (p, q) list
    → IsListed states (n + 1) (p, q) list
listed_elsewhere states n p q list lt differ listed = record {
  count = listed.count ∙ sym (count_by_more_no (is_same_label (p, q)) states n (0, 0) lt (other_label (label_at states n).0 (label_at states n).1 p q differ));
  each = listed.each;
}

-- one more state, in the list of its label
pub IsIndexBelow-more : (states : List (ℕ × ℕ)) (n : ℕ) (ordinals : List ℕ) (rows grown : List (List (List ℕ))) → n < length states → IsIndexBelow n states ordinals rows
    → label_list grown (label_at states n).0 (label_at states n).1 ≡ label_list rows (label_at states n).0 (label_at states n).1 ++ n ∷ []
    → ((p q : ℕ) → (((label_at states n).0 ≡ p) × ((label_at states n).1 ≡ q) → ⊥) → label_list grown p q ≡ label_list rows p q)
    → IsIndexBelow (n + 1) states (ordinals ++ length (label_list rows (label_at states n).0 (label_at states n).1) ∷ []) grown
IsIndexBelow-more states n ordinals rows grown lt index here elsewhere = record {
  long = omega (arith, length-append {A = ℕ}, index.long);
  ordinal = below_more _ n
      (λ s before. get_or_append_left ordinals _ 0 s (omega (arith, index.long)) ∙ index.ordinal s before)
      (get_or_push ordinals _ 0 n index.long ∙ (index.lists (label_at states n).0 (label_at states n).1).count);
  lists = λ p q. elim (cases_eq (label_at states n).0 p) [
    | inr differ ↦ apart p q (λ same. differ same.0)
    | inl same ↦ elim (cases_eq (label_at states n).1 q) [
      | inr differ ↦ apart p q (λ same. differ same.1)
      | inl same' ↦ subst (λ q. IsListed states (n + 1) (p, q) (label_list grown p q)) same' (subst (λ p. IsListed states (n + 1) (p, (label_at states n).1) (label_list grown p (label_at states n).1)) same own)
    ]
  ];
}
  where
    own : IsListed states (n + 1) (label_at states n) (label_list grown (label_at states n).0 (label_at states n).1)
    own = rw here (listed_here states n _ lt (index.lists (label_at states n).0 (label_at states n).1))

    apart : (p q : ℕ) → (((label_at states n).0 ≡ p) × ((label_at states n).1 ≡ q) → ⊥) → IsListed states (n + 1) (p, q) (label_list grown p q)
    apart p q differ = rw (elsewhere p q differ) (listed_elsewhere states n p q (label_list rows p q) lt differ (index.lists p q))

-- past the end of the list of a label there is no ordinal
pub none_past : (states : List (ℕ × ℕ)) (label : ℕ × ℕ) (list : List ℕ) (x s : ℕ) → IsListed states (length states) label list → length list ≤ x → IsStateAt states label x s → ⊥
none_past states label list x s listed past found =
    let below : ordinal_of states s < length list = rw (listed.count, take-length) (ordinal_below states label s found.within found.label_is) in omega (arith, found.ordinal_is)
