-- One state for a label and an ordinal.
use Rattle.std.proofs.Common.{ℕ, ◌≡◌, ◌<◌, ◌≤◌, inl, inr, List, length, take, arith, refl, ◌∙◌, subst, count_by}
use Rattle.std.proofs.lemmas.Bool.{cases_order}
use Rattle.std.proofs.lemmas.List.{get_or-take, length-take-le, take-take}
use Rattle.pair_structure.specs.Ordinal.{is_same_label, ordinal_of, IsStateAt}
use Rattle.pair_structure.specs.Structure.{label_at}
use Rattle.pair_structure.proofs.Ordinals.{ordinal_below}

-- the states before another are enough to count by
ordinal_of-take : (states : List (ℕ × ℕ)) (s t : ℕ) → s < t → t ≤ length states → ordinal_of (take t states) s ≡ ordinal_of states s
ordinal_of-take states s t lt le =
    let within : s < length (take t states) = omega (arith, length-take-le t states le) in
    let same : label_at (take t states) s ≡ label_at states s = get_or-take t states s (0, 0) lt in
    rw (same, take-take s t states (omega arith)) refl

-- a later state with the same label has a higher ordinal
later_is_higher : (states : List (ℕ × ℕ)) (label : ℕ × ℕ) (x s t : ℕ) → IsStateAt states label x s → IsStateAt states label x t → s < t → ⊥
later_is_higher states label x s t p q lt =
    let within : s < length (take t states) = omega (arith, length-take-le t states (omega (arith, q.within))) in
    let same : label_at (take t states) s ≡ label = get_or-take t states s (0, 0) lt ∙ p.label_is in
    let earlier : ordinal_of (take t states) s ≡ x = ordinal_of-take states s t lt (omega (arith, q.within)) ∙ p.ordinal_is in
    let below = ordinal_below (take t states) label s within same in
    let here : count_by (is_same_label label) (take t states) ≡ x = subst (λ label. count_by (is_same_label label) (take t states) ≡ x) q.label_is q.ordinal_is in
    omega (arith, earlier, below, here)

pub one_pair_state : (states : List (ℕ × ℕ)) (label : ℕ × ℕ) (x s t : ℕ) → IsStateAt states label x s → IsStateAt states label x t → s ≡ t
one_pair_state states label x s t p q = elim (cases_order s t) [ inl e ↦ e | inr o ↦ elim o [ inl l ↦ absurd (later_is_higher states label x s t p q l) | inr l ↦ absurd (later_is_higher states label x t s q p l) ] ]

-- states with one label and one ordinal are one
pub same_state : (states : List (ℕ × ℕ)) (s t : ℕ) → s < length states → t < length states → label_at states s ≡ label_at states t → ordinal_of states s ≡ ordinal_of states t → s ≡ t
same_state states s t lt lt' label count =
    one_pair_state states (label_at states t) (ordinal_of states t) s t (record { within = lt; label_is = label; ordinal_is = count }) (record { within = lt'; label_is = refl; ordinal_is = refl })
