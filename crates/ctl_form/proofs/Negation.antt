-- The normal form means the same, and that of the negation the opposite.
use Rattle.std.proofs.Common.{ℕ, ◌⊎◌, ◌<◌, ◌↔◌, inl, inr, Bool, true, false, not, Some, None, length}
use Rattle.pair_structure.specs.Structure.{Structure, HasMove, GoesOn}
use Rattle.pair_structure.specs.declared.side.Side.{Side}
use Rattle.pair_structure.specs.declared.side.Side.TheVariants.{A, B}
use Rattle.ctl_form.specs.Form.{Form, truth, falsity, at, neg, both, either, implies, next, always, sometime, until}
use Rattle.ctl_form.specs.Truth.{Holds, AfterOne}
use Rattle.ctl_form.specs.Normal.{normal, Says}
use Rattle.ctl_form.proofs.Decided.{Decided, each_or_some}
use Rattle.ctl_form.proofs.Moves.{decided_has_move}
use Rattle.ctl_form.proofs.TruthDecided.{decided_truth, decided_after_one, are_decided}
use Rattle.ctl_form.proofs.Opposed.{along_opposed, same_along}

pub after_same : (m : Structure) (all : Bool) (side : Side) (X X' : ℕ → Type 0) → GoesOn m → ((t : ℕ) → t < length m.states → X' t ↔ X t) → (s : ℕ) → AfterOne m all side X' s ↔ AfterOne m all side X s
after_same m true side X X' on e s = (λ h t step. (e t (on.within side s t step)).0 (h t step), λ h t step. (e t (on.within side s t step)).1 (h t step))
after_same m false side X X' on e s = (λ h. (h.0, h.1, (e h.0 (on.within side s h.0 h.1)).0 h.2), λ h. (h.0, h.1, (e h.0 (on.within side s h.0 h.1)).1 h.2))

after_opposed : (m : Structure) (all : Bool) (side : Side) (X X' : ℕ → Type 0) → GoesOn m → ((t : ℕ) → t < length m.states → Decided (X t)) → ((t : ℕ) → t < length m.states → X' t ↔ (X t → ⊥)) → (s : ℕ) → AfterOne m (not all) side X' s ↔ (AfterOne m all side X s → ⊥)
after_opposed m true side X X' on d e s = (λ h' h. (e h'.0 (on.within side s h'.0 h'.1)).0 h'.2 (h h'.0 h'.1), λ none. elim (each_or_some (length m.states) (HasMove m side s) X (on.within side s) (decided_has_move m side s) d) [ inl each ↦ absurd (none each) | inr u ↦ (u.0, u.1, (e u.0 (on.within side s u.0 u.1)).1 u.2) ])
after_opposed m false side X X' on d e s = (λ h' h. (e h.0 (on.within side s h.0 h.1)).0 (h' h.0 h.1) h.2, λ none t step. (e t (on.within side s t step)).1 (λ x. none (t, step, x)))

not_both : (F G : Type 0) → Decided F → ((F × G) → ⊥) → (F → ⊥) ⊎ (G → ⊥)
not_both F G (inl f) h = inr (λ g. h (f, g))
not_both F G (inr n) h = inl n

join_both : (F G F' G' : Type 0) → F' ↔ F → G' ↔ G → (F' × G') ↔ (F × G)
join_both F G F' G' f g = (λ h. (f.0 h.0, g.0 h.1), λ h. (f.1 h.0, g.1 h.1))

join_either : (F G F' G' : Type 0) → F' ↔ F → G' ↔ G → (F' ⊎ G') ↔ (F ⊎ G)
join_either F G F' G' f g = (λ h. elim h [ inl x ↦ inl (f.0 x) | inr y ↦ inr (g.0 y) ], λ h. elim h [ inl x ↦ inl (f.1 x) | inr y ↦ inr (g.1 y) ])

both_fails : (F G F' G' : Type 0) → Decided F → F' ↔ (F → ⊥) → G' ↔ (G → ⊥) → (F' ⊎ G') ↔ ((F × G) → ⊥)
both_fails F G F' G' d f g = (λ h k. elim h [ inl x ↦ f.0 x k.0 | inr y ↦ g.0 y k.1 ], λ none. elim (not_both F G d none) [ inl x ↦ inl (f.1 x) | inr y ↦ inr (g.1 y) ])

either_fails : (F G F' G' : Type 0) → F' ↔ (F → ⊥) → G' ↔ (G → ⊥) → (F' × G') ↔ (F ⊎ G → ⊥)
either_fails F G F' G' f g = (λ h k. elim k [ inl x ↦ f.0 h.0 x | inr y ↦ g.0 h.1 y ], λ none. (f.1 (λ x. none (inl x)), g.1 (λ y. none (inr y))))

implies_same : (F G F' G' : Type 0) → Decided F → F' ↔ (F → ⊥) → G' ↔ G → (F' ⊎ G') ↔ (F → G)
implies_same F G F' G' d f g = (λ h x. elim h [ inl n ↦ absurd (f.0 n x) | inr y ↦ g.0 y ], λ h. elim d [ inl x ↦ inr (g.1 (h x)) | inr n ↦ inl (f.1 n) ])

implies_fails : (F G F' G' : Type 0) → Decided F → F' ↔ F → G' ↔ (G → ⊥) → (F' × G') ↔ ((F → G) → ⊥)
implies_fails F G F' G' d f g = (λ h k. g.0 h.1 (k (f.0 h.0)), λ none. elim d [ inl x ↦ (f.1 x, g.1 (λ y. none (λ _. y))) | inr n ↦ absurd (none (λ x. absurd (n x))) ])

not_not : (b : Bool) (F F' : Type 0) → Decided F → F' ↔ Says (not b) F → F' ↔ Says b (F → ⊥)
not_not true F F' d e = e
not_not false F F' d e = (λ h n. n (e.0 h), λ h. elim d [ inl x ↦ e.1 x | inr n ↦ absurd (h n) ])

pub normal_says : (m : Structure) → GoesOn m → (b : Bool) (f : Form) (s : ℕ) → s < length m.states → Holds m (normal b f) s ↔ Says b (Holds m f s)
normal_says m on true truth s lt = (λ h. h, λ h. h)
normal_says m on false truth s lt = (λ h _. h, λ h. h tt)
normal_says m on true falsity s lt = (λ h. h, λ h. h)
normal_says m on false falsity s lt = (λ _ h. h, λ _. tt)
normal_says m on true (at side local) s lt = (λ h. h, λ h. h)
normal_says m on false (at side local) s lt = (λ h. h, λ h. h)
normal_says m on b (neg f) s lt = not_not b (Holds m f s) (Holds m (normal (not b) f) s) (decided_truth m on f s lt) (normal_says m on (not b) f s lt)
normal_says m on true (both f g) s lt = join_both (Holds m f s) (Holds m g s) (Holds m (normal true f) s) (Holds m (normal true g) s) (normal_says m on true f s lt) (normal_says m on true g s lt)
normal_says m on false (both f g) s lt = both_fails (Holds m f s) (Holds m g s) (Holds m (normal false f) s) (Holds m (normal false g) s) (decided_truth m on f s lt) (normal_says m on false f s lt) (normal_says m on false g s lt)
normal_says m on true (either f g) s lt = join_either (Holds m f s) (Holds m g s) (Holds m (normal true f) s) (Holds m (normal true g) s) (normal_says m on true f s lt) (normal_says m on true g s lt)
normal_says m on false (either f g) s lt = either_fails (Holds m f s) (Holds m g s) (Holds m (normal false f) s) (Holds m (normal false g) s) (normal_says m on false f s lt) (normal_says m on false g s lt)
normal_says m on true (implies f g) s lt = implies_same (Holds m f s) (Holds m g s) (Holds m (normal false f) s) (Holds m (normal true g) s) (decided_truth m on f s lt) (normal_says m on false f s lt) (normal_says m on true g s lt)
normal_says m on false (implies f g) s lt = implies_fails (Holds m f s) (Holds m g s) (Holds m (normal true f) s) (Holds m (normal false g) s) (decided_truth m on f s lt) (normal_says m on true f s lt) (normal_says m on false g s lt)
normal_says m on true (next all (Some side) f) s lt = after_same m all side (Holds m f) (Holds m (normal true f)) on (normal_says m on true f) s
normal_says m on false (next all (Some side) f) s lt = after_opposed m all side (Holds m f) (Holds m (normal false f)) on (decided_truth m on f) (normal_says m on false f) s
normal_says m on true (next true None f) s lt = join_both (AfterOne m true A (Holds m f) s) (AfterOne m true B (Holds m f) s) _ _ (after_same m true A (Holds m f) (Holds m (normal true f)) on (normal_says m on true f) s) (after_same m true B (Holds m f) (Holds m (normal true f)) on (normal_says m on true f) s)
normal_says m on true (next false None f) s lt = join_either (AfterOne m false A (Holds m f) s) (AfterOne m false B (Holds m f) s) _ _ (after_same m false A (Holds m f) (Holds m (normal true f)) on (normal_says m on true f) s) (after_same m false B (Holds m f) (Holds m (normal true f)) on (normal_says m on true f) s)
normal_says m on false (next true None f) s lt = both_fails (AfterOne m true A (Holds m f) s) (AfterOne m true B (Holds m f) s) _ _ (decided_after_one m on true A (Holds m f) (decided_truth m on f) s) (after_opposed m true A (Holds m f) (Holds m (normal false f)) on (decided_truth m on f) (normal_says m on false f) s) (after_opposed m true B (Holds m f) (Holds m (normal false f)) on (decided_truth m on f) (normal_says m on false f) s)
normal_says m on false (next false None f) s lt = either_fails (AfterOne m false A (Holds m f) s) (AfterOne m false B (Holds m f) s) _ _ (after_opposed m false A (Holds m f) (Holds m (normal false f)) on (decided_truth m on f) (normal_says m on false f) s) (after_opposed m false B (Holds m f) (Holds m (normal false f)) on (decided_truth m on f) (normal_says m on false f) s)
normal_says m on true (always all f) s lt = same_along m on all true (Holds m f) (Holds m falsity) (Holds m (normal true f)) (Holds m falsity) (are_decided m on f falsity) (record { first = normal_says m on true f; second = λ t _. (λ h. h, λ h. h) }) s lt
normal_says m on false (always all f) s lt = along_opposed m on all true (Holds m f) (Holds m falsity) (Holds m truth) (Holds m (normal false f)) (are_decided m on f falsity) (record { first = λ t _. (λ _ u. u, λ _. tt); second = λ t l. (λ h. ((normal_says m on false f t l).0 h, λ u. u), λ h. (normal_says m on false f t l).1 h.0) }) s lt
normal_says m on true (sometime all f) s lt = same_along m on all false (Holds m truth) (Holds m f) (Holds m truth) (Holds m (normal true f)) (are_decided m on truth f) (record { first = λ t _. (λ h. h, λ h. h); second = normal_says m on true f }) s lt
normal_says m on false (sometime all f) s lt = along_opposed m on all false (Holds m truth) (Holds m f) (Holds m (normal false f)) (Holds m falsity) (are_decided m on truth f) (record { first = normal_says m on false f; second = λ t l. (λ h. absurd h, λ h. h.0 tt) }) s lt
normal_says m on true (until all weak f g) s lt = same_along m on all weak (Holds m f) (Holds m g) (Holds m (normal true f)) (Holds m (normal true g)) (are_decided m on f g) (record { first = normal_says m on true f; second = normal_says m on true g }) s lt
normal_says m on false (until all weak f g) s lt = along_opposed m on all weak (Holds m f) (Holds m g) (Holds m (normal false g)) (λ t. Holds m (normal false f) t × Holds m (normal false g) t) (are_decided m on f g) (record { first = normal_says m on false g; second = λ t l. (λ h. ((normal_says m on false f t l).0 h.0, (normal_says m on false g t l).0 h.1), λ h. ((normal_says m on false f t l).1 h.0, (normal_says m on false g t l).1 h.1)) }) s lt
