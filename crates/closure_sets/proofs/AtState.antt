-- The truth of members at a state of a structure.
use Rattle.std.proofs.Common.{ℕ, ◌≡◌, ◌⊎◌, ◌<◌, inl, inr, Bool, true, false, Some, length, subst, sym}
use Rattle.pair_structure.specs.Structure.{Structure, HasMove, GoesOn, label_at}
use Rattle.pair_structure.specs.declared.side.Side.{Side}
use Rattle.pair_structure.specs.declared.side.Side.TheVariants.{A, B}
use Rattle.ctl_form.specs.Form.{next}
use Rattle.ctl_form.specs.Rounds.{AfterMove}
use Rattle.ctl_form.specs.Truth.{Holds}
use Rattle.ctl_form.specs.declared.part.Part.TheVariants.{Both, Either, Until}
use Rattle.ctl_form.proofs.Expand.{until_expands}
use Rattle.ctl_form.proofs.TruthDecided.{decided_truth}
use Rattle.closure_sets.specs.ClosureParts.{ClosureParts, IsClosureParts, after, some_move}
use Rattle.closure_sets.specs.Cover.{IsTrueAt, IsChosen, ExpansionCovers}
use Rattle.closure_sets.specs.Expansion.{clashes}
use Rattle.closure_sets.specs.Label.{part_of, form_of, is_plain}
use Rattle.closure_sets.proofs.Closures.{both_form, either_form, until_lt, until_form, next_of, some_of}
use Rattle.closure_sets.proofs.Covers.{IsTruth, expand_covers}
use Rattle.closure_sets.proofs.Labels.{plain_true, clash_false}

module _ (m : Structure) (on : GoesOn m) (c : ClosureParts) (k : IsClosureParts c) (s : ℕ) (lt : s < length m.states) where
  Is : ℕ → Type 0
  Is i = IsTrueAt m c s i

  both_is : (i f g : ℕ) → part_of c i ≡ Both f g → IsTrueAt m c s i → IsTrueAt m c s f × IsTrueAt m c s g
  both_is i f g p h = subst (λ x. Holds m x s) (both_form c k i f g p) h

  either_is : (i f g : ℕ) → part_of c i ≡ Either f g → IsTrueAt m c s i → IsTrueAt m c s f ⊎ IsTrueAt m c s g
  either_is i f g p h = subst (λ x. Holds m x s) (either_form c k i f g p) h

  -- an until by its stage
  until_out : (i f g : ℕ) (all weak : Bool) → part_of c i ≡ Until all weak f g → IsTrueAt m c s i → IsTrueAt m c s g ⊎ (IsTrueAt m c s f × AfterMove m all (Holds m (form_of c i)) s)
  until_out i f g all weak p h =
      subst (λ x. IsTrueAt m c s g ⊎ (IsTrueAt m c s f × AfterMove m all (Holds m x) s)) (sym (until_form c k i f g all weak p))
      ((until_expands m on all weak (form_of c f) (form_of c g) s lt).0 (subst (λ x. Holds m x s) (until_form c k i f g all weak p) h))

  step_is : (i f g : ℕ) (all weak : Bool) (side : Side) → part_of c i ≡ Until all weak f g → Holds m (next all (Some side) (form_of c i)) s → IsTrueAt m c s (after c side i)
  step_is i f g all weak side p h = subst (λ x. Holds m x s) (sym (next_of c k i f g all weak side (until_lt c i f g all weak p) p)) h

  each_is : (i f g : ℕ) (weak : Bool) → part_of c i ≡ Until true weak f g → IsTrueAt m c s i → IsTrueAt m c s g ⊎ (IsTrueAt m c s f × IsTrueAt m c s (after c A i) × IsTrueAt m c s (after c B i))
  each_is i f g weak p h = split (until_out i f g true weak p h)
    where
      split : IsTrueAt m c s g ⊎ (IsTrueAt m c s f × AfterMove m true (Holds m (form_of c i)) s) → IsTrueAt m c s g ⊎ (IsTrueAt m c s f × IsTrueAt m c s (after c A i) × IsTrueAt m c s (after c B i))
      split (inl y) = inl y
      split (inr u) = inr (u.0, step_is i f g true weak A p (λ t step. u.1 t (inl step)), step_is i f g true weak B p (λ t step. u.1 t (inr step)))

  along_is : (chosen : ℕ → Side) → IsChosen m c s chosen → (i f g : ℕ) (weak : Bool) → part_of c i ≡ Until false weak f g → IsTrueAt m c s i → (IsTrueAt m c s g → ⊥) → IsTrueAt m c s f × IsTrueAt m c s (after c (chosen i) i)
  along_is chosen ch i f g weak p h none = (first (until_out i f g false weak p h), step_is i f g false weak (chosen i) p (ch i f g weak p h none))
    where
      first : IsTrueAt m c s g ⊎ (IsTrueAt m c s f × AfterMove m false (Holds m (form_of c i)) s) → IsTrueAt m c s f
      first (inl y) = absurd (none y)
      first (inr u) = u.0

  some_is : (side : Side) (t : ℕ) → HasMove m side s t → IsTrueAt m c s (some_move c side)
  some_is side t step = subst (λ x. Holds m x s) (sym (some_of c k side)) (t, step, tt)

  pub is_truth : (label : ℕ × ℕ) → label_at m.states s ≡ label → (chosen : ℕ → Side) → IsChosen m c s chosen → IsTruth c (is_plain c label) (clashes c label) chosen (IsTrueAt m c s)
  is_truth label labelled chosen ch = record {
    both = both_is;
    either = either_is;
    each = each_is;
    along = along_is chosen ch;
    decided = λ i. decided_truth m on (form_of c i) s lt;
    plain = plain_true m c s lt label labelled;
    consistent = clash_false m c k s lt label labelled;
    onward = let u = on.onward s lt in elim u.1 [ inl a ↦ inl (some_is A u.0 a) | inr b ↦ inr (some_is B u.0 b) ];
  }

pub expansion_covers : ExpansionCovers
expansion_covers c label seed k m on s lt labelled h chosen ch = expand_covers c (is_plain c label) (clashes c label) chosen (IsTrueAt m c s) (λ side. (k.moves.0, (k.moves.3 side).1)) (is_truth m on c k s lt label labelled chosen ch) seed h
