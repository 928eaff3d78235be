-- What each until of formulas says of now and of the next moves.
use Rattle.std.proofs.Common.{ℕ, ◌⊎◌, ◌<◌, ◌↔◌, inl, inr, Bool, true, false, length}
use Rattle.pair_structure.specs.Structure.{Structure, GoesOn}
use Rattle.ctl_form.specs.Form.{Form, truth, falsity, always, sometime, until}
use Rattle.ctl_form.specs.Truth.{Holds}
use Rattle.ctl_form.specs.Rounds.{AfterMove}
use Rattle.ctl_form.proofs.Rounds.{Stage}
use Rattle.ctl_form.proofs.TruthDecided.{are_decided}
use Rattle.ctl_form.proofs.Unfold.{along_unfolds}

pub until_expands : (m : Structure) → GoesOn m → (all weak : Bool) (f g : Form) (s : ℕ) → s < length m.states → Holds m (until all weak f g) s ↔ Stage m all (Holds m f) (Holds m g) (Holds m (until all weak f g)) s
until_expands m on all weak f g = along_unfolds m on all weak (Holds m f) (Holds m g) (are_decided m on f g)

never_second : (X Y : Type 0) → X ↔ (⊥ ⊎ Y) → X ↔ Y
never_second X Y e = (λ x. elim (e.0 x) [ inl n ↦ absurd n | inr y ↦ y ], λ y. e.1 (inr y))

always_first : (X Q Y : Type 0) → X ↔ (Q ⊎ (Unit {0} × Y)) → X ↔ (Q ⊎ Y)
always_first X Q Y e = (λ x. elim (e.0 x) [ inl q ↦ inl q | inr h ↦ inr h.1 ], λ u. e.1 (elim u [ inl q ↦ inl q | inr y ↦ inr (tt, y) ]))

pub always_expands : (m : Structure) → GoesOn m → (all : Bool) (f : Form) (s : ℕ) → s < length m.states → Holds m (always all f) s ↔ (Holds m f s × AfterMove m all (Holds m (always all f)) s)
always_expands m on all f s lt = never_second (Holds m (always all f) s) (Holds m f s × AfterMove m all (Holds m (always all f)) s) (along_unfolds m on all true (Holds m f) (Holds m falsity) (are_decided m on f falsity) s lt)

pub sometime_expands : (m : Structure) → GoesOn m → (all : Bool) (f : Form) (s : ℕ) → s < length m.states → Holds m (sometime all f) s ↔ (Holds m f s ⊎ AfterMove m all (Holds m (sometime all f)) s)
sometime_expands m on all f s lt = always_first (Holds m (sometime all f) s) (Holds m f s) (AfterMove m all (Holds m (sometime all f)) s) (along_unfolds m on all false (Holds m truth) (Holds m f) (are_decided m on truth f) s lt)
