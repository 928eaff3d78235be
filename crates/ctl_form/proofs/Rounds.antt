-- Rounds rise for a strong until and fall for a weak one; after some round nothing changes, so an until in rounds is decided.
use Rattle.std.proofs.Common.{ℕ, zero, suc, ◌≡◌, ◌⊎◌, ◌<◌, ◌≤◌, inl, inr, Bool, true, false, arith, subst, length}
use Rattle.std.proofs.Math.Decide.{dec_le}
use Rattle.pair_structure.specs.Structure.{Structure, Reaches, GoesOn}
use Rattle.ctl_form.specs.Rounds.{AfterMove, Outset, Round, InRounds}
use Rattle.ctl_form.proofs.Decided.{Decided, decided_either, decided_both, decided_not, decided_iff, decided_stands}
use Rattle.ctl_form.proofs.Moves.{reaches_within, decided_after, after_map}
use Rattle.ctl_form.proofs.Settle.{IsSettled, falls_settle, holds_earlier}

-- both parts of an until are decided at the states
pub record AreDecided (m : Structure) (P Q : ℕ → Type 0) : Type 0 where
  pub first : (t : ℕ) → t < length m.states → Decided (P t)
  pub second : (t : ℕ) → t < length m.states → Decided (Q t)

decided_outset : (weak : Bool) (P Q : Type 0) → Decided P → Decided Q → Decided (Outset weak P Q)
decided_outset true P Q p q = decided_either p q
decided_outset false P Q p q = q

pub decided_round : (m : Structure) → GoesOn m → (all weak : Bool) (P Q : ℕ → Type 0) → AreDecided m P Q → (n s : ℕ) → s < length m.states → Decided (Round m all weak P Q n s)
decided_round m on all weak P Q d zero s lt = decided_outset weak (P s) (Q s) (d.first s lt) (d.second s lt)
decided_round m on all weak P Q d (suc n) s lt = decided_either (d.second s lt) (decided_both (d.first s lt) (decided_after m on all (Round m all weak P Q n) (decided_round m on all weak P Q d n) s))

-- the step from one round to the next, over any property of the states after a move
abbrev pub Stage : Structure → Bool → (ℕ → Type 0) → (ℕ → Type 0) → (ℕ → Type 0) → ℕ → Type 0
Stage m all P Q X s = Q s ⊎ (P s × AfterMove m all X s)

pub stage_map : (m : Structure) (all : Bool) (P Q X Y : ℕ → Type 0) (s : ℕ) → ((t : ℕ) → Reaches m s t → X t → Y t) → Stage m all P Q X s → Stage m all P Q Y s
stage_map m all P Q X Y s f (inl q) = inl q
stage_map m all P Q X Y s f (inr h) = inr (h.0, after_map m all X Y s f h.1)

round_falls : (m : Structure) (all : Bool) (P Q : ℕ → Type 0) (n s : ℕ) → Round m all true P Q (suc n) s → Round m all true P Q n s
round_falls m all P Q zero s (inl q) = inr q
round_falls m all P Q zero s (inr h) = inl h.0
round_falls m all P Q (suc n) s h = stage_map m all P Q (Round m all true P Q (suc n)) (Round m all true P Q n) s (λ t _. round_falls m all P Q n t) h

pub round_rises : (m : Structure) (all : Bool) (P Q : ℕ → Type 0) (n s : ℕ) → Round m all false P Q n s → Round m all false P Q (suc n) s
round_rises m all P Q zero s q = inl q
round_rises m all P Q (suc n) s h = stage_map m all P Q (Round m all false P Q n) (Round m all false P Q (suc n)) s (λ t _. round_rises m all P Q n t) h

pub rises_to : (m : Structure) (all : Bool) (P Q : ℕ → Type 0) (s n k : ℕ) → n ≤ k → Round m all false P Q n s → Round m all false P Q k s
rises_to m all P Q s n zero le h = let e : n ≡ zero = omega arith in subst (λ i. Round m all false P Q i s) e h
rises_to m all P Q s n (suc k) le h = elim (dec_le n k) [ yes l ↦ round_rises m all P Q k s (rises_to m all P Q s n k l h) | no g ↦ let e : n ≡ suc k = omega (arith, g) in subst (λ i. Round m all false P Q i s) e h ]

-- a round that says what all rounds say together
abbrev pub IsLast : Structure → Bool → Bool → (ℕ → Type 0) → (ℕ → Type 0) → ℕ → Type 0
IsLast m all true P Q k = (n s : ℕ) → s < length m.states → Round m all true P Q k s → Round m all true P Q n s
IsLast m all false P Q k = (n s : ℕ) → s < length m.states → Round m all false P Q n s → Round m all false P Q k s

weak_on : (m : Structure) → GoesOn m → (all : Bool) (P Q : ℕ → Type 0) (k : ℕ) → IsSettled (Round m all true P Q) (length m.states) k → (n s : ℕ) → s < length m.states → Round m all true P Q k s → Round m all true P Q n s
weak_on m on all P Q k settled zero s lt r = holds_earlier (λ i t. Round m all true P Q i t) s (λ i. round_falls m all P Q i s) zero k (omega arith) r
weak_on m on all P Q k settled (suc n) s lt r = stage_map m all P Q (Round m all true P Q k) (Round m all true P Q n) s (λ t step. weak_on m on all P Q k settled n t (reaches_within m on s t step)) (settled s lt r)

strong_on : (m : Structure) → GoesOn m → (all : Bool) (P Q : ℕ → Type 0) (k : ℕ) → ((s : ℕ) → s < length m.states → Round m all false P Q (suc k) s → Round m all false P Q k s) → (n s : ℕ) → s < length m.states → Round m all false P Q n s → Round m all false P Q k s
strong_on m on all P Q k settled zero s lt r = rises_to m all P Q s zero k (omega arith) r
strong_on m on all P Q k settled (suc n) s lt r = settled s lt (stage_map m all P Q (Round m all false P Q n) (Round m all false P Q k) s (λ t step. strong_on m on all P Q k settled n t (reaches_within m on s t step)) r)

-- after some round nothing changes
pub last_round : (m : Structure) → GoesOn m → (all weak : Bool) (P Q : ℕ → Type 0) → AreDecided m P Q → (k : ℕ) × IsLast m all weak P Q k
last_round m on all true P Q d = let u = falls_settle (Round m all true P Q) (length m.states) (decided_round m on all true P Q d) (λ k s _. round_falls m all P Q k s) 0 in (u.0, weak_on m on all P Q u.0 u.2)
last_round m on all false P Q d = let u = falls_settle (λ k s. Round m all false P Q k s → ⊥) (length m.states) (λ k s lt. decided_not (decided_round m on all false P Q d k s lt)) (λ k s _ none r. none (round_rises m all P Q k s r)) 0 in
    (u.0, strong_on m on all P Q u.0 (λ s lt. decided_stands (Round m all false P Q u.0 s) (Round m all false P Q (suc u.0) s) (decided_round m on all false P Q d u.0 s lt) (u.2 s lt)))

at_last : (m : Structure) (all weak : Bool) (P Q : ℕ → Type 0) (k s : ℕ) → s < length m.states → IsLast m all weak P Q k → Decided (Round m all weak P Q k s) → Decided (InRounds m all weak P Q s)
at_last m all true P Q k s lt last d = decided_iff (λ r n. last n s lt r) (λ h. h k) d
at_last m all false P Q k s lt last d = decided_iff (λ r. (k, r)) (λ h. last h.0 s lt h.1) d

pub decided_in_rounds : (m : Structure) → GoesOn m → (all weak : Bool) (P Q : ℕ → Type 0) → AreDecided m P Q → (s : ℕ) → s < length m.states → Decided (InRounds m all weak P Q s)
decided_in_rounds m on all weak P Q d s lt = let u = last_round m on all weak P Q d in at_last m all weak P Q u.0 s lt u.1 (decided_round m on all weak P Q d u.0 s lt)
