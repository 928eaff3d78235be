-- The opposite of an until is an until of the other strength over the other choice of paths.
use Rattle.std.proofs.Common.{ℕ, zero, suc, ◌⊎◌, ◌<◌, ◌↔◌, inl, inr, Bool, true, false, not, length}
use Rattle.pair_structure.specs.Structure.{Structure, Reaches, GoesOn}
use Rattle.ctl_form.specs.Truth.{AlongPaths}
use Rattle.ctl_form.specs.Rounds.{AfterMove, Outset, Round, InRounds}
use Rattle.ctl_form.proofs.Decided.{Decided, each_or_some, decided_not, decided_both, decided_iff}
use Rattle.ctl_form.proofs.Moves.{reaches_within, decided_reaches, after_map}
use Rattle.ctl_form.proofs.Rounds.{AreDecided, decided_round, last_round}
use Rattle.ctl_form.proofs.Along.{along_to, along_from}

-- P' says that Q fails, and Q' that both fail
pub record AreOpposed (m : Structure) (P Q P' Q' : ℕ → Type 0) : Type 0 where
  pub first : (t : ℕ) → t < length m.states → P' t ↔ (Q t → ⊥)
  pub second : (t : ℕ) → t < length m.states → Q' t ↔ ((P t → ⊥) × (Q t → ⊥))

outset_to : (weak : Bool) (P Q P' Q' : Type 0) → P' ↔ (Q → ⊥) → Q' ↔ ((P → ⊥) × (Q → ⊥)) → (Outset weak P Q → ⊥) → Outset (not weak) P' Q'
outset_to true P Q P' Q' p q h = q.1 (λ x. h (inl x), λ y. h (inr y))
outset_to false P Q P' Q' p q h = inl (p.1 h)

outset_from : (weak : Bool) (P Q P' Q' : Type 0) → P' ↔ (Q → ⊥) → Q' ↔ ((P → ⊥) × (Q → ⊥)) → Outset (not weak) P' Q' → Outset weak P Q → ⊥
outset_from true P Q P' Q' p q h (inl x) = (q.0 h).0 x
outset_from true P Q P' Q' p q h (inr y) = (q.0 h).1 y
outset_from false P Q P' Q' p q (inl h) y = p.0 h y
outset_from false P Q P' Q' p q (inr h) y = (q.0 h).1 y

after_to : (m : Structure) → GoesOn m → (all : Bool) (X : ℕ → Type 0) → ((t : ℕ) → t < length m.states → Decided (X t)) → (s : ℕ) → (AfterMove m all X s → ⊥) → AfterMove m (not all) (λ t. X t → ⊥) s
after_to m on true X x s h = elim (each_or_some (length m.states) (Reaches m s) X (reaches_within m on s) (decided_reaches m s) x) [ inl each ↦ absurd (h each) | inr some ↦ some ]
after_to m on false X x s h = λ t step y. h (t, step, y)

after_from : (m : Structure) (all : Bool) (X : ℕ → Type 0) (s : ℕ) → AfterMove m (not all) (λ t. X t → ⊥) s → AfterMove m all X s → ⊥
after_from m true X s h k = h.2 (k h.0 h.1)
after_from m false X s h k = h k.0 k.1 k.2

module _ (m : Structure) (on : GoesOn m) (all weak : Bool) (P Q P' Q' : ℕ → Type 0) (d : AreDecided m P Q) (o : AreOpposed m P Q P' Q') where
  stage_to : (X X' : ℕ → Type 0) → ((t : ℕ) → t < length m.states → Decided (X t)) → ((t : ℕ) → t < length m.states → (X t → ⊥) → X' t) → (s : ℕ) → s < length m.states → (Q s ⊎ (P s × AfterMove m all X s) → ⊥) → Q' s ⊎ (P' s × AfterMove m (not all) X' s)
  stage_to X X' x to s lt h = elim (d.first s lt) [ inl p ↦ inr ((o.first s lt).1 (λ q. h (inl q)), after_map m (not all) (λ t. X t → ⊥) X' s (λ t step. to t (reaches_within m on s t step)) (after_to m on all X x s (λ k. h (inr (p, k))))) | inr np ↦ inl ((o.second s lt).1 (np, λ q. h (inl q))) ]

  stage_from : (X X' : ℕ → Type 0) → ((t : ℕ) → t < length m.states → X' t → X t → ⊥) → (s : ℕ) → s < length m.states → Q' s ⊎ (P' s × AfterMove m (not all) X' s) → Q s ⊎ (P s × AfterMove m all X s) → ⊥
  stage_from X X' from s lt (inl q') (inl q) = ((o.second s lt).0 q').1 q
  stage_from X X' from s lt (inl q') (inr h) = ((o.second s lt).0 q').0 h.0
  stage_from X X' from s lt (inr h') (inl q) = (o.first s lt).0 h'.0 q
  stage_from X X' from s lt (inr h') (inr h) = after_from m all X s (after_map m (not all) X' (λ t. X t → ⊥) s (λ t step. from t (reaches_within m on s t step)) h'.1) h.1

  pub round_to : (n s : ℕ) → s < length m.states → (Round m all weak P Q n s → ⊥) → Round m (not all) (not weak) P' Q' n s
  round_to zero s lt h = outset_to weak (P s) (Q s) (P' s) (Q' s) (o.first s lt) (o.second s lt) h
  round_to (suc n) s lt h = stage_to (Round m all weak P Q n) (Round m (not all) (not weak) P' Q' n) (decided_round m on all weak P Q d n) (round_to n) s lt h

  pub round_from : (n s : ℕ) → s < length m.states → Round m (not all) (not weak) P' Q' n s → Round m all weak P Q n s → ⊥
  round_from zero s lt h = outset_from weak (P s) (Q s) (P' s) (Q' s) (o.first s lt) (o.second s lt) h
  round_from (suc n) s lt h = stage_from (Round m all weak P Q n) (Round m (not all) (not weak) P' Q' n) (round_from n) s lt h

rounds_to : (m : Structure) → GoesOn m → (all weak : Bool) (P Q P' Q' : ℕ → Type 0) → AreDecided m P Q → AreOpposed m P Q P' Q' → (s : ℕ) → s < length m.states → (InRounds m all weak P Q s → ⊥) → InRounds m (not all) (not weak) P' Q' s
rounds_to m on all true P Q P' Q' d o s lt h = let u = last_round m on all true P Q d in (u.0, round_to m on all true P Q P' Q' d o u.0 s lt (λ r. h (λ n. u.1 n s lt r)))
rounds_to m on all false P Q P' Q' d o s lt h = λ n. round_to m on all false P Q P' Q' d o n s lt (λ r. h (n, r))

rounds_from : (m : Structure) → GoesOn m → (all weak : Bool) (P Q P' Q' : ℕ → Type 0) → AreDecided m P Q → AreOpposed m P Q P' Q' → (s : ℕ) → s < length m.states → InRounds m (not all) (not weak) P' Q' s → InRounds m all weak P Q s → ⊥
rounds_from m on all true P Q P' Q' d o s lt h' h = round_from m on all true P Q P' Q' d o h'.0 s lt h'.1 (h h'.0)
rounds_from m on all false P Q P' Q' d o s lt h' h = round_from m on all false P Q P' Q' d o h.0 s lt (h' h.0) h.1

opposed_decided : (m : Structure) (P Q P' Q' : ℕ → Type 0) → AreDecided m P Q → AreOpposed m P Q P' Q' → AreDecided m P' Q'
opposed_decided m P Q P' Q' d o = record { first = λ t lt. decided_iff (o.first t lt).1 (o.first t lt).0 (decided_not (d.second t lt)); second = λ t lt. decided_iff (o.second t lt).1 (o.second t lt).0 (decided_both (decided_not (d.first t lt)) (decided_not (d.second t lt))) }

-- the opposite holds exactly where the until does not
pub along_opposed : (m : Structure) → GoesOn m → (all weak : Bool) (P Q P' Q' : ℕ → Type 0) → AreDecided m P Q → AreOpposed m P Q P' Q' → (s : ℕ) → s < length m.states → AlongPaths m (not all) (not weak) P' Q' s ↔ (AlongPaths m all weak P Q s → ⊥)
along_opposed m on all weak P Q P' Q' d o s lt = (λ h' h. rounds_from m on all weak P Q P' Q' d o s lt (along_to m on (not all) (not weak) P' Q' (opposed_decided m P Q P' Q' d o) s lt h') (along_to m on all weak P Q d s lt h), λ none. along_from m on (not all) (not weak) P' Q' s lt (rounds_to m on all weak P Q P' Q' d o s lt (λ r. none (along_from m on all weak P Q s lt r))))

-- an until depends only on its parts at the states
pub record AreSame (m : Structure) (P Q P' Q' : ℕ → Type 0) : Type 0 where
  pub first : (t : ℕ) → t < length m.states → P' t ↔ P t
  pub second : (t : ℕ) → t < length m.states → Q' t ↔ Q t

outset_map : (weak : Bool) (P Q P' Q' : Type 0) → (P → P') → (Q → Q') → Outset weak P Q → Outset weak P' Q'
outset_map true P Q P' Q' p q (inl x) = inl (p x)
outset_map true P Q P' Q' p q (inr y) = inr (q y)
outset_map false P Q P' Q' p q h = q h

round_map : (m : Structure) → GoesOn m → (all weak : Bool) (P Q P' Q' : ℕ → Type 0) → ((t : ℕ) → t < length m.states → P t → P' t) → ((t : ℕ) → t < length m.states → Q t → Q' t) → (n s : ℕ) → s < length m.states → Round m all weak P Q n s → Round m all weak P' Q' n s
round_map m on all weak P Q P' Q' p q zero s lt h = outset_map weak (P s) (Q s) (P' s) (Q' s) (p s lt) (q s lt) h
round_map m on all weak P Q P' Q' p q (suc n) s lt (inl h) = inl (q s lt h)
round_map m on all weak P Q P' Q' p q (suc n) s lt (inr h) = inr (p s lt h.0, after_map m all (Round m all weak P Q n) (Round m all weak P' Q' n) s (λ t step. round_map m on all weak P Q P' Q' p q n t (reaches_within m on s t step)) h.1)

pub rounds_map : (m : Structure) → GoesOn m → (all weak : Bool) (P Q P' Q' : ℕ → Type 0) → ((t : ℕ) → t < length m.states → P t → P' t) → ((t : ℕ) → t < length m.states → Q t → Q' t) → (s : ℕ) → s < length m.states → InRounds m all weak P Q s → InRounds m all weak P' Q' s
rounds_map m on all true P Q P' Q' p q s lt h = λ n. round_map m on all true P Q P' Q' p q n s lt (h n)
rounds_map m on all false P Q P' Q' p q s lt h = (h.0, round_map m on all false P Q P' Q' p q h.0 s lt h.1)

pub same_along : (m : Structure) → GoesOn m → (all weak : Bool) (P Q P' Q' : ℕ → Type 0) → AreDecided m P Q → AreSame m P Q P' Q' → (s : ℕ) → s < length m.states → AlongPaths m all weak P' Q' s ↔ AlongPaths m all weak P Q s
same_along m on all weak P Q P' Q' d e s lt = (λ h. along_from m on all weak P Q s lt (rounds_map m on all weak P' Q' P Q (λ t l. (e.first t l).0) (λ t l. (e.second t l).0) s lt (along_to m on all weak P' Q' d' s lt h)), λ h. along_from m on all weak P' Q' s lt (rounds_map m on all weak P Q P' Q' (λ t l. (e.first t l).1) (λ t l. (e.second t l).1) s lt (along_to m on all weak P Q d s lt h)))
  where
    d' : AreDecided m P' Q'
    d' = record { first = λ t l. decided_iff (e.first t l).1 (e.first t l).0 (d.first t l); second = λ t l. decided_iff (e.second t l).1 (e.second t l).0 (d.second t l) }
