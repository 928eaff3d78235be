-- A strong until is the least property that its stages keep, a weak one the greatest.
use Rattle.std.proofs.Common.{ℕ, zero, suc, ◌⊎◌, ◌<◌, ◌↔◌, inl, inr, Bool, true, false, length}
use Rattle.pair_structure.specs.Structure.{Structure, GoesOn}
use Rattle.ctl_form.specs.Truth.{AlongPaths}
use Rattle.ctl_form.specs.Rounds.{Round, InRounds}
use Rattle.ctl_form.proofs.Moves.{reaches_within}
use Rattle.ctl_form.proofs.Rounds.{AreDecided, last_round, Stage, stage_map}
use Rattle.ctl_form.proofs.Along.{along_to, along_from}

-- a property that has what Q has, and what P has whose moves lead to it, has the strong until
pub round_least : (m : Structure) → GoesOn m → (all : Bool) (P Q X : ℕ → Type 0) → ((s : ℕ) → s < length m.states → Stage m all P Q X s → X s) → (n s : ℕ) → s < length m.states → Round m all false P Q n s → X s
round_least m on all P Q X h zero s lt q = h s lt (inl q)
round_least m on all P Q X h (suc n) s lt r = h s lt (stage_map m all P Q (Round m all false P Q n) X s (λ t step. round_least m on all P Q X h n t (reaches_within m on s t step)) r)

outset_of : (m : Structure) (all : Bool) (P Q X : ℕ → Type 0) (s : ℕ) → Stage m all P Q X s → P s ⊎ Q s
outset_of m all P Q X s (inl q) = inr q
outset_of m all P Q X s (inr h) = inl h.0

pub round_greatest : (m : Structure) → GoesOn m → (all : Bool) (P Q X : ℕ → Type 0) → ((s : ℕ) → s < length m.states → X s → Stage m all P Q X s) → (n s : ℕ) → s < length m.states → X s → Round m all true P Q n s
round_greatest m on all P Q X h zero s lt x = outset_of m all P Q X s (h s lt x)
round_greatest m on all P Q X h (suc n) s lt x = stage_map m all P Q X (Round m all true P Q n) s (λ t step. round_greatest m on all P Q X h n t (reaches_within m on s t step)) (h s lt x)

-- both kinds are what their stage says of them
pub stage_out : (m : Structure) → GoesOn m → (all weak : Bool) (P Q : ℕ → Type 0) → AreDecided m P Q → (s : ℕ) → s < length m.states → InRounds m all weak P Q s → Stage m all P Q (InRounds m all weak P Q) s
stage_out m on all true P Q d s lt h = let u = last_round m on all true P Q d in stage_map m all P Q (Round m all true P Q u.0) (InRounds m all true P Q) s (λ t step r n. u.1 n t (reaches_within m on s t step) r) (h (suc u.0))
stage_out m on all false P Q d s lt h = out h.0 h.1
  where
    out : (n : ℕ) → Round m all false P Q n s → Stage m all P Q (InRounds m all false P Q) s
    out zero q = inl q
    out (suc n) r = stage_map m all P Q (Round m all false P Q n) (InRounds m all false P Q) s (λ t step r. (n, r)) r

pub stage_in : (m : Structure) → GoesOn m → (all weak : Bool) (P Q : ℕ → Type 0) → AreDecided m P Q → (s : ℕ) → s < length m.states → Stage m all P Q (InRounds m all weak P Q) s → InRounds m all weak P Q s
stage_in m on all true P Q d s lt h = weak_in
  where
    weak_in : (n : ℕ) → Round m all true P Q n s
    weak_in zero = outset_of m all P Q (InRounds m all true P Q) s h
    weak_in (suc n) = stage_map m all P Q (InRounds m all true P Q) (Round m all true P Q n) s (λ t step r. r n) h
stage_in m on all false P Q d s lt h = let u = last_round m on all false P Q d in (suc u.0, stage_map m all P Q (InRounds m all false P Q) (Round m all false P Q u.0) s (λ t step r. u.1 r.0 t (reaches_within m on s t step) r.1) h)

-- the same for paths: an until holds exactly where its second part does, or its first and it after each move, or some
pub along_unfolds : (m : Structure) → GoesOn m → (all weak : Bool) (P Q : ℕ → Type 0) → AreDecided m P Q → (s : ℕ) → s < length m.states → AlongPaths m all weak P Q s ↔ Stage m all P Q (AlongPaths m all weak P Q) s
along_unfolds m on all weak P Q d s lt = (
  λ h. stage_map m all P Q (InRounds m all weak P Q) (AlongPaths m all weak P Q) s (λ t step. along_from m on all weak P Q t (reaches_within m on s t step)) (stage_out m on all weak P Q d s lt (along_to m on all weak P Q d s lt h)),
  λ h. along_from m on all weak P Q s lt (stage_in m on all weak P Q d s lt (stage_map m all P Q (AlongPaths m all weak P Q) (InRounds m all weak P Q) s (λ t step. along_to m on all weak P Q d t (reaches_within m on s t step)) h)),
)

-- what a labelling has to show: what it marks is true, and no stage adds a mark
pub record IsClosedLabel (m : Structure) (all : Bool) (P Q X : ℕ → Type 0) : Type 0 where
  pub sound : (s : ℕ) → s < length m.states → X s → AlongPaths m all false P Q s
  pub closed : (s : ℕ) → s < length m.states → Stage m all P Q X s → X s

pub label_along : (m : Structure) → GoesOn m → (all : Bool) (P Q X : ℕ → Type 0) → AreDecided m P Q → IsClosedLabel m all P Q X → (s : ℕ) → s < length m.states → X s ↔ AlongPaths m all false P Q s
label_along m on all P Q X d l s lt = (l.sound s lt, λ h. let r = along_to m on all false P Q d s lt h in round_least m on all P Q X l.closed r.0 s lt r.1)
