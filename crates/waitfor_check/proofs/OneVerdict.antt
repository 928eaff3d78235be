-- Two verdicts on one certificate are one.
use Rattle.std.proofs.Common.{ℕ, ◌≡◌, ◌<◌, ◌⊎◌, inl, inr, Option, Some, None, List, [], length, get_or, arith, refl, ap, sym, subst, All, Contains}
use Rattle.std.proofs.lemmas.Bool.{cases_order}
use Rattle.std.proofs.lemmas.List.Elements.{All-get_or, Contains-get_or}
use Rattle.pair_structure.specs.inside.FirstFailing.{IsFirstFailing}
use Rattle.conjunctive_compose.specs.System.{SystemParts, process_count}
use Rattle.waitfor_check.specs.declared.parts.StarPlace.{StarPlace}
use Rattle.waitfor_check.specs.declared.star.Star.{Star}
use Rattle.waitfor_check.specs.declared.step_place.StepPlace.{StepPlace}
use Rattle.waitfor_check.specs.declared.verdict.Verdict.{Verdict}
use Rattle.waitfor_check.specs.declared.verdict.Verdict.TheVariants.{Accepted, NoPeelAtStart, ShapeMissing, StartMissing, NotClosed, Waits}
use Rattle.waitfor_check.specs.Accepted.{HasStarts, IsAccepted, IsCalm, IsClosed}
use Rattle.waitfor_check.specs.Closed.{IsFirstUnclosed, steps_at}
use Rattle.waitfor_check.specs.Fitting.{Fits}
use Rattle.waitfor_check.specs.Parts.{HasShapesOf, IsFirstOf, no_star, star_at}
use Rattle.waitfor_check.specs.Star.{IsStarState}
use Rattle.waitfor_check.specs.Verdicts.{AreClosed, HasAllStarts, HasShapes, IsVerdict, OneVerdict, Peels}
use Rattle.waitfor_check.specs.Waits.{IsFirstWait, centre_steps_at}
use Rattle.waitfor_check.specs.inside.Fits.{IsFitting}
use Rattle.waitfor_check.proofs.FittingStars.{fitting_from}
use Rattle.waitfor_check.proofs.StepLists.{centre_to, steps_to}

-- of two numbers, neither of which is below the other
neither : (a b : ℕ) → (a < b → ⊥) → (b < a → ⊥) → a ≡ b
neither a b below above = elim (cases_order a b) [ inl same ↦ same | inr apart ↦ elim apart [ inl lt ↦ absurd (below lt) | inr gt ↦ absurd (above gt) ] ]

never_failing : (P : ℕ → Type 0) (n i : ℕ) → IsFirstFailing P n None → IsFirstFailing P n (Some i) → ⊥
never_failing P n i none first = first.1 (none i first.0)

failing_once : (P : ℕ → Type 0) (n i k : ℕ) → IsFirstFailing P n (Some i) → IsFirstFailing P n (Some k) → i ≡ k
failing_once P n i k a b = neither i k (λ lt. a.1 (b.2 i lt)) (λ lt. b.1 (a.2 k lt))

-- what is found in a star is found at one place
record FindsOnce (Finds : Star → Option StepPlace → Type 0) : Type 0 where
  pub never : (star : Star) (at : StepPlace) → Finds star None → Finds star (Some at) → ⊥
  pub once : (star : Star) (at bt : StepPlace) → Finds star (Some at) → Finds star (Some bt) → at ≡ bt

never_first : (Finds : Star → Option StepPlace → Type 0) → FindsOnce Finds → (stars : List Star) (at : StarPlace) → IsFirstOf Finds stars None → IsFirstOf Finds stars (Some at) → ⊥
never_first Finds finds stars at none first = finds.never (star_at stars at.star) at.place (none at.star first.0) first.1

first_once : (Finds : Star → Option StepPlace → Type 0) → FindsOnce Finds → (stars : List Star) (s t : ℕ) (p q : StepPlace) → IsFirstOf Finds stars (Some (record { star = s; place = p })) → IsFirstOf Finds stars (Some (record { star = t; place = q })) → (s ≡ t) × (p ≡ q)
first_once Finds finds stars s t p q a b =
    let same : s ≡ t = neither s t (λ lt. finds.never (star_at stars s) p (b.2 s lt) a.1) (λ lt. finds.never (star_at stars t) q (a.2 t lt) b.1) in
    (same, finds.once (star_at stars t) p q (subst (λ i. Finds (star_at stars i) (Some p)) same a.1) b.1)

place_same : (m n i k : ℕ) → m ≡ n → i ≡ k → ◌≡◌ {A = StepPlace} (record { member = m; step = i }) (record { member = n; step = k })
place_same m n i k a b = cc

unclosed_once : (sys : SystemParts) → FindsOnce (IsFirstUnclosed sys)
unclosed_once sys = record {
  never = λ star at none first. first.1.missing (none at.member first.0 at.step first.1.within);
  once = λ star at bt a b. once star at.member bt.member at.step bt.step a b;
}
  where
    once : (star : Star) (m n i k : ℕ) → IsFirstUnclosed sys star (Some (record { member = m; step = i })) → IsFirstUnclosed sys star (Some (record { member = n; step = k })) → ◌≡◌ {A = StepPlace} (record { member = m; step = i }) (record { member = n; step = k })
    once star m n i k a b =
        let member : m ≡ n = neither m n (λ lt. a.1.missing (b.2 m lt i a.1.within)) (λ lt. b.1.missing (a.2 n lt k b.1.within)) in
        let here = subst (λ x. IsFirstUnclosed sys star (Some (record { member = x; step = i }))) member a in
        place_same m n i k member (neither i k (λ lt. here.1.missing (b.1.first i lt)) (λ lt. b.1.missing (here.1.first k lt)))

wait_once : (sys : SystemParts) → FindsOnce (IsFirstWait sys)
wait_once sys = record {
  never = λ star at none first. first.1.waits (none at.member first.0 at.step first.1.within);
  once = λ star at bt a b. once star at.member bt.member at.step bt.step a b;
}
  where
    once : (star : Star) (m n i k : ℕ) → IsFirstWait sys star (Some (record { member = m; step = i })) → IsFirstWait sys star (Some (record { member = n; step = k })) → ◌≡◌ {A = StepPlace} (record { member = m; step = i }) (record { member = n; step = k })
    once star m n i k a b =
        let member : m ≡ n = neither m n (λ lt. a.1.waits (b.2 m lt i a.1.within)) (λ lt. b.1.waits (a.2 n lt k b.1.within)) in
        let here = subst (λ x. IsFirstWait sys star (Some (record { member = x; step = i }))) member a in
        place_same m n i k member (neither i k (λ lt. here.1.waits (b.1.first i lt)) (λ lt. b.1.waits (here.1.first k lt)))

-- a star that is closed has no step that reaches no member
stays_from : (sys : SystemParts) (star : Star) → IsFitting sys star → IsClosed sys star → IsFirstUnclosed sys star None
stays_from sys star fits closed member lt n within =
    let xs = get_or star.members member [] in
    let ys = get_or (steps_at sys star member) n [] in
    let state = All-get_or (IsStarState sys star.shape) star.members member [] lt fits.states in
    closed xs ys (Contains-get_or star.members member [] lt) (steps_to sys star.shape xs ys fits.some state (Contains-get_or (steps_at sys star member) n [] within))

-- a star that is calm has no centre step that is not
rests_from : (sys : SystemParts) (star : Star) → IsFitting sys star → IsCalm sys star → IsFirstWait sys star None
rests_from sys star fits calm member lt n within =
    let xs = get_or star.members member [] in
    let ys = get_or (centre_steps_at sys star member) n [] in
    let state = All-get_or (IsStarState sys star.shape) star.members member [] lt fits.states in
    let step = centre_to sys star.shape xs ys state (Contains-get_or (centre_steps_at sys star member) n [] within) in
    calm step.0 xs ys (Contains-get_or star.members member [] lt) step.1

-- of an accepted certificate all parts hold
closed_of : (sys : SystemParts) (stars : List Star) → All (IsFitting sys) stars → IsAccepted sys stars → AreClosed sys stars
closed_of sys stars fits accepted = (
  ((accepted.start, λ k lt some shape is. accepted.shapes k shape lt some is), λ i lt. All-get_or (HasStarts sys) stars i no_star lt accepted.starts),
  λ i lt. stays_from sys (star_at stars i) (All-get_or (IsFitting sys) stars i no_star lt fits) (All-get_or (IsClosed sys) stars i no_star lt accepted.closed),
)

calm_of : (sys : SystemParts) (stars : List Star) → All (IsFitting sys) stars → IsAccepted sys stars → IsFirstOf (IsFirstWait sys) stars None
calm_of sys stars fits accepted i lt = rests_from sys (star_at stars i) (All-get_or (IsFitting sys) stars i no_star lt fits) (All-get_or (IsCalm sys) stars i no_star lt accepted.calm)

module _ (sys : SystemParts) (stars : List Star) where
  -- one part holds and does not hold
  no_shape : (k : ℕ) → HasShapes sys stars → IsFirstFailing (HasShapesOf sys stars) (process_count sys) (Some k) → ⊥
  no_shape k all first = never_failing (HasShapesOf sys stars) (process_count sys) k all.1 first

  no_start : (s : ℕ) → HasAllStarts sys stars → IsFirstFailing (λ star. HasStarts sys (star_at stars star)) (length stars) (Some s) → ⊥
  no_start s all first = never_failing (λ star. HasStarts sys (star_at stars star)) (length stars) s all.1 first

  no_closed : (at : StarPlace) → AreClosed sys stars → IsFirstOf (IsFirstUnclosed sys) stars (Some at) → ⊥
  no_closed at all first = never_first (IsFirstUnclosed sys) (unclosed_once sys) stars at all.1 first

  no_wait : (at : StarPlace) → IsFirstOf (IsFirstWait sys) stars None → IsFirstOf (IsFirstWait sys) stars (Some at) → ⊥
  no_wait at all first = never_first (IsFirstWait sys) (wait_once sys) stars at all first

  -- where a certificate is accepted, no other verdict is one
  accepted_once : All (IsFitting sys) stars → IsAccepted sys stars → (other : Verdict) → IsVerdict sys stars other → Accepted ≡ other
  accepted_once fits accepted Accepted h = refl
  accepted_once fits accepted NoPeelAtStart h = absurd (h accepted.start)
  accepted_once fits accepted (ShapeMissing k) h = absurd (no_shape k (closed_of sys stars fits accepted).0.0 h.1)
  accepted_once fits accepted (StartMissing s) h = absurd (no_start s (closed_of sys stars fits accepted).0 h.1)
  accepted_once fits accepted (NotClosed s m i) h = absurd (no_closed _ (closed_of sys stars fits accepted) h.1)
  accepted_once fits accepted (Waits s m i) h = absurd (no_wait _ (calm_of sys stars fits accepted) h.1)

  closed_same : (s t m n i k : ℕ) → (s ≡ t) × (◌≡◌ {A = StepPlace} (record { member = m; step = i }) (record { member = n; step = k })) → NotClosed s m i ≡ NotClosed t n k
  closed_same s t m n i k same = let a = same.0 in let b = ap (λ (p : StepPlace). p.member) same.1 in let c = ap (λ (p : StepPlace). p.step) same.1 in cc

  waits_same : (s t m n i k : ℕ) → (s ≡ t) × (◌≡◌ {A = StepPlace} (record { member = m; step = i }) (record { member = n; step = k })) → Waits s m i ≡ Waits t n k
  waits_same s t m n i k same = let a = same.0 in let b = ap (λ (p : StepPlace). p.member) same.1 in let c = ap (λ (p : StepPlace). p.step) same.1 in cc

  by_cases : All (IsFitting sys) stars → (one other : Verdict) → IsVerdict sys stars one → IsVerdict sys stars other → one ≡ other
  by_cases fits Accepted other a b = accepted_once fits a other b
  by_cases fits NoPeelAtStart Accepted a b = sym (accepted_once fits b NoPeelAtStart a)
  by_cases fits (ShapeMissing k) Accepted a b = sym (accepted_once fits b (ShapeMissing k) a)
  by_cases fits (StartMissing s) Accepted a b = sym (accepted_once fits b (StartMissing s) a)
  by_cases fits (NotClosed s m i) Accepted a b = sym (accepted_once fits b (NotClosed s m i) a)
  by_cases fits (Waits s m i) Accepted a b = sym (accepted_once fits b (Waits s m i) a)
  by_cases fits NoPeelAtStart NoPeelAtStart a b = refl
  by_cases fits NoPeelAtStart (ShapeMissing k) a b = absurd (a b.0)
  by_cases fits NoPeelAtStart (StartMissing s) a b = absurd (a b.0.0)
  by_cases fits NoPeelAtStart (NotClosed s m i) a b = absurd (a b.0.0.0)
  by_cases fits NoPeelAtStart (Waits s m i) a b = absurd (a b.0.0.0.0)
  by_cases fits (ShapeMissing k) NoPeelAtStart a b = absurd (b a.0)
  by_cases fits (ShapeMissing k) (ShapeMissing j) a b = ap ShapeMissing (failing_once (HasShapesOf sys stars) (process_count sys) k j a.1 b.1)
  by_cases fits (ShapeMissing k) (StartMissing s) a b = absurd (no_shape k b.0 a.1)
  by_cases fits (ShapeMissing k) (NotClosed s m i) a b = absurd (no_shape k b.0.0 a.1)
  by_cases fits (ShapeMissing k) (Waits s m i) a b = absurd (no_shape k b.0.0.0 a.1)
  by_cases fits (StartMissing s) NoPeelAtStart a b = absurd (b a.0.0)
  by_cases fits (StartMissing s) (ShapeMissing k) a b = absurd (no_shape k a.0 b.1)
  by_cases fits (StartMissing s) (StartMissing t) a b = ap StartMissing (failing_once (λ star. HasStarts sys (star_at stars star)) (length stars) s t a.1 b.1)
  by_cases fits (StartMissing s) (NotClosed t m i) a b = absurd (no_start s b.0 a.1)
  by_cases fits (StartMissing s) (Waits t m i) a b = absurd (no_start s b.0.0 a.1)
  by_cases fits (NotClosed s m i) NoPeelAtStart a b = absurd (b a.0.0.0)
  by_cases fits (NotClosed s m i) (ShapeMissing k) a b = absurd (no_shape k a.0.0 b.1)
  by_cases fits (NotClosed s m i) (StartMissing t) a b = absurd (no_start t a.0 b.1)
  by_cases fits (NotClosed s m i) (NotClosed t n k) a b = closed_same s t m n i k (first_once (IsFirstUnclosed sys) (unclosed_once sys) stars s t _ _ a.1 b.1)
  by_cases fits (NotClosed s m i) (Waits t n k) a b = absurd (no_closed _ b.0 a.1)
  by_cases fits (Waits s m i) NoPeelAtStart a b = absurd (b a.0.0.0.0)
  by_cases fits (Waits s m i) (ShapeMissing k) a b = absurd (no_shape k a.0.0.0 b.1)
  by_cases fits (Waits s m i) (StartMissing t) a b = absurd (no_start t a.0.0 b.1)
  by_cases fits (Waits s m i) (NotClosed t n k) a b = absurd (no_closed _ a.0 b.1)
  by_cases fits (Waits s m i) (Waits t n k) a b = waits_same s t m n i k (first_once (IsFirstWait sys) (wait_once sys) stars s t _ _ a.1 b.1)

pub one_verdict : OneVerdict
one_verdict sys stars one other fits = by_cases sys stars (fitting_from sys stars fits) one other
