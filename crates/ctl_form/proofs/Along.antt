-- What holds along paths holds in rounds, and the other way round.
use Rattle.std.proofs.Common.{ℕ, zero, suc, ◌≡◌, ◌⊎◌, ◌<◌, inl, inr, Bool, true, false, List, [], ◌∷◌, arith, refl, length, ap}
use Rattle.pair_structure.specs.Structure.{Structure, GoesOn}
use Rattle.ctl_form.specs.Path.{IsPath, LastAfter, SomeAfter, EachUnless, SomePathUntil, EachPathUnless}
use Rattle.ctl_form.specs.Truth.{AlongPaths}
use Rattle.ctl_form.specs.Rounds.{Round, InRounds}
use Rattle.ctl_form.proofs.Moves.{reaches_within}
use Rattle.ctl_form.proofs.Rounds.{AreDecided}

abbrev LongPath : Structure → ℕ → ℕ → Type 0
LongPath m n s = (later : List ℕ) × (length later ≡ n) × IsPath m s later

pub long_path : (m : Structure) → GoesOn m → (n s : ℕ) → s < length m.states → LongPath m n s
long_path m on zero s lt = ([], refl, tt)
long_path m on (suc n) s lt = let u = on.onward s lt in let v = long_path m on n u.0 (reaches_within m on s u.0 u.1) in (u.0 ∷ v.0, ap suc v.1, (u.1, v.2))

-- E[P U Q]
some_until_to : (m : Structure) (P Q : ℕ → Type 0) (s : ℕ) (later : List ℕ) → IsPath m s later → LastAfter P Q s later → InRounds m false false P Q s
some_until_to m P Q s [] path q = (0, q)
some_until_to m P Q s (t ∷ later) path h = let r = some_until_to m P Q t later path.1 h.1 in (suc r.0, inr (h.0, (t, path.0, r.1)))

some_until_from : (m : Structure) (P Q : ℕ → Type 0) (n s : ℕ) → Round m false false P Q n s → SomePathUntil m P Q s
some_until_from m P Q zero s q = ([], tt, q)
some_until_from m P Q (suc n) s (inl q) = ([], tt, q)
some_until_from m P Q (suc n) s (inr h) = let u = some_until_from m P Q n h.1.0 h.1.2 in (h.1.0 ∷ u.0, (h.1.1, u.1), (h.0, u.2))

-- A[P U Q]
met_at_once : (P Q : ℕ → Type 0) (s : ℕ) (later : List ℕ) → Q s → SomeAfter P Q s later
met_at_once P Q s [] q = q
met_at_once P Q s (t ∷ later) q = inl q

each_until_from : (m : Structure) (P Q : ℕ → Type 0) (n s : ℕ) → Round m true false P Q n s → (later : List ℕ) → length later ≡ n → IsPath m s later → SomeAfter P Q s later
each_until_from m P Q zero s q later e path = met_at_once P Q s later q
each_until_from m P Q (suc n) s (inl q) later e path = met_at_once P Q s later q
each_until_from m P Q (suc n) s (inr h) [] e path = absurd (omega (arith, e))
each_until_from m P Q (suc n) s (inr h) (t ∷ later) e path = inr (h.0, each_until_from m P Q n t (h.1 t path.0) later (omega (arith, e)) path.1)

-- where Q is not met now
now_first : (P Q : ℕ → Type 0) (s t : ℕ) (later : List ℕ) → (Q s → ⊥) → SomeAfter P Q s (t ∷ later) → P s × SomeAfter P Q t later
now_first P Q s t later none (inl q) = absurd (none q)
now_first P Q s t later none (inr h) = h

each_until_to : (m : Structure) → GoesOn m → (P Q : ℕ → Type 0) → AreDecided m P Q → (n s : ℕ) → s < length m.states → ((later : List ℕ) → length later ≡ n → IsPath m s later → SomeAfter P Q s later) → Round m true false P Q n s
each_until_to m on P Q d zero s lt h = h [] refl tt
each_until_to m on P Q d (suc n) s lt h = elim (d.second s lt) [ inl q ↦ inl q | inr none ↦ inr (first none, λ t step. each_until_to m on P Q d n t (reaches_within m on s t step) (λ later e path. (now_first P Q s t later none (h (t ∷ later) (ap suc e) (step, path))).1)) ]
  where
    first : (Q s → ⊥) → P s
    first none = let u = on.onward s lt in let v = long_path m on n u.0 (reaches_within m on s u.0 u.1) in (now_first P Q s u.0 v.0 none (h (u.0 ∷ v.0) (ap suc v.1) (u.1, v.2))).0

-- A[P W Q]
each_unless_from : (m : Structure) (P Q : ℕ → Type 0) (n s : ℕ) → Round m true true P Q n s → (later : List ℕ) → length later ≡ n → IsPath m s later → EachUnless P Q s later
each_unless_from m P Q zero s h [] e path = h
each_unless_from m P Q zero s h (t ∷ later) e path = absurd (omega (arith, e))
each_unless_from m P Q (suc n) s h [] e path = absurd (omega (arith, e))
each_unless_from m P Q (suc n) s (inl q) (t ∷ later) e path = inl q
each_unless_from m P Q (suc n) s (inr h) (t ∷ later) e path = inr (h.0, each_unless_from m P Q n t (h.1 t path.0) later (omega (arith, e)) path.1)

unless_first : (P Q : ℕ → Type 0) (s : ℕ) → (Q s → ⊥) → P s ⊎ Q s → P s
unless_first P Q s none (inl p) = p
unless_first P Q s none (inr q) = absurd (none q)

unless_later : (P Q : ℕ → Type 0) (s t : ℕ) (later : List ℕ) → (Q s → ⊥) → EachUnless P Q s (t ∷ later) → EachUnless P Q t later
unless_later P Q s t later none (inl q) = absurd (none q)
unless_later P Q s t later none (inr h) = h.1

each_unless_to : (m : Structure) → GoesOn m → (P Q : ℕ → Type 0) → AreDecided m P Q → (n s : ℕ) → s < length m.states → EachPathUnless m P Q s → Round m true true P Q n s
each_unless_to m on P Q d zero s lt h = h [] tt
each_unless_to m on P Q d (suc n) s lt h = elim (d.second s lt) [ inl q ↦ inl q | inr none ↦ inr (unless_first P Q s none (h [] tt), λ t step. each_unless_to m on P Q d n t (reaches_within m on s t step) (λ later path. unless_later P Q s t later none (h (t ∷ later) (step, path)))) ]

-- E[P W Q]
some_unless_to : (m : Structure) (P Q : ℕ → Type 0) (n s : ℕ) (later : List ℕ) → length later ≡ n → IsPath m s later → EachUnless P Q s later → Round m false true P Q n s
some_unless_to m P Q zero s [] e path h = h
some_unless_to m P Q zero s (t ∷ later) e path h = absurd (omega (arith, e))
some_unless_to m P Q (suc n) s [] e path h = absurd (omega (arith, e))
some_unless_to m P Q (suc n) s (t ∷ later) e path (inl q) = inl q
some_unless_to m P Q (suc n) s (t ∷ later) e path (inr h) = inr (h.0, (t, path.0, some_unless_to m P Q n t later (omega (arith, e)) path.1 h.1))

abbrev SomeUnless : Structure → (ℕ → Type 0) → (ℕ → Type 0) → ℕ → ℕ → Type 0
SomeUnless m P Q n s = (later : List ℕ) × (length later ≡ n) × IsPath m s later × EachUnless P Q s later

some_unless_from : (m : Structure) → GoesOn m → (P Q : ℕ → Type 0) (n s : ℕ) → s < length m.states → Round m false true P Q n s → SomeUnless m P Q n s
some_unless_from m on P Q zero s lt h = ([], refl, tt, h)
some_unless_from m on P Q (suc n) s lt (inl q) = let u = on.onward s lt in let v = long_path m on n u.0 (reaches_within m on s u.0 u.1) in (u.0 ∷ v.0, ap suc v.1, (u.1, v.2), inl q)
some_unless_from m on P Q (suc n) s lt (inr h) = let v = some_unless_from m on P Q n h.1.0 (reaches_within m on s h.1.0 h.1.1) h.1.2 in (h.1.0 ∷ v.0, ap suc v.1, (h.1.1, v.2), inr (h.0, v.3))

pub along_to : (m : Structure) → GoesOn m → (all weak : Bool) (P Q : ℕ → Type 0) → AreDecided m P Q → (s : ℕ) → s < length m.states → AlongPaths m all weak P Q s → InRounds m all weak P Q s
along_to m on true true P Q d s lt h = λ n. each_unless_to m on P Q d n s lt h
along_to m on true false P Q d s lt h = (h.0, each_until_to m on P Q d h.0 s lt h.1)
along_to m on false true P Q d s lt h = λ n. let u = h n in some_unless_to m P Q n s u.0 u.1 u.2 u.3
along_to m on false false P Q d s lt h = some_until_to m P Q s h.0 h.1 h.2

pub along_from : (m : Structure) → GoesOn m → (all weak : Bool) (P Q : ℕ → Type 0) (s : ℕ) → s < length m.states → InRounds m all weak P Q s → AlongPaths m all weak P Q s
along_from m on true true P Q s lt h = λ later path. each_unless_from m P Q (length later) s (h (length later)) later refl path
along_from m on true false P Q s lt h = (h.0, each_until_from m P Q h.0 s h.1)
along_from m on false true P Q s lt h = λ n. some_unless_from m on P Q n s lt (h n)
along_from m on false false P Q s lt h = some_until_from m P Q h.0 s h.1
