-- Where refining begins, and why it ends.
use Rattle.std.proofs.Common.{ℕ, zero, suc, ◌≡◌, ◌≢◌, ◌↔◌, ◌⊎◌, ◌<◌, ◌≤◌, ◌+◌, ◌-◌, ◌*◌, inl, inr, Bool, true, false, List, [], ◌∷◌, length, replicate, min, All, Contains, slice_index, slice_index_or, arith, refl, sym, ◌∙◌, subst, ap}
use Rattle.std.specs.List.{list_any}
use Rattle.std.specs.Cmp.{nat_eq_equiv}
use Rattle.std.proofs.Common.{eqb}
use Rattle.std.proofs.lemmas.Bool.{eq-eqb, eqb-true}
use Rattle.std.proofs.lemmas.List.{get_or_default, length-replicate}
use Rattle.std.proofs.lemmas.Map.Views.{list_any-from_Contains}
use Rattle.std.proofs.Math.Decide.{ℕ_discrete}
use Rattle.std.proofs.lemmas.Map.Steps.{le-length_from_below}
use Rattle.std.proofs.lemmas.Option.{same_Some, slice_get-get_or}
use Rattle.pair_structure.specs.Structure.{Structure, label_at}
use Rattle.pair_quotient.specs.Bisimulation.{IsBisimulation, Told}
use Rattle.pair_quotient.specs.inside.Refining.{AreBlocks, AreRefined, AreWaiting, IsSettled}

none_settled : (n s : ℕ) → slice_index_or (replicate n false) s false ≡ true → ⊥
none_settled zero s e = let h : false ≡ true = e in cc
none_settled (suc n) zero e = let h : false ≡ true = e in cc
none_settled (suc n) (suc s) e = none_settled n s e

pub AreRefined-outset : (m : Structure) (classes leaders : List ℕ) (members : List (List ℕ)) (settled : List Bool) (waiting : List ℕ) → AreBlocks (length m.states) classes leaders members
    → ((s t : ℕ) → s < length m.states → t < length m.states → slice_index classes s ≡ slice_index classes t ↔ label_at m.states s ≡ label_at m.states t)
    → settled ≡ replicate (length m.states) false → length settled ≡ length m.states → All (λ s. s < length m.states) waiting → ((s : ℕ) → s < length m.states → Contains waiting s) → AreRefined m classes leaders members settled waiting
AreRefined-outset m classes leaders members settled waiting blocks same none long within each = record {
  partition = record { long = blocks.long; labels = λ s t ls lt e. (same s t ls lt).0 e; lasting = λ test b s t ls lt r. (same s t ls lt).1 (labels test b s t ls lt r) };
  blocks = blocks;
  calm = record { matched = λ s t ls lt is it e. absurd (none_settled (length m.states) s (ap (λ l. slice_index_or l s false) (sym none) ∙ is)) };
  waits = record { long = long; states = within; each = λ s lt not_so. each s lt };
}
  where
    labels : (test : ℕ → ℕ → Bool) → IsBisimulation m m (Told test) → (s t : ℕ) → s < length m.states → t < length m.states → Told test s t → label_at m.states s ≡ label_at m.states t
    labels test b s t ls lt r = same_Some (label_at m.states s) (label_at m.states t) (sym (slice_get-get_or m.states s (0, 0) ls) ∙ b.labels s t r ∙ slice_get-get_or m.states t (0, 0) lt)

-- what the code makes of the labels, before the first round
pub record IsOutset (labels : List (ℕ × ℕ)) (classes leaders : List ℕ) (members : List (List ℕ)) (settled : List Bool) (waiting : List ℕ) : Type 0 where
  pub blocks : AreBlocks (length labels) classes leaders members
  pub same : (s t : ℕ) → s < length labels → t < length labels → slice_index classes s ≡ slice_index classes t ↔ label_at labels s ≡ label_at labels t
  pub none : settled ≡ replicate (length labels) false
  pub within : All (λ s. s < length labels) waiting
  pub each : (s : ℕ) → s < length labels → Contains waiting s

pub AreRefined-from_outset : (m : Structure) (labels : List (ℕ × ℕ)) (classes leaders : List ℕ) (members : List (List ℕ)) (settled : List Bool) (waiting : List ℕ) → labels ≡ m.states → IsOutset labels classes leaders members settled waiting → AreRefined m classes leaders members settled waiting
AreRefined-from_outset m labels classes leaders members settled waiting e o = at (subst (λ l. IsOutset l classes leaders members settled waiting) e o)
  where
    at : IsOutset m.states classes leaders members settled waiting → AreRefined m classes leaders members settled waiting
    at h = AreRefined-outset m classes leaders members settled waiting h.blocks h.same h.none (ap length h.none ∙ length-replicate (length m.states) false) h.within h.each

-- there are no more blocks than states
pub few_blocks : (n : ℕ) (classes leaders : List ℕ) (members : List (List ℕ)) → AreBlocks n classes leaders members → length leaders ≤ n
few_blocks n classes leaders members b = let le = le-length_from_below classes (length leaders) is_there in omega (arith, le, b.long)
  where
    is_there : (q : ℕ) → q < length leaders → list_any (eqb q) classes ≡ true
    is_there q lt = list_any-from_Contains nat_eq_equiv q classes (slice_index leaders q, omega (arith, b.states q lt, b.long), get_or_default classes (slice_index leaders q) q 0 (omega (arith, b.states q lt, b.long)) ∙ b.led q lt)

pub falls : (n before after few many : ℕ) → 0 < many → before ≤ after → after ≤ n → (few ≡ 0) ⊎ (before < after) → 2 * (n - after) + min 1 few < 2 * (n - before) + min 1 many
falls n before after few many some more within (inl none) = omega arith
falls n before after few many some more within (inr grows) = omega arith

-- what a test for emptiness tells
pub some_left : (n : ℕ) → false ≡ eqb n 0 → 0 < n
some_left n e = elim (ℕ_discrete n 0) [ yes z ↦ absurd (let h : false ≡ true = e ∙ eq-eqb n 0 z in cc) | no apart ↦ (let ne : n ≢ 0 = apart in omega arith) ]

pub none_left : (n : ℕ) → true ≡ eqb n 0 → n ≡ 0
none_left n e = eqb-true n 0 (sym e)

pub empty_of : (xs : List ℕ) → length xs ≡ 0 → xs ≡ []
empty_of [] e = refl
empty_of (x ∷ xs) e = absurd (omega (arith, e))

-- more states may wait
pub AreRefined-roused : (m : Structure) (classes leaders : List ℕ) (members : List (List ℕ)) (settled settled' : List Bool) (waiting waiting' : List ℕ) → AreRefined m classes leaders members settled waiting → AreWaiting (length settled) settled' waiting' → ((s : ℕ) → IsSettled settled' s → IsSettled settled s)
    → AreRefined m classes leaders members settled' waiting'
AreRefined-roused m classes leaders members settled settled' waiting waiting' r waits fewer = record {
  partition = r.partition;
  blocks = r.blocks;
  calm = record { matched = λ s t ls lt is it e. r.calm.matched s t ls lt (fewer s is) (fewer t it) e };
  waits = subst (λ n. AreWaiting n settled' waiting') r.waits.long waits;
}
