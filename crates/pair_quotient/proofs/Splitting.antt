-- A split keeps a partition one; and what is settled stays so where no move leads to a state that changed its class.
use Rattle.std.proofs.Common.{ℕ, ◌≡◌, ◌<◌, Bool, List, length, slice_index, sym, ◌∙◌}
use Rattle.pair_structure.specs.declared.side.Side.{Side}
use Rattle.pair_structure.specs.Structure.{Structure, HasMove, GoesOn}
use Rattle.pair_quotient.specs.Bisimulation.{IsBisimulation, Told}
use Rattle.pair_quotient.specs.inside.Partition.{IsMatched, IsPartition, IsSplit}

-- bisimilar states match each other in each partition
told_matched : (m : Structure) → GoesOn m → (classes : List ℕ) → IsPartition m classes → (test : ℕ → ℕ → Bool) → IsBisimulation m m (Told test) → (s t : ℕ) → Told test s t → IsMatched m classes s t
told_matched m on classes p test b s t r side s' step =
    let u = b.forth side s t s' r step in
    (u.0, u.1, p.lasting test b s' u.0 (on.within side s s' step) (on.within side t u.0 u.1) u.2)

told_matched_back : (m : Structure) → GoesOn m → (classes : List ℕ) → IsPartition m classes → (test : ℕ → ℕ → Bool) → IsBisimulation m m (Told test) → (s t : ℕ) → Told test s t → IsMatched m classes t s
told_matched_back m on classes p test b s t r side t' step =
    let u = b.back side s t t' r step in
    (u.0, u.1, sym (p.lasting test b u.0 t' (on.within side s u.0 u.1) (on.within side t t' step) u.2))

pub IsPartition-split : (m : Structure) → GoesOn m → (old new : List ℕ) → IsPartition m old → IsSplit m old new → IsPartition m new
IsPartition-split m on old new p split = record {
  long = split.long ∙ p.long;
  labels = λ s t ls lt e. p.labels s t ls lt (split.finer s t ls lt e);
  lasting = λ test b s t ls lt r. split.together s t ls lt (p.lasting test b s t ls lt r) (told_matched m on old p test b s t r) (told_matched_back m on old p test b s t r);
}

-- no move of the state leads to one that changed its class
abbrev pub IsUntouched : Structure → List ℕ → List ℕ → ℕ → Type 0
IsUntouched m old new s = (side : Side) (s' : ℕ) → HasMove m side s s' → slice_index new s' ≡ slice_index old s'

pub matched-split : (m : Structure) (old new : List ℕ) → IsSplit m old new → (s t : ℕ) → s < length m.states → t < length m.states → IsUntouched m old new s → IsUntouched m old new t → slice_index new s ≡ slice_index new t → IsMatched m new s t
matched-split m old new split s t ls lt us ut e side s' step =
    let u = split.apart s t ls lt e side s' step in
    (u.0, u.1, us side s' step ∙ u.2 ∙ sym (ut side u.0 u.1))
