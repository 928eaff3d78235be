-- The structure of the blocks of a stable partition is the quotient.
use Rattle.std.proofs.Common.{ℕ, ◌≡◌, ◌↔◌, ◌<◌, inl, inr, Bool, List, length, map, Contains, slice_index, nat_eq, arith, refl, sym, ◌∙◌, subst, ap, Some, slice_get}
use Rattle.std.proofs.lemmas.Bool.{eqb-true, eq-eqb}
use Rattle.std.proofs.lemmas.List.{get_or-map, length-map}
use Rattle.std.proofs.lemmas.Option.{slice_get-get_or}
use Rattle.pair_structure.specs.declared.side.Move.{Move}
use Rattle.pair_structure.specs.declared.side.Side.{Side}
use Rattle.pair_structure.specs.declared.side.Side.TheVariants.{A, B}
use Rattle.pair_structure.specs.Structure.{Structure, HasMove, Reaches, GoesOn, label_at}
use Rattle.pair_quotient.specs.Bisimulation.{IsBisimulation, AreBisimilar, Told}
use Rattle.pair_quotient.specs.inside.Numbering.{IsNumbering}
use Rattle.pair_quotient.specs.inside.Partition.{IsStable}
use Rattle.pair_quotient.specs.Quotient.{IsQuotient, IsLowest, SomeMemberMoves}
use Rattle.pair_quotient.proofs.StateTests.{below_and, below_and-true, true-below_and}

abbrev same_block : List ℕ → ℕ → ℕ → Bool
same_block blocks s t = nat_eq (slice_index blocks s) (slice_index blocks t)

-- to be of one block is a bisimulation
IsBisimulation-blocks : (m : Structure) → GoesOn m → (blocks : List ℕ) → IsStable m blocks → IsBisimulation m m (Told (below_and (length m.states) (same_block blocks)))
IsBisimulation-blocks m on blocks stable = record { labels = labels; forth = forth; back = back }
  where
    labels : (s t : ℕ) → Told (below_and (length m.states) (same_block blocks)) s t → slice_get m.states s ≡ slice_get m.states t
    labels s t r =
        let h = below_and-true (length m.states) (same_block blocks) s t r in
        let e = stable.partition.labels s t h.first h.second (eqb-true _ _ h.holds) in
        slice_get-get_or m.states s (0, 0) h.first ∙ ap (λ (l : ℕ × ℕ). Some l) e ∙ sym (slice_get-get_or m.states t (0, 0) h.second)

    forth : (side : Side) (s t s' : ℕ) → Told (below_and (length m.states) (same_block blocks)) s t → HasMove m side s s' → (t' : ℕ) × HasMove m side t t' × Told (below_and (length m.states) (same_block blocks)) s' t'
    forth side s t s' r step =
        let h = below_and-true (length m.states) (same_block blocks) s t r in
        let u = stable.matched s t h.first h.second (eqb-true _ _ h.holds) side s' step in
        (u.0, u.1, true-below_and (length m.states) (same_block blocks) s' u.0 (on.within side s s' step) (on.within side t u.0 u.1) (eq-eqb _ _ u.2))

    back : (side : Side) (s t t' : ℕ) → Told (below_and (length m.states) (same_block blocks)) s t → HasMove m side t t' → (s' : ℕ) × HasMove m side s s' × Told (below_and (length m.states) (same_block blocks)) s' t'
    back side s t t' r step =
        let h = below_and-true (length m.states) (same_block blocks) s t r in
        let u = stable.matched t s h.second h.first (sym (eqb-true _ _ h.holds)) side t' step in
        (u.0, u.1, true-below_and (length m.states) (same_block blocks) u.0 t' (on.within side s u.0 u.1) (on.within side t t' step) (eq-eqb _ _ (sym u.2)))

abbrev pub AreMade : Structure → List ℕ → List Move → Type 0
AreMade m classes moves = (side : Side) (c d : ℕ) → Contains moves (record { from = c; side = side; to = d }) ↔ SomeMemberMoves m classes side c d

pub GoesOn-quotient : (m : Structure) → GoesOn m → (blocks classes lowest : List ℕ) → length blocks ≡ length m.states → IsNumbering blocks classes lowest → (states : List (ℕ × ℕ)) → states ≡ map (label_at m.states) lowest → (moves : List Move) → AreMade m classes moves → GoesOn (record { states = states; moves = moves })
GoesOn-quotient m on blocks classes lowest all numbering states e moves made = record { leaves = leaves; within = within; onward = onward }
  where
    long : length states ≡ length lowest
    long = ap length e ∙ length-map lowest (label_at m.states)

    class_in : (s : ℕ) → s < length m.states → slice_index classes s < length states
    class_in s lt = omega (arith, numbering.within s (omega (arith, lt, all)), long)

    leaves : (side : Side) (c d : ℕ) → HasMove (record { states = states; moves = moves }) side c d → c < length states
    leaves side c d has = let u = (made side c d).0 has in subst (λ x. x < length states) u.3 (class_in u.0 (on.leaves side u.0 u.1 u.2))

    within : (side : Side) (c d : ℕ) → HasMove (record { states = states; moves = moves }) side c d → d < length states
    within side c d has = let u = (made side c d).0 has in subst (λ x. x < length states) u.4 (class_in u.1 (on.within side u.0 u.1 u.2))

    onward : (c : ℕ) → c < length states → (d : ℕ) × Reaches (record { states = states; moves = moves }) c d
    onward c lt =
        let lc : c < length lowest = omega (arith, lt, long) in
        let ls : slice_index lowest c < length m.states = omega (arith, numbering.states c lc, all) in
        let u = on.onward (slice_index lowest c) ls in
        (slice_index classes u.0, elim u.1 [ inl a ↦ inl ((made A c (slice_index classes u.0)).1 (slice_index lowest c, u.0, a, numbering.member c lc, refl)) | inr b ↦ inr ((made B c (slice_index classes u.0)).1 (slice_index lowest c, u.0, b, numbering.member c lc, refl)) ])

pub IsQuotient-from : (m : Structure) → GoesOn m → (blocks classes lowest : List ℕ) → IsStable m blocks → IsNumbering blocks classes lowest → (states : List (ℕ × ℕ)) → states ≡ map (label_at m.states) lowest → (moves : List Move) → AreMade m classes moves → IsQuotient m classes (record { states = states; moves = moves })
IsQuotient-from m on blocks classes lowest stable numbering states e moves made = record {
  long = numbering.long ∙ all;
  within = λ s lt. omega (arith, numbering.within s (in_blocks s lt), long);
  lowest = lowest_of;
  same = λ s t ls lt. (alike s t ls lt, one_class s t ls lt);
  labels = labels;
  moves = made;
}
  where
    all : length blocks ≡ length m.states
    all = stable.partition.long

    long : length states ≡ length lowest
    long = ap length e ∙ length-map lowest (label_at m.states)

    in_blocks : (s : ℕ) → s < length m.states → s < length blocks
    in_blocks s lt = omega (arith, lt, all)

    lowest_of : (c : ℕ) → c < length states → (s : ℕ) × IsLowest m classes c s
    lowest_of c lt =
        let lc : c < length lowest = omega (arith, lt, long) in
        (slice_index lowest c, record { state = omega (arith, numbering.states c lc, all); member = numbering.member c lc; before = λ t l. numbering.before c t lc l })

    alike : (s t : ℕ) → s < length m.states → t < length m.states → slice_index classes s ≡ slice_index classes t → AreBisimilar m s t
    alike s t ls lt f =
        let g = (numbering.same s t (in_blocks s ls) (in_blocks t lt)).0 f in
        (below_and (length m.states) (same_block blocks), IsBisimulation-blocks m on blocks stable, true-below_and (length m.states) (same_block blocks) s t ls lt (eq-eqb _ _ g))

    one_class : (s t : ℕ) → s < length m.states → t < length m.states → AreBisimilar m s t → slice_index classes s ≡ slice_index classes t
    one_class s t ls lt h = (numbering.same s t (in_blocks s ls) (in_blocks t lt)).1 (stable.partition.lasting h.0 h.1 s t ls lt h.2)

    labels : (s : ℕ) → s < length m.states → label_at states (slice_index classes s) ≡ label_at m.states s
    labels s lt =
        let lc : slice_index classes s < length lowest = numbering.within s (in_blocks s lt) in
        let first = slice_index lowest (slice_index classes s) in
        let lf : slice_index lowest (slice_index classes s) < length blocks = numbering.states (slice_index classes s) lc in
        let same = (numbering.same first s lf (in_blocks s lt)).0 (numbering.member (slice_index classes s) lc) in
        ap (λ (l : List (ℕ × ℕ)). label_at l (slice_index classes s)) e ∙ get_or-map (label_at m.states) lowest (slice_index classes s) 0 (0, 0) lc ∙ stable.partition.labels first s (omega (arith, lf, all)) lt same
