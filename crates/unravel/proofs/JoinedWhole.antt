-- Where each start state had its turn, what was joined is a structure over the roles.
use Rattle.std.proofs.Common.{ℕ, ◌<◌, ◌↔◌, inl, inr, List, length, refl, arith, Contains, slice_index_or}
use Rattle.std.proofs.lemmas.Bool.{cases_lt}
use Rattle.std.proofs.lemmas.List.Elements.{All-contains, Contains-get_or}
use Rattle.pair_structure.specs.declared.side.Move.{Move}
use Rattle.pair_structure.specs.Role.{RoleParts}
use Rattle.pair_structure.specs.Structure.{Structure, IsLawfulMove, IsOver, IsRising, Reaches, start_count}
use Rattle.ctl_form.specs.NormalParts.{NormalParts, formula_of}
use Rattle.ctl_form.proofs.BoundedMorphism.{IsBoundedMorphism, morphism_keeps_truth}
use Rattle.unravel.specs.inside.Joining.{HaveRoots, IsBegun, IsJoined}

module _ (a b : RoleParts) (w : Structure) (j : IsJoined a b (start_count a b) w) (moves : List Move) (rising : IsRising moves) (same : (x : Move) → Contains moves x ↔ Contains w.moves x) where
  abbrev count : ℕ
  count = start_count a b

  -- the same moves in their order
  abbrev arranged : Structure
  arranged = record { states = w.states; moves = moves }

  begun : (s : ℕ) → s < length w.states → IsBegun count count (length w.states) s
  begun s l = (l, elim (cases_lt s count) [ inl low ↦ inl low | inr high ↦ inr high ])

  onward : (s : ℕ) → s < length w.states → (t : ℕ) × Reaches arranged s t
  onward s l = let (t, reach) = j.onward s (begun s l) in (t, elim reach [ inl x ↦ inl ((same _).1 x) | inr y ↦ inr ((same _).1 y) ])

  pub joined_over : 0 < count → IsOver a b arranged
  joined_over some = record {
    some = omega (arith, some, j.long);
    starts = j.starts;
    labels = j.labels;
    lawful = λ i d l. All-contains (IsLawfulMove a b w.states) w.moves (slice_index_or moves i d) j.lawful ((same (slice_index_or moves i d)).0 (Contains-get_or moves i d l));
    rising = rising;
    goes_on = record {
      leaves = λ side s t h. (j.leaves side s t ((same _).0 h)).0;
      within = λ side s t h. (j.within side s t ((same _).0 h)).0;
      onward = onward;
    };
  }

  inside : IsBoundedMorphism w arranged (λ s. s < length w.states) (λ s. s)
  inside = record {
    closed = λ side s t i h. (j.within side s t h).0;
    label = λ s i. refl;
    forth = λ side s t i h. (same _).1 h;
    back = λ side s u i h. (u, (same _).0 h, refl);
  }

  pub roots_arranged : (n : NormalParts) → HaveRoots n count w → HaveRoots n count arranged
  roots_arranged n roots s l i d lt =
      (morphism_keeps_truth w arranged (λ s. s < length w.states) (λ s. s) inside (formula_of n (slice_index_or n.roots i d)) s (omega (arith, l, j.long))).0 (roots s l i d lt)
