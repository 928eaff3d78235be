-- Nodes that are not supported may go, and what is left when no child of the root lives.
use Rattle.std.proofs.Common.{ℕ, zero, suc, ◌≡◌, ◌<◌, inl, inr, Bool, true, false, List, [], ◌∷◌, length, refl, sym, ◌∙◌, Some, None, slice_get, arith}
use Rattle.pair_structure.specs.Structure.{Structure, GoesOn}
use Rattle.pair_structure.specs.declared.side.Side.{Side}
use Rattle.closure_sets.specs.ClosureParts.{ClosureParts}
use Rattle.tableau_graph.specs.Graph.{Graph, HasMetChild}
use Rattle.deletion_rules.specs.Deletion.{SomeChild, Fulfilled}
use Rattle.deletion_rules.specs.Laws.{AreWithin}
use Rattle.deletion_rules.proofs.GraphLaws.{DeadIsUnsatisfiableOfGraph, RemovalKeepsMetOfGraph, SupportRisesOfGraph}
use Rattle.deletion_rules.specs.Met.{Meets}
use Rattle.deletion_rules.proofs.Choice.{chosen_at, chosen_lawful, chosen_shortest}
use Rattle.deletion_rules.proofs.Survive.{met_are_supported}
use Rattle.deletion_rules.specs.Targets.{target_with}

pub dead_is_unsatisfiable : DeadIsUnsatisfiableOfGraph
dead_is_unsatisfiable a b c k g ok root cover lives live dead m over holds = dead (u.0, u.1, live m over 0 u.0 lt met, tt)
  where
    on : GoesOn m
    on = over.goes_on

    lt : 0 < length m.states
    lt = over.some

    ch : ℕ → Side
    ch = chosen_at m on c k 0 lt

    u : HasMetChild c g m ch root 0
    u = cover m over holds ch (chosen_lawful m on c k 0 lt)

    met : Meets m c g 0 u.0
    met = record { node = ok.within root u.0 u.1; label = u.2; chosen = ch; lawful = chosen_lawful m on c k 0 lt; shortest = chosen_shortest m on c k 0 lt; met = u.3 }

pub removal_keeps_met : RemovalKeepsMetOfGraph
removal_keeps_met a b c k g ok cover lives left live gone m over s n lt meets = by (left n) refl
  where
    by : (t : Bool) → left n ≡ t → left n ≡ true
    by true e = e
    by false e = elim (gone n meets.node e) [ inl dead ↦ absurd (let q : true ≡ false = sym (live m over s n lt meets) ∙ dead in cc) | inr bad ↦ absurd (bad (met_are_supported a b c k g ok cover lives live m over s n lt meets)) ]

child_rises : (g : Graph) (lives more : ℕ → Bool) → AreWithin lives more → (o : ℕ) (X Y : ℕ → Type 0) → ((n : ℕ) → X n → Y n) → SomeChild g lives o X → SomeChild g more o Y
child_rises g lives more up o X Y f h = (h.0, h.1, up h.0 h.2, f h.0 h.3)

fulfilled_rises : (c : ClosureParts) (g : Graph) (lives more : ℕ → Bool) → AreWithin lives more → (all : Bool) (u f second k n : ℕ) → Fulfilled c g lives (target_with all u f second) k n → Fulfilled c g more (target_with all u f second) k n
fulfilled_rises c g lives more up all u f second zero n h = h
fulfilled_rises c g lives more up true u f second (suc k) n (inl y) = inl y
fulfilled_rises c g lives more up true u f second (suc k) n (inr v) = inr (v.0, λ i h side some. child_rises g lives more up (g.next_or n i) (Fulfilled c g lives (target_with true u f second) k) (Fulfilled c g more (target_with true u f second) k) (λ j. fulfilled_rises c g lives more up true u f second k j) (v.1 i h side some))
fulfilled_rises c g lives more up false u f second (suc k) n (inl y) = inl y
fulfilled_rises c g lives more up false u f second (suc k) n (inr v) = inr (v.0, (v.1.0, v.1.1, child_rises g lives more up _ (Fulfilled c g lives (target_with false u f second) k) (Fulfilled c g more (target_with false u f second) k) (λ j. fulfilled_rises c g lives more up false u f second k j) v.1.2))

pub support_rises : SupportRisesOfGraph
support_rises c g lives more up n h = record {
  successors = λ i h' side some. child_rises g lives more up (g.next_or n i) (λ _. Unit {0}) (λ _. Unit {0}) (λ _ x. x) (h.successors i h' side some);
  fulfilled = λ u strong. let w = h.fulfilled u strong in (w.0, fulfilled_rises c g lives more up u.all u.member u.f u.g w.0 n w.1);
}
