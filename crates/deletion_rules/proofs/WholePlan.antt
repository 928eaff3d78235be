-- A plan for a kept set: all members take turns, and an E target goes on where its rank falls.
use Rattle.std.proofs.Common.{ℕ, ◌≡◌, inl, inr, Bool, true, false, Option, Some, List, length, refl, subst, sym, arith, ◌∙◌, ap, slice_index_or}
use Rattle.std.specs.List.{range_with_len}
use Rattle.std.proofs.lemmas.List.FromFn.{get_or-range_with_len, length-range_with_len}
use Rattle.pair_structure.specs.declared.side.Side.{Side}
use Rattle.ctl_form.proofs.Decided.{Decided}
use Rattle.closure_sets.specs.ClosureParts.{ClosureParts, count, after}
use Rattle.closure_sets.specs.Full.{Has}
use Rattle.tableau_graph.specs.Graph.{Graph}
use Rattle.deletion_rules.specs.Deletion.{IsKept, HasLower, Falls}
use Rattle.deletion_rules.specs.Unravel.{Plan, IsPending, HasTargets, row_at}
use Rattle.deletion_rules.specs.declared.position.Position.{Position}
use Rattle.deletion_rules.proofs.Pending.{PendingCase, pending_case, decided_has, one_kind}
use Rattle.deletion_rules.specs.inside.Picking.{IsPlan, or_zero}
use Rattle.deletion_rules.proofs.Picks.{rank_number}
use Rattle.deletion_rules.specs.Targets.{target_with}

module _ (c : ClosureParts) (g : Graph) (lives : ℕ → Bool) (rank : ℕ → ℕ → Option ℕ) (kept : IsKept c g lives rank) where
  abbrev pub turns : List ℕ
  turns = range_with_len 0 (count c)

  abbrev pub goal_of : Position → ℕ
  goal_of p = slice_index_or turns p.place 0

  -- the member by which the E target of p goes on
  abbrev pub IsKeeper : Position → ℕ → Type 0
  IsKeeper p i = (side : Side) × (i ≡ after c side (goal_of p)) × Has (row_at g p) i × HasLower g lives rank (goal_of p) (or_zero (rank p.node (goal_of p))) (g.next_or p.node i)

  abbrev pub Keeps : Position → Type 0
  Keeps p = (i : ℕ) × (lives p.node ≡ true → IsPending c (row_at g p) false (goal_of p) → IsKeeper p i)

  by_falls : (p : Position) (x : IsPending c (row_at g p) false (goal_of p)) → ((r : ℕ) × (rank p.node (goal_of p) ≡ Some r) × Falls c g lives rank (target_with false (goal_of p) x.0 x.1) r p.node) → Keeps p
  by_falls p x u = elim u.2 [
    | inl met ↦ absurd (x.4 met)
    | inr v ↦ (after c v.1.0 (goal_of p), λ _ _. (v.1.0, refl, v.1.1, subst (λ r. HasLower g lives rank (goal_of p) r (g.next_or p.node (after c v.1.0 (goal_of p)))) (sym (ap or_zero u.1)) v.1.2))
  ]

  pub keeper : (p : Position) → Keeps p
  keeper p = by (decided_has (lives p.node)) (pending_case c (row_at g p) (goal_of p))
    where
      by : Decided (lives p.node ≡ true) → PendingCase c (row_at g p) (goal_of p) → Keeps p
      by (inr dead) x = (0, λ l _. absurd (dead l))
      by (inl l) (inl x) = (0, λ _ y. absurd (one_kind c (row_at g p) (goal_of p) x y))
      by (inl l) (inr (inr none)) = (0, λ _ y. absurd (none.1 y))
      by (inl l) (inr (inl x)) = by_falls p x (kept.ranks.some p.node (target_with false (goal_of p) x.0 x.1) l (record { part = x.2; member = x.3 }))

  abbrev pub whole_plan : Plan
  whole_plan = record { targets = turns; keep = λ p. (keeper p).0; rank = rank_number rank }

  pub is_plan : IsPlan c g lives rank whole_plan
  is_plan = record { ranks = λ u n. refl; keeps = λ p l x. (keeper p).1 l x }

  pub has_targets : HasTargets c whole_plan
  has_targets u f second all lt part = (u, omega (arith, lt, long), get_or-range_with_len 0 (count c) u 0 lt ∙ omega arith)
    where
      long : length turns ≡ count c
      long = length-range_with_len 0 (count c)
