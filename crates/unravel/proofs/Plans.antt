-- The plan that the code follows is one of the kept set.
use Rattle.std.proofs.Common.{ℕ, ◌≡◌, ◌<◌, inl, inr, Bool, true, false, cond, Option, Some, None, List, length, map, refl, subst, sym, arith, ◌∙◌, ap, slice_index_or}
use Rattle.std.proofs.lemmas.Bool.{and_parts, and_from}
use Rattle.std.proofs.lemmas.List.{get_or-map, length-map}
use Rattle.std.proofs.lemmas.List.Folds.{Any-from_list_any, list_any-from_Any}
use Rattle.pair_structure.specs.declared.side.Side.{Side}
use Rattle.pair_structure.specs.declared.side.Side.TheVariants.{A, B}
use Rattle.closure_sets.specs.ClosureParts.{after, count}
use Rattle.closure_sets.specs.Full.{Has}
use Rattle.tableau_graph.specs.Graph.{graph_of}
use Rattle.deletion_rules.specs.Deletion.{HasLower, Falls}
use Rattle.deletion_rules.specs.inside.Picking.{IsPlan, or_zero}
use Rattle.deletion_rules.specs.Pruned.{RankParts, lives_at, rank_at}
use Rattle.unravel.specs.inside.Alive.{IsAlive}
use Rattle.deletion_rules.specs.Unravel.{HasTargets, IsPending}
use Rattle.unravel.specs.inside.Choice.{falls_by, has_lower, is_below, is_lower_at, keep_of, member_of, plan_of}
use Rattle.deletion_rules.specs.Targets.{AreTargets, no_target, target_in, target_with}
use Rattle.deletion_rules.specs.declared.target.Target.{Target}

below_out : (r : ℕ) (o : Option ℕ) → is_below r o ≡ true → (j : ℕ) × (o ≡ Some j) × (j < r)
below_out r None e = absurd (let z : false ≡ true = e in cc)
below_out r (Some j) e = (j, refl, grind (arith, e))

below_in : (r : ℕ) (o : Option ℕ) (j : ℕ) → o ≡ Some j → j < r → is_below r o ≡ true
below_in r o j e lt = rw e (grind (arith, lt))

-- the test finds a child of lower rank, where there is one
lower_in : (r : RankParts) (u rank o : ℕ) → HasLower (graph_of r.tableau) (lives_at r) (rank_at r) u rank o → has_lower r u rank o ≡ true
lower_in r u rank o h = list_any-from_Any (is_lower_at r u rank) _ (h.1.0, h.0, h.1.1, h.1.2, and_from (lives_at r h.0) (is_below rank (rank_at r h.0 u)) h.2 (below_in rank (rank_at r h.0 u) h.3.0 h.3.1 h.3.2))

lower_out : (r : RankParts) (u rank o : ℕ) → has_lower r u rank o ≡ true → HasLower (graph_of r.tableau) (lives_at r) (rank_at r) u rank o
lower_out r u rank o e =
    let h = Any-from_list_any (is_lower_at r u rank) _ e in
    let b = and_parts (lives_at r h.1) (is_below rank (rank_at r h.1 u)) h.4 in
    (h.1, (h.0, h.2, h.3), b.0, below_out rank (rank_at r h.1 u) b.1)

module _ (r : RankParts) (alive : IsAlive r) (targets : List Target) where
  -- the until that has its turn at this place
  abbrev member_in : ℕ → ℕ
  member_in y = slice_index_or (map member_of targets) y 0

  abbrev IsKeeper : ℕ → ℕ → ℕ → Type 0
  IsKeeper n u i = (side : Side) × (i ≡ after r.tableau.closure side u) × Has ((graph_of r.tableau).row n) i × HasLower (graph_of r.tableau) (lives_at r) (rank_at r) u (or_zero (rank_at r n u)) ((graph_of r.tableau).next_or n i)

  by_falls : (n u : ℕ) (side : Side) → falls_by r n u side ≡ true → IsKeeper n u (after r.tableau.closure side u)
  by_falls n u side e = let b = and_parts ((graph_of r.tableau).row n (after r.tableau.closure side u)) (has_lower r u (or_zero (rank_at r n u)) ((graph_of r.tableau).next_or n (after r.tableau.closure side u))) e in (side, refl, b.0, lower_out r u (or_zero (rank_at r n u)) ((graph_of r.tableau).next_or n (after r.tableau.closure side u)) b.1)

  falls_in : (n u : ℕ) (side : Side) → Has ((graph_of r.tableau).row n) (after r.tableau.closure side u) → HasLower (graph_of r.tableau) (lives_at r) (rank_at r) u (or_zero (rank_at r n u)) ((graph_of r.tableau).next_or n (after r.tableau.closure side u)) → falls_by r n u side ≡ true
  falls_in n u side has low = and_from _ _ has (lower_in r u (or_zero (rank_at r n u)) ((graph_of r.tableau).next_or n (after r.tableau.closure side u)) low)

  kept_by : (n u : ℕ) (side : Side) → falls_by r n u side ≡ true → (a : Bool) → falls_by r n u A ≡ a → IsKeeper n u (after r.tableau.closure (cond a A B) u)
  kept_by n u side e true f = by_falls n u A f
  kept_by n u A e false f = absurd (let z : false ≡ true = sym f ∙ e in cc)
  kept_by n u B e false f = by_falls n u B e

  keeper : (n u : ℕ) → lives_at r n ≡ true → IsPending r.tableau.closure ((graph_of r.tableau).row n) false u → IsKeeper n u (keep_of r n u)
  keeper n u l x = by (alive.kept.ranks.some n (target_with false u x.0 x.1) l (record { part = x.2; member = x.3 }))
    where
      by : (k : ℕ) × (rank_at r n u ≡ Some k) × Falls r.tableau.closure (graph_of r.tableau) (lives_at r) (rank_at r) (target_with false u x.0 x.1) k n → IsKeeper n u (keep_of r n u)
      by v = elim v.2 [ inl met ↦ absurd (x.4 met) | inr w ↦ kept_by n u w.1.0 (falls_in n u w.1.0 w.1.1 (subst (λ k. HasLower (graph_of r.tableau) (lives_at r) (rank_at r) u k ((graph_of r.tableau).next_or n (after r.tableau.closure w.1.0 u))) (sym (ap or_zero v.1)) w.1.2)) (falls_by r n u A) refl ]

  pub is_plan : IsPlan r.tableau.closure (graph_of r.tableau) (lives_at r) (rank_at r) (plan_of r targets)
  is_plan = record { ranks = λ u n. refl; keeps = λ p l x. keeper p.node (member_in p.place) l x }

  -- the member that has its turn at a place is that of the place's target
  pub goal_is : (y : ℕ) → y < length targets → member_in y ≡ (target_in targets y).member
  goal_is y lt = get_or-map member_of targets y no_target 0 lt

  pub has_targets : AreTargets r.tableau.closure (count r.tableau.closure) targets → HasTargets r.tableau.closure (plan_of r targets)
  has_targets are u f second all lt part = let h = are.all u f second all lt part in (h.0, omega (arith, h.1, length-map targets member_of), goal_is h.0 h.1 ∙ h.2)
