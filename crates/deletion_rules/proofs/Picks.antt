-- In a kept set each EXs h of a node has a step of the unravelling.
use Rattle.std.proofs.Common.{ℕ, ◌≡◌, ◌<◌, ◌≤◌, inl, inr, Bool, true, false, Option, Some, List, Contains, length, refl, subst, sym, arith, ◌∙◌, ap}
use Rattle.std.proofs.Math.Decide.{ℕ_discrete}
use Rattle.pair_structure.specs.Role.{RoleParts, IsRole, HasArc}
use Rattle.pair_structure.specs.Structure.{IsLabel}
use Rattle.pair_structure.specs.declared.side.LocalArc.{LocalArc}
use Rattle.pair_structure.specs.declared.side.Side.{Side}
use Rattle.pair_structure.specs.declared.side.Side.TheVariants.{A, B}
use Rattle.closure_sets.specs.ClosureParts.{ClosureParts}
use Rattle.tableau_graph.specs.Rules.{Follows}
use Rattle.tableau_graph.specs.Graph.{Graph, IsSomeNext, FollowArcs}
use Rattle.deletion_rules.specs.Deletion.{IsKept, HasLower, Falls}
use Rattle.deletion_rules.specs.Unravel.{Plan, target, target_at, row_at, Pends, MovesOn, StaysWhilePending, Pursues, IsKeptBy, IsStep}
use Rattle.deletion_rules.specs.declared.position.Position.{Position}
use Rattle.deletion_rules.specs.inside.Picking.{IsBest, IsGood, IsNextPlace, IsPlan, Pending, or_zero}
use Rattle.deletion_rules.proofs.Best.{best_of}
use Rattle.deletion_rules.proofs.Pending.{pending_case, decided_pending, one_kind}
use Rattle.deletion_rules.proofs.Searches.{next_place}
use Rattle.deletion_rules.specs.Targets.{target_with}

-- an arc ends in a local state of its role
arc_end : (r : RoleParts) → IsRole r → (p q : ℕ) → HasArc r.arcs p q → q < length r.locals
arc_end r is p q u = let j = is.joins u.0 u.1 u.2 in let to : (u.1).to < length r.locals = subst (λ (x : LocalArc). x.to < length r.locals) u.3 j.to in subst (λ v. v < length r.locals) u.4.1 to

follows_within : (a b : RoleParts) → IsRole a → IsRole b → (side : Side) (from to : ℕ × ℕ) → IsLabel a b from → Follows a b side from to → IsLabel a b to
follows_within a b ra rb A from to l f = (arc_end a ra from.0 to.0 f.0, subst (λ v. v < length b.locals) f.1 l.1)
follows_within a b ra rb B from to l f = (subst (λ v. v < length a.locals) f.1 l.0, arc_end b rb from.1 to.1 f.0)

-- a rank as the plan has it
abbrev pub rank_number : (ℕ → ℕ → Option ℕ) → ℕ → ℕ → ℕ
rank_number rank u n = or_zero (rank n u)

module _ (a b : RoleParts) (ra : IsRole a) (rb : IsRole b) (c : ClosureParts) (g : Graph) (arcs : FollowArcs a b c g) (lives : ℕ → Bool) (rank : ℕ → ℕ → Option ℕ) (kept : IsKept c g lives rank) (plan : Plan) (ok : IsPlan c g lives rank plan) (size : ℕ) (fits : length plan.targets ≤ size) where
  abbrev Good : Position → Type 0
  Good p = IsGood a b g lives size p

  -- the place behind a move to n that does not pursue, or no longer
  passes : (x n : ℕ) → x < size → (x' : ℕ) × IsNextPlace (λ y. Pending c (g.row n) (target_at plan y)) size x x'
  passes x n lt = next_place (λ y. Pending c (g.row n) (target_at plan y)) (λ y. decided_pending c (g.row n) (target_at plan y)) size x lt

  as_moves_on : (p q : Position) → IsNextPlace (λ y. Pending c (g.row q.node) (target_at plan y)) size p.place q.place → MovesOn c g plan p q
  as_moves_on p q next y lt passed all pending = next.passes y (omega (arith, lt, fits)) passed (all, pending)

  module _ (p : Position) (good : Good p) (i h : ℕ) (side : Side) (some : IsSomeNext c g p.node i side h) where
    abbrev rank_here : ℕ → Option ℕ
    rank_here n = rank n (target plan p)

    abbrev offered : List ℕ
    offered = g.children (g.next_or p.node i)

    abbrev own_rank : ℕ
    own_rank = or_zero (rank p.node (target plan p))

    -- the child of lowest rank
    module _ (n : ℕ) (best : IsBest lives rank_here offered n) where
      pub good_at : (x : ℕ) → x < size → Good (record { node = n; place = x })
      good_at x lt = record { living = best.living; label = follows_within a b ra rb side (g.label p.node) (g.label n) good.label (arcs p.node i h n side some best.among); place = lt }

      -- where some child has a lower rank, that of this child is lower
      lower : HasLower g lives rank (target plan p) own_rank (g.next_or p.node i) → plan.rank (target plan p) n < plan.rank (target plan p) p.node
      lower u = let v = best.lowest u.0 u.3.0 u.1 u.2 u.3.1 in
          let le : v.0 ≤ u.3.0 = v.2 in let lt : u.3.0 < own_rank = u.3.2 in
          let e : plan.rank (target plan p) n ≡ v.0 = ok.ranks (target plan p) n ∙ ap or_zero v.1 in
          let f : plan.rank (target plan p) p.node ≡ own_rank = ok.ranks (target plan p) p.node in
          omega (arith, le, lt, e, f)

      each_falls : Pends c g plan true p → HasLower g lives rank (target plan p) own_rank (g.next_or p.node i)
      each_falls x = by (kept.ranks.some p.node (target_with true (target plan p) x.0 x.1) good.living (record { part = x.2; member = x.3 }))
        where
          by : (r : ℕ) × (rank p.node (target plan p) ≡ Some r) × Falls c g lives rank (target_with true (target plan p) x.0 x.1) r p.node → HasLower g lives rank (target plan p) own_rank (g.next_or p.node i)
          by u = elim u.2 [ inl met ↦ absurd (x.4 met) | inr v ↦ subst (λ r. HasLower g lives rank (target plan p) r (g.next_or p.node i)) (sym (ap or_zero u.1)) (v.1 i h side some) ]

      kept_falls : Pends c g plan false p → IsKeptBy g plan p i → HasLower g lives rank (target plan p) own_rank (g.next_or p.node i)
      kept_falls x same = let u = ok.keeps p good.living x in subst (λ o. HasLower g lives rank (target plan p) own_rank o) (sym same) u.3

      child_at : (q : Position) → q.node ≡ n → Contains offered q.node
      child_at q e = subst (λ k. Contains offered k) (sym e) best.among

      pursues : (q : Position) → q.node ≡ n → plan.rank (target plan p) n < plan.rank (target plan p) p.node → StaysWhilePending c g plan p q → Pursues c g plan p q
      pursues q e falls stays = record { falls = subst (λ k. plan.rank (target plan p) k < plan.rank (target plan p) p.node) (sym e) falls; stays = stays }

      -- the target is pursued: on each path, or through the member that keeps it
      pub each_step : Pends c g plan true p → (q : Position) → q.node ≡ n → StaysWhilePending c g plan p q → IsStep c g plan p i q
      each_step x q e stays = record { child = child_at q e; idle = λ none _. absurd (none x); each = λ _. pursues q e (lower (each_falls x)) stays; kept = λ y _. absurd (one_kind c (row_at g p) (target plan p) x y); others = λ y _. absurd (one_kind c (row_at g p) (target plan p) x y) }

      pub kept_step : Pends c g plan false p → IsKeptBy g plan p i → (q : Position) → q.node ≡ n → StaysWhilePending c g plan p q → IsStep c g plan p i q
      kept_step x same q e stays = record { child = child_at q e; idle = λ _ none. absurd (none x); each = λ y. absurd (one_kind c (row_at g p) (target plan p) y x); kept = λ _ _. pursues q e (lower (kept_falls x same)) stays; others = λ _ differs. absurd (differs same) }

      -- the target is not pursued
      pub other_step : (Pends c g plan true p → ⊥) → (Pends c g plan false p → IsKeptBy g plan p i → ⊥) → (q : Position) → q.node ≡ n → MovesOn c g plan p q → IsStep c g plan p i q
      other_step not_each not_kept q e on = record { child = child_at q e; idle = λ _ _. on; each = λ x. absurd (not_each x); kept = λ x same. absurd (not_kept x same); others = λ _ _. on }

    -- what the step is to be
    pub record IsPick (q : Position) : Type 0 where
      pub reaches : Good q
      pub step : IsStep c g plan p i q

    child : (n : ℕ) × IsBest lives rank_here offered n
    child = elim (best_of lives rank_here offered) [ inl u ↦ u | inr none ↦ (let s = kept.successors p.node i h side good.living some in absurd (none s.0 s.1 s.2)) ]

    abbrev moved : (x : ℕ) × IsNextPlace (λ y. Pending c (g.row child.0) (target_at plan y)) size p.place x
    moved = passes p.place child.0 good.place

    abbrev on : Position
    on = record { node = child.0; place = moved.0 }

    abbrev stay : Position
    stay = record { node = child.0; place = p.place }

    on_moves : MovesOn c g plan p on
    on_moves = as_moves_on p on moved.1

    -- the target stays while it pends at the child
    pursued : ((q : Position) → q.node ≡ child.0 → StaysWhilePending c g plan p q → IsStep c g plan p i q) → (q : Position) × IsPick q
    pursued step = elim (decided_pending c (g.row child.0) (target plan p)) [
      | inl still ↦ (stay, record { reaches = good_at child.0 child.1 p.place good.place; step = step stay refl (inl refl) })
      | inr none ↦ (on, record { reaches = good_at child.0 child.1 moved.0 moved.1.within; step = step on refl (inr (on_moves, λ all' x. none (all', x))) })
    ]

    left : (Pends c g plan true p → ⊥) → (Pends c g plan false p → IsKeptBy g plan p i → ⊥) → (q : Position) × IsPick q
    left not_each not_kept = (on, record { reaches = good_at child.0 child.1 moved.0 moved.1.within; step = other_step child.0 child.1 not_each not_kept on refl on_moves })

    by_some : Pends c g plan false p → Dec (g.next_or p.node i ≡ g.next_or p.node (plan.keep p)) → (q : Position) × IsPick q
    by_some x (yes same) = pursued (kept_step child.0 child.1 x same)
    by_some x (no differs) = left (λ y. one_kind c (row_at g p) (target plan p) y x) (λ _ same. differs same)

    pub pick : (q : Position) × IsPick q
    pick = elim (pending_case c (row_at g p) (target plan p)) [ inl x ↦ pursued (each_step child.0 child.1 x) | inr (inl x) ↦ by_some x (ℕ_discrete (g.next_or p.node i) (g.next_or p.node (plan.keep p))) | inr (inr none) ↦ left none.0 (λ y _. none.1 y) ]
