-- Each formula of a node's row is true at the node's states.
use Rattle.std.proofs.Common.{ℕ, zero, suc, ◌≡◌, ◌⊎◌, ◌<◌, inl, inr, Bool, true, false, length, refl, subst, sym, arith, ap, ◌∙◌}
use Rattle.std.proofs.Math.Decide.{ℕ_discrete, dec_lt}
use Rattle.pair_structure.specs.Structure.{Structure, HasMove, Reaches}
use Rattle.pair_structure.specs.declared.side.Side.{Side}
use Rattle.pair_structure.specs.declared.side.Side.TheVariants.{A, B}
use Rattle.ctl_form.specs.Members.{form_of_part, forms_of, IsBelow}
use Rattle.ctl_form.specs.Rounds.{Round, InRounds}
use Rattle.ctl_form.specs.Truth.{Holds}
use Rattle.ctl_form.specs.declared.part.Part.{Part}
use Rattle.ctl_form.specs.declared.part.Part.TheVariants.{Yes, No, Lit, Both, Either, Next, Until}
use Rattle.ctl_form.proofs.Along.{along_from}
use Rattle.ctl_form.proofs.Rounds.{AreDecided}
use Rattle.ctl_form.proofs.TruthDecided.{are_decided}
use Rattle.ctl_form.proofs.Unfold.{round_greatest, stage_in}
use Rattle.closure_sets.specs.ClosureParts.{ClosureParts, IsClosureParts, count, after}
use Rattle.closure_sets.specs.Cover.{IsTrueAt}
use Rattle.closure_sets.specs.Full.{Has, IsFull, MeetsPart}
use Rattle.closure_sets.specs.Label.{part_of, form_of, is_wrong}
use Rattle.closure_sets.proofs.Closures.{form_is, member_of}
use Rattle.tableau_graph.specs.Graph.{Graph, IsGraph, IsSomeNext}
use Rattle.deletion_rules.specs.Unravel.{Plan, target, target_at, row_at, IsPending, Pends, MovesOn, StaysWhilePending, Pursues, IsKeptBy, IsStep, IsUnravelled}
use Rattle.deletion_rules.proofs.GraphLaws.{RowsAreTrueOfGraph}
use Rattle.deletion_rules.specs.declared.position.Position.{Position}
use Rattle.deletion_rules.proofs.Pending.{decided_has, pending_case}
use Rattle.deletion_rules.proofs.Plain.{IsPlainPart, right_part, past_true}
use Rattle.deletion_rules.proofs.Descent.{round_distance, distance_falls, Below, descend}

module _ (c : ClosureParts) (k : IsClosureParts c) (g : Graph) (ok : IsGraph c g) (m : Structure) (plan : Plan) (at : ℕ → Position) (un : IsUnravelled c g m plan at) where
  full : (s : ℕ) → s < length m.states → IsFull c (row_at g (at s))
  full s lt = ok.full ((at s).node) (un.nodes s lt)

  member : (i : ℕ) (part : Part) → part_of c i ≡ part → (Yes ≡ part → ⊥) → i < count c
  member = member_of c

  -- how a member of a row is met, by its part
  meets : (s : ℕ) → s < length m.states → (i : ℕ) (part : Part) → part_of c i ≡ part → i < count c → Has (row_at g (at s)) i → MeetsPart c (row_at g (at s)) i part
  meets s lt i part p small has = subst (λ x. MeetsPart c (row_at g (at s)) i x) p ((full s lt).meets i small has)

  is_until : (i f q : ℕ) (all weak : Bool) → part_of c i ≡ Until all weak f q → i < count c
  is_until i f q all weak p = member i (Until all weak f q) p (λ e. let x : Yes ≡ Until all weak f q = e in cc)

  is_next : (i h : ℕ) (all : Bool) (side : Side) → part_of c i ≡ Next all side h → i < count c
  is_next i h all side p = member i (Next all side h) p (λ e. let x : Yes ≡ Next all side h = e in cc)

  -- the formula of a member, by its part
  form_by : (i : ℕ) (part : Part) → i < count c → part_of c i ≡ part → form_of c i ≡ form_of_part (forms_of c.parts) part
  form_by i part small p = form_is c k i small ∙ ap (form_of_part (forms_of c.parts)) p

  next_part : (u f q : ℕ) (all weak : Bool) (side : Side) → part_of c u ≡ Until all weak f q → part_of c (after c side u) ≡ Next all side u
  next_part u f q all weak side p = (k.nexts u f q all weak side (is_until u f q all weak p) p).1

  -- each step pursues the target, or moves the place on
  step_case : (s i t : ℕ) → IsStep c g plan (at s) i (at t) → Pursues c g plan (at s) (at t) ⊎ MovesOn c g plan (at s) (at t)
  step_case s i t step = elim (pending_case c (row_at g (at s)) (target plan (at s))) [ inl x ↦ inl (step.each x) | inr (inl x) ↦ elim (ℕ_discrete (g.next_or ((at s).node) i) (g.next_or ((at s).node) (plan.keep (at s)))) [ yes e ↦ inl (step.kept x e) | no n ↦ inr (step.others x n) ] | inr (inr n) ↦ inr (step.idle n.0 n.1) ]

  -- the pair of distance and rank
  abbrev far : ℕ → ℕ → ℕ
  far q s = round_distance (length plan.targets) ((at s).place) q

  abbrev rank_of : ℕ → ℕ
  rank_of s = plan.rank (target plan (at s)) ((at s).node)

  same_place : (q s t : ℕ) → (at t).place ≡ (at s).place → plan.rank (target plan (at s)) ((at t).node) < plan.rank (target plan (at s)) ((at s).node) → Below (far q) rank_of t s
  same_place q s t e falls = inr (ap (λ p. round_distance (length plan.targets) p q) e, subst (λ p. plan.rank (target_at plan p) ((at t).node) < rank_of s) (sym e) falls)

  -- a place that moves on comes nearer to an until that pends
  moved_on : (q s t : ℕ) (all : Bool) → s < length m.states → q < length plan.targets → ((at s).place ≡ q → ⊥) → IsPending c (row_at g (at t)) all (target_at plan q) → MovesOn c g plan (at s) (at t) → Below (far q) rank_of t s
  moved_on q s t all lt lq ne pending on = inl (distance_falls (length plan.targets) ((at s).place) ((at t).place) q (un.placed s lt (omega (arith, lq))) lq ne (λ passed. on q lq passed all pending))

  by_stay : (q s t : ℕ) (all : Bool) → s < length m.states → q < length plan.targets → IsPending c (row_at g (at t)) all (target_at plan q) → plan.rank (target plan (at s)) ((at t).node) < plan.rank (target plan (at s)) ((at s).node) → StaysWhilePending c g plan (at s) (at t) → Below (far q) rank_of t s
  by_stay q s t all lt lq pending falls (inl e) = same_place q s t e falls
  by_stay q s t all lt lq pending falls (inr v) = moved_on q s t all lt lq (λ e. v.1 all (subst (λ p. IsPending c (row_at g (at t)) all (target_at plan p)) (sym e) pending)) pending v.0

  pursued : (q s t : ℕ) (all : Bool) → s < length m.states → q < length plan.targets → IsPending c (row_at g (at t)) all (target_at plan q) → Pursues c g plan (at s) (at t) → Below (far q) rank_of t s
  pursued q s t all lt lq pending x = by_stay q s t all lt lq pending x.falls x.stays

  -- with a step the pair falls for an until that pends behind it, if the until is pursued at its own place
  falls : (q s i t : ℕ) (all : Bool) → s < length m.states → q < length plan.targets → IsStep c g plan (at s) i (at t) → ((at s).place ≡ q → Pursues c g plan (at s) (at t)) → IsPending c (row_at g (at t)) all (target_at plan q) → Below (far q) rank_of t s
  falls q s i t all lt lq step here pending = elim (ℕ_discrete ((at s).place) q) [ yes e ↦ pursued q s t all lt lq pending (here e) | no ne ↦ elim (step_case s i t step) [ inl x ↦ pursued q s t all lt lq pending x | inr x ↦ moved_on q s t all lt lq ne pending x ] ]

  some_next : (s i h : ℕ) (side : Side) → s < length m.states → part_of c i ≡ Next false side h → Has (row_at g (at s)) i → IsSomeNext c g ((at s).node) i side h
  some_next s i h side lt p has = record { node = un.nodes s lt; member = has; part = p }

  -- what AXs u brings to the state after a move, and EXs u after its own
  brought : (s i h u t : ℕ) (side : Side) (weak : Bool) (f q : ℕ) → s < length m.states → part_of c u ≡ Until true weak f q → part_of c i ≡ Next false side h → Has (row_at g (at s)) i → Has (row_at g (at s)) (after c side u) → IsStep c g plan (at s) i (at t) → Has (row_at g (at t)) u
  brought s i h u t side weak f q lt p e has there step = ok.keeps (g.next_or ((at s).node) i) ((at t).node) u step.child ((ok.seeded ((at s).node) i h side (some_next s i h side lt e has) u).1 (inr (after c side u, next_part u f q true weak side p, there)))

  own : (s i u t : ℕ) (side : Side) → s < length m.states → part_of c i ≡ Next false side u → Has (row_at g (at s)) i → IsStep c g plan (at s) i (at t) → Has (row_at g (at t)) u
  own s i u t side lt e has step = ok.keeps (g.next_or ((at s).node) i) ((at t).node) u step.child ((ok.seeded ((at s).node) i u side (some_next s i u side lt e has) u).1 (inl refl))

  side_of : (s t : ℕ) → Reaches m s t → (side : Side) × HasMove m side s t
  side_of s t (inl a) = (A, a)
  side_of s t (inr b) = (B, b)

  reach : (side : Side) (s t : ℕ) → HasMove m side s t → Reaches m s t
  reach A s t h = inl h
  reach B s t h = inr h

  by_side : (row : ℕ → Bool) (u : ℕ) → Has row (after c A u) → Has row (after c B u) → (side : Side) → Has row (after c side u)
  by_side row u x y A = x
  by_side row u x y B = y

  some_side : (row : ℕ → Bool) (u : ℕ) → Has row (after c A u) ⊎ Has row (after c B u) → (side : Side) × Has row (after c side u)
  some_side row u (inl x) = (A, x)
  some_side row u (inr y) = (B, y)

  -- what is true of a member wherever a row has it
  abbrev AreTrue : ℕ → Type 0
  AreTrue i = (s : ℕ) → s < length m.states → Has (row_at g (at s)) i → IsTrueAt m c s i

  module _ (u f second : ℕ) (first_true : AreTrue f) (second_true : AreTrue second) where
    abbrev F : ℕ → Type 0
    F s = Holds m (form_of c f) s

    abbrev Q : ℕ → Type 0
    Q s = Holds m (form_of c second) s

    decided : AreDecided m F Q
    decided = are_decided m un.goes_on (form_of c f) (form_of c second)

    unmet_each : (weak : Bool) → part_of c u ≡ Until true weak f second → (s : ℕ) → s < length m.states → Has (row_at g (at s)) u → (Has (row_at g (at s)) second → ⊥) → Has (row_at g (at s)) f × ((side : Side) → Has (row_at g (at s)) (after c side u))
    unmet_each weak p s lt has none = elim (meets s lt u (Until true weak f second) p (is_until u f second true weak p) has) [ inl y ↦ absurd (none y) | inr v ↦ (v.0, by_side (row_at g (at s)) u v.1 v.2) ]

    unmet_some : (weak : Bool) → part_of c u ≡ Until false weak f second → (s : ℕ) → s < length m.states → Has (row_at g (at s)) u → (Has (row_at g (at s)) second → ⊥) → Has (row_at g (at s)) f × ((side : Side) × Has (row_at g (at s)) (after c side u))
    unmet_some weak p s lt has none = elim (meets s lt u (Until false weak f second) p (is_until u f second false weak p) has) [ inl y ↦ absurd (none y) | inr v ↦ (v.0, some_side (row_at g (at s)) u v.1) ]

    -- weak untils
    each_unless : part_of c u ≡ Until true true f second → (n s : ℕ) → s < length m.states → Has (row_at g (at s)) u → Round m true true F Q n s
    each_unless p = round_greatest m un.goes_on true F Q (λ s. Has (row_at g (at s)) u) (λ s lt has. elim (decided_has (row_at g (at s) second)) [ inl y ↦ inl (second_true s lt y) | inr none ↦ (let v = unmet_each true p s lt has none in inr (first_true s lt v.0, λ t step. let x = side_of s t step in let y = un.steps s lt x.0 t x.1 in brought s y.0 y.1 u t x.0 true f second lt p y.2 y.3 (v.1 x.0) y.4)) ])

    some_unless : part_of c u ≡ Until false true f second → (n s : ℕ) → s < length m.states → Has (row_at g (at s)) u → Round m false true F Q n s
    some_unless p = round_greatest m un.goes_on false F Q (λ s. Has (row_at g (at s)) u) (λ s lt has. elim (decided_has (row_at g (at s) second)) [ inl y ↦ inl (second_true s lt y) | inr none ↦ (let v = unmet_some true p s lt has none in let e = next_part u f second false true v.1.0 p in let y = un.goes s lt (after c v.1.0 u) u v.1.0 e v.1.1 in inr (first_true s lt v.0, (y.0, reach v.1.0 s y.0 y.1, own s (after c v.1.0 u) u y.0 v.1.0 lt e v.1.1 y.2))) ])

    -- a strong until is met at the state, or pends there
    abbrev Later : Bool → ℕ → Type 0
    Later all s = s < length m.states → Has (row_at g (at s)) u → InRounds m all false F Q s

    later : (all : Bool) (x s t : ℕ) → target_at plan x ≡ u → part_of c u ≡ Until all false f second → t < length m.states → Has (row_at g (at t)) u → (IsPending c (row_at g (at t)) all (target_at plan x) → Below (far x) rank_of t s) → ((t' : ℕ) → Below (far x) rank_of t' s → Later all t') → InRounds m all false F Q t
    later all x s t e p lt has below ih = elim (decided_has (row_at g (at t) second)) [ inl y ↦ (let z : (n : ℕ) × Round m all false F Q n t = (0, second_true t lt y) in z) | inr none ↦ ih t (below (subst (λ v. IsPending c (row_at g (at t)) all v) (sym e) (f, second, p, has, none))) lt has ]

    pending_here : (all : Bool) (x s : ℕ) → target_at plan x ≡ u → part_of c u ≡ Until all false f second → Has (row_at g (at s)) u → (Has (row_at g (at s)) second → ⊥) → (at s).place ≡ x → Pends c g plan all (at s)
    pending_here all x s e p has none here = subst (λ v. IsPending c (row_at g (at s)) all v) (sym (ap (λ y. target_at plan y) here ∙ e)) (f, second, p, has, none)

    each_until : part_of c u ≡ Until true false f second → (s : ℕ) → s < length m.states → Has (row_at g (at s)) u → InRounds m true false F Q s
    each_until p = descend (far goal.0) rank_of (Later true) step
      where
        goal : (x : ℕ) × (x < length plan.targets) × (target_at plan x ≡ u)
        goal = un.targets u f second true (is_until u f second true false p) p

        step : (s : ℕ) → ((t : ℕ) → Below (far goal.0) rank_of t s → Later true t) → Later true s
        step s ih lt has = elim (decided_has (row_at g (at s) second)) [ inl y ↦ (0, second_true s lt y) | inr none ↦ (let v = unmet_each false p s lt has none in stage_in m un.goes_on true false F Q decided s lt (inr (first_true s lt v.0, λ t move. go t v.1 none (side_of s t move)))) ]
          where
            go : (t : ℕ) → ((side : Side) → Has (row_at g (at s)) (after c side u)) → (Has (row_at g (at s)) second → ⊥) → ((side : Side) × HasMove m side s t) → InRounds m true false F Q t
            go t afters none x = let y = un.steps s lt x.0 t x.1 in later true goal.0 s t goal.2 p (un.goes_on.within x.0 s t x.1) (brought s y.0 y.1 u t x.0 false f second lt p y.2 y.3 (afters x.0) y.4) (falls goal.0 s y.0 t true lt goal.1 y.4 (λ here. y.4.each (pending_here true goal.0 s goal.2 p has none here))) ih

    some_until : part_of c u ≡ Until false false f second → (s : ℕ) → s < length m.states → Has (row_at g (at s)) u → InRounds m false false F Q s
    some_until p = descend (far goal.0) rank_of (Later false) step
      where
        goal : (x : ℕ) × (x < length plan.targets) × (target_at plan x ≡ u)
        goal = un.targets u f second false (is_until u f second false false p) p

        step : (s : ℕ) → ((t : ℕ) → Below (far goal.0) rank_of t s → Later false t) → Later false s
        step s ih lt has = elim (decided_has (row_at g (at s) second)) [ inl y ↦ (0, second_true s lt y) | inr none ↦ stage_in m un.goes_on false false F Q decided s lt (inr (first_true s lt (unmet_some false p s lt has none).0, next none (ℕ_discrete ((at s).place) goal.0))) ]
          where
            -- along the member i, some EXs u
            go : (i : ℕ) (side : Side) → part_of c i ≡ Next false side u → Has (row_at g (at s)) i → (Has (row_at g (at s)) second → ⊥) → ((at s).place ≡ goal.0 → IsKeptBy g plan (at s) i) → (t : ℕ) × Reaches m s t × InRounds m false false F Q t
            go i side e there none kept = let y = un.goes s lt i u side e there in (y.0, reach side s y.0 y.1, later false goal.0 s y.0 goal.2 p (un.goes_on.within side s y.0 y.1) (own s i u y.0 side lt e there y.2) (falls goal.0 s i y.0 false lt goal.1 y.2 (λ here. y.2.kept (pending_here false goal.0 s goal.2 p has none here) (kept here))) ih)

            next : (Has (row_at g (at s)) second → ⊥) → Dec ((at s).place ≡ goal.0) → (t : ℕ) × Reaches m s t × InRounds m false false F Q t
            next none (yes here) = let x = un.keep s lt (pending_here false goal.0 s goal.2 p has none here) in let z : target plan (at s) ≡ u = ap (λ y. target_at plan y) here ∙ goal.2 in let e : plan.keep (at s) ≡ after c x.0 u = x.1 ∙ ap (λ v. after c x.0 v) z in go (plan.keep (at s)) x.0 (subst (λ v. part_of c v ≡ Next false x.0 u) (sym e) (next_part u f second false false x.0 p)) x.2 none (λ _. refl)
            next none (no n) = let v = (unmet_some false p s lt has none).1 in go (after c v.0 u) v.0 (next_part u f second false false v.0 p) v.1 none (λ here. absurd (n here))

    rounds : (all weak : Bool) → part_of c u ≡ Until all weak f second → (s : ℕ) → s < length m.states → Has (row_at g (at s)) u → InRounds m all weak F Q s
    rounds true true p s lt has = λ n. each_unless p n s lt has
    rounds false true p s lt has = λ n. some_unless p n s lt has
    rounds true false p s lt has = each_until p s lt has
    rounds false false p s lt has = some_until p s lt has

    until_true : (all weak : Bool) → part_of c u ≡ Until all weak f second → AreTrue u
    until_true all weak p s lt has = subst (λ x. Holds m x s) (sym (form_by u (Until all weak f second) (is_until u f second all weak p) p)) (along_from m un.goes_on all weak F Q s lt (rounds all weak p s lt has))

  next_true : (i h : ℕ) (all : Bool) (side : Side) → part_of c i ≡ Next all side h → AreTrue h → AreTrue i
  next_true i h false side p t s lt has = subst (λ x. Holds m x s) (sym (form_by i (Next false side h) (is_next i h false side p) p)) (let y = un.goes s lt i h side p has in (y.0, y.1, t y.0 (un.goes_on.within side s y.0 y.1) (own s i h y.0 side lt p has y.2)))
  next_true i h true side p t s lt has = subst (λ x. Holds m x s) (sym (form_by i (Next true side h) (is_next i h true side p) p)) (λ v move. let y = un.steps s lt side v move in t v (un.goes_on.within side s v move) (ok.keeps (g.next_or ((at s).node) y.0) ((at v).node) h y.4.child ((ok.seeded ((at s).node) y.0 y.1 side (some_next s y.0 y.1 side lt y.2 y.3) h).1 (inr (i, p, has)))))

  both_true : (i f q : ℕ) → part_of c i ≡ Both f q → AreTrue f → AreTrue q → AreTrue i
  both_true i f q p tf tq s lt has =
      let small = member i (Both f q) p (λ e. let x : Yes ≡ Both f q = e in cc) in
      let v = meets s lt i (Both f q) p small has in
      subst (λ x. Holds m x s) (sym (form_by i (Both f q) small p)) (tf s lt v.0, tq s lt v.1)

  either_true : (i f q : ℕ) → part_of c i ≡ Either f q → AreTrue f → AreTrue q → AreTrue i
  either_true i f q p tf tq s lt has =
      let small = member i (Either f q) p (λ e. let x : Yes ≡ Either f q = e in cc) in
      subst (λ x. Holds m x s) (sym (form_by i (Either f q) small p)) (elim (meets s lt i (Either f q) p small has) [ inl x ↦ inl (tf s lt x) | inr y ↦ inr (tq s lt y) ])

  plain_true : (i : ℕ) (part : Part) → part_of c i ≡ part → IsPlainPart part → AreTrue i
  plain_true i part p plain s lt has = elim (dec_lt i (count c)) [
    | yes small ↦ subst (λ x. Holds m x s) (sym (form_by i part small p)) (right_part m s (g.label (at s).node) (un.labels s lt) (forms_of c.parts) part plain (subst (λ x. is_wrong (g.label (at s).node) x ≡ false) p (ok.literals (at s).node i (un.nodes s lt) small has)))
    | no big ↦ past_true m c i s (omega (arith, big))
  ]

  below_of : (i : ℕ) (part : Part) → part_of c i ≡ part → i < count c → IsBelow i part
  below_of i part p small = subst (λ x. IsBelow i x) p (k.numbering.rising i small)

  member_true : (i : ℕ) → ((j : ℕ) → j < i → AreTrue j) → (part : Part) → part_of c i ≡ part → AreTrue i
  member_true i ih Yes p s lt has = plain_true i Yes p tt s lt has
  member_true i ih No p s lt has = plain_true i No p tt s lt has
  member_true i ih (Lit side local is) p s lt has = plain_true i (Lit side local is) p tt s lt has
  member_true i ih (Both f q) p s lt has = let b = below_of i (Both f q) p (member i (Both f q) p (λ e. let x : Yes ≡ Both f q = e in cc)) in both_true i f q p (ih f b.0) (ih q b.1) s lt has
  member_true i ih (Either f q) p s lt has = let b = below_of i (Either f q) p (member i (Either f q) p (λ e. let x : Yes ≡ Either f q = e in cc)) in either_true i f q p (ih f b.0) (ih q b.1) s lt has
  member_true i ih (Next all side f) p s lt has = next_true i f all side p (ih f (below_of i (Next all side f) p (is_next i f all side p))) s lt has
  member_true i ih (Until all weak f q) p s lt has = let b = below_of i (Until all weak f q) p (is_until i f q all weak p) in until_true i f q (ih f b.0) (ih q b.1) all weak p s lt has

  true_below : (n i : ℕ) → i < n → AreTrue i
  true_below zero i lt = absurd (omega (arith, lt))
  true_below (suc n) i lt = member_true i (λ j l. true_below n j (omega (arith, l, lt))) (part_of c i) refl

pub rows_are_true : RowsAreTrueOfGraph
rows_are_true c k g ok m plan at un s i lt has = true_below c k g ok m plan at un (suc i) i (omega arith) s lt has
