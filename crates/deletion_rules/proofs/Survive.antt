-- A node that a state meets is supported.
use Rattle.std.proofs.Common.{ℕ, zero, suc, ◌≡◌, ◌⊎◌, ◌<◌, inl, inr, Bool, true, false, Contains, length, refl, subst, sym}
use Rattle.pair_structure.specs.Role.{RoleParts}
use Rattle.pair_structure.specs.Structure.{Structure, HasMove, Reaches, GoesOn, IsOver}
use Rattle.pair_structure.specs.declared.side.Side.{Side}
use Rattle.pair_structure.specs.declared.side.Side.TheVariants.{A, B}
use Rattle.ctl_form.specs.Truth.{Holds}
use Rattle.ctl_form.specs.declared.part.Part.TheVariants.{Next, Until}
use Rattle.ctl_form.proofs.Along.{along_to, along_from}
use Rattle.ctl_form.proofs.TruthDecided.{decided_truth, are_decided}
use Rattle.closure_sets.specs.ClosureParts.{ClosureParts, IsClosureParts, after}
use Rattle.closure_sets.specs.Cover.{IsTrueAt}
use Rattle.closure_sets.specs.Full.{Has, MeetsPart}
use Rattle.closure_sets.specs.Label.{part_of, form_of}
use Rattle.closure_sets.proofs.Closures.{until_lt, until_form, next_form, after_part}
use Rattle.tableau_graph.specs.Graph.{Graph, IsGraph, IsSomeNext, ChildrenCover, HasMetChild}
use Rattle.deletion_rules.specs.Deletion.{SomeChild, LivesOr, Fulfilled, IsStrong, IsSupported}
use Rattle.deletion_rules.proofs.GraphLaws.{MetAreSupportedOfGraph, RanksAreBoundedOfGraph}
use Rattle.deletion_rules.specs.Met.{Meets, MetLive, RoundOf}
use Rattle.deletion_rules.proofs.Choice.{chosen_at, chosen_lawful, chosen_shortest}
use Rattle.deletion_rules.specs.Targets.{target_with}
use Rattle.deletion_rules.specs.declared.target.Target.{Target}

-- a row that is full meets its untils
pub full_until : (c : ClosureParts) → IsClosureParts c → (g : Graph) → IsGraph c g → (n u f second : ℕ) (all weak : Bool) → n < g.ands → part_of c u ≡ Until all weak f second → Has (g.row n) u → MeetsPart c (g.row n) u (Until all weak f second)
full_until c k g ok n u f second all weak node p has = subst (MeetsPart c (g.row n) u) p ((ok.full n node).meets u (until_lt c u f second all weak p) has)

module _ (a b : RoleParts) (c : ClosureParts) (k : IsClosureParts c) (g : Graph) (ok : IsGraph c g) (cover : ChildrenCover a b c g) (lives : ℕ → Bool) (live : MetLive a b c g lives) (m : Structure) (over : IsOver a b m) where
  on : GoesOn m
  on = over.goes_on

  -- a state after a move meets a living child of the successor, if it has what the successor is for
  next_met : (s n i h : ℕ) (side : Side) → s < length m.states → Meets m c g s n → IsSomeNext c g n i side h → (t : ℕ) → HasMove m side s t → IsTrueAt m c t h → SomeChild g lives (g.next_or n i) (Meets m c g t)
  next_met s n i h side lt meets some t step holds = (u.0, u.1, live m over t u.0 lt' met, met)
    where
      lt' : t < length m.states
      lt' = on.within side s t step

      ch : ℕ → Side
      ch = chosen_at m on c k t lt'

      seeded : (j : ℕ) → (j ≡ h) ⊎ ((x : ℕ) × (part_of c x ≡ Next true side j) × Has (g.row n) x) → IsTrueAt m c t j
      seeded j (inl e) = subst (λ x. IsTrueAt m c t x) (sym e) holds
      seeded j (inr v) = (subst (λ x. Holds m x s) (next_form c k v.0 j true side v.1) (meets.met.holds v.0 v.2)) t step

      u : HasMetChild c g m ch (g.next_or n i) t
      u = cover m over n i h side some s t meets.label step (λ j e. seeded j ((ok.seeded n i h side some j).0 e)) ch (chosen_lawful m on c k t lt')

      met : Meets m c g t u.0
      met = record { node = ok.within (g.next_or n i) u.0 u.1; label = u.2; chosen = ch; lawful = chosen_lawful m on c k t lt'; shortest = chosen_shortest m on c k t lt'; met = u.3 }

  -- what AXs x brings to each child of a successor of side s
  brought : (n i h x y child : ℕ) (side : Side) → IsSomeNext c g n i side h → part_of c y ≡ Next true side x → Has (g.row n) y → Contains (g.children (g.next_or n i)) child → Has (g.row child) x
  brought n i h x y child side some q has' there = ok.keeps (g.next_or n i) child x there ((ok.seeded n i h side some x).1 (inr (y, q, has')))

  reach : (side : Side) (s t : ℕ) → HasMove m side s t → Reaches m s t
  reach A s t h = inl h
  reach B s t h = inr h

  after_of : (n u : ℕ) → Has (g.row n) (after c A u) → Has (g.row n) (after c B u) → (side : Side) → Has (g.row n) (after c side u)
  after_of n u x y A = x
  after_of n u x y B = y

  stage_each : (u f second n s d : ℕ) → part_of c u ≡ Until true false f second → s < length m.states → Meets m c g s n → Has (g.row n) u → ((t : ℕ) → Reaches m s t → RoundOf m c true f second d t) → ((t child : ℕ) → t < length m.states → Meets m c g t child → Has (g.row child) u → RoundOf m c true f second d t → Fulfilled c g lives (target_with true u f second) d child) → Fulfilled c g lives (target_with true u f second) (suc d) n
  stage_each u f second n s d p lt meets has each again = by (full_until c k g ok n u f second true false meets.node p has)
    where
      child_of : ((side : Side) → Has (g.row n) (after c side u)) → (i h : ℕ) (side : Side) → IsSomeNext c g n i side h → SomeChild g lives (g.next_or n i) (Fulfilled c g lives (target_with true u f second) d)
      child_of afters i h side some =
          let w = subst (λ x. Holds m x s) (next_form c k i h false side some.part) (meets.met.holds i some.member) in
          let v = next_met s n i h side lt meets some w.0 w.1 w.2 in
          (v.0, v.1, v.2, again w.0 v.0 (on.within side s w.0 w.1) v.3 (brought n i h u (after c side u) v.0 side some (after_part c k u f second true false side p) (afters side) v.1) (each w.0 (reach side s w.0 w.1)))

      by : Has (g.row n) second ⊎ (Has (g.row n) f × Has (g.row n) (after c A u) × Has (g.row n) (after c B u)) → Fulfilled c g lives (target_with true u f second) (suc d) n
      by (inl y) = inl y
      by (inr v) = inr (v.0, child_of (after_of n u v.1 v.2))

  -- the second part, where it is true, is in the row
  second_in : (u f second s n : ℕ) (all : Bool) → part_of c u ≡ Until all false f second → Meets m c g s n → Has (g.row n) u → IsTrueAt m c s second → Has (g.row n) second
  second_in u f second s n all p meets has y = meets.met.goal u f second all false (until_lt c u f second all false p) p has y

  -- the rank of A[f U second] is at most its depth
  each_rank : (u f second : ℕ) → part_of c u ≡ Until true false f second → (d s n : ℕ) → s < length m.states → Meets m c g s n → Has (g.row n) u → RoundOf m c true f second d s → Fulfilled c g lives (target_with true u f second) d n
  each_rank u f second p zero s n lt meets has r = second_in u f second s n true p meets has r
  each_rank u f second p (suc d) s n lt meets has (inl y) = inl (second_in u f second s n true p meets has y)
  each_rank u f second p (suc d) s n lt meets has (inr r) = stage_each u f second n s d p lt meets has r.1 (λ t child lt' meets' has' r'. each_rank u f second p d t child lt' meets' has' r')

  stage_some : (u f second n s d : ℕ) → part_of c u ≡ Until false false f second → s < length m.states → Meets m c g s n → Has (g.row n) u → (IsTrueAt m c s second → ⊥) → RoundOf m c false f second (suc d) s → ((t child : ℕ) → t < length m.states → Meets m c g t child → Has (g.row child) u → RoundOf m c false f second d t → Fulfilled c g lives (target_with false u f second) d child) → Fulfilled c g lives (target_with false u f second) (suc d) n
  stage_some u f second n s d p lt meets has none r again = by (full_until c k g ok n u f second false false meets.node p has)
    where
      side : Side
      side = meets.chosen u

      there : Has (g.row n) (after c side u)
      there = meets.met.pursued u f second false (until_lt c u f second false false p) p has none

      some : IsSomeNext c g n (after c side u) side u
      some = record { node = meets.node; member = there; part = after_part c k u f second false false side p }

      w : (t : ℕ) × HasMove m side s t × RoundOf m c false f second d t
      w = meets.shortest u f second p d none r

      lt' : w.0 < length m.states
      lt' = on.within side s w.0 w.1

      v : SomeChild g lives (g.next_or n (after c side u)) (Meets m c g w.0)
      v = next_met s n (after c side u) u side lt meets some w.0 w.1 (subst (λ x. Holds m x w.0) (sym (until_form c k u f second false false p)) (along_from m on false false (Holds m (form_of c f)) (Holds m (form_of c second)) w.0 lt' (d, w.2)))

      has' : Has (g.row v.0) u
      has' = ok.keeps (g.next_or n (after c side u)) v.0 u v.1 ((ok.seeded n (after c side u) u side some u).1 (inl refl))

      by : Has (g.row n) second ⊎ (Has (g.row n) f × (Has (g.row n) (after c A u) ⊎ Has (g.row n) (after c B u))) → Fulfilled c g lives (target_with false u f second) (suc d) n
      by (inl y) = inl y
      by (inr x) = inr (x.0, (side, there, (v.0, v.1, v.2, again w.0 v.0 lt' v.3 has' w.2)))

  -- the rank of E[f U second] is at most its least path
  some_rank : (u f second : ℕ) → part_of c u ≡ Until false false f second → (d s n : ℕ) → s < length m.states → Meets m c g s n → Has (g.row n) u → RoundOf m c false f second d s → Fulfilled c g lives (target_with false u f second) d n
  some_rank u f second p zero s n lt meets has r = second_in u f second s n false p meets has r
  some_rank u f second p (suc d) s n lt meets has r = elim (decided_truth m on (form_of c second) s lt) [ inl y ↦ inl (second_in u f second s n false p meets has y) | inr none ↦ stage_some u f second n s d p lt meets has none r (λ t child lt' meets' has' r'. some_rank u f second p d t child lt' meets' has' r') ]

  pub ranks_are_bounded : (s n : ℕ) → s < length m.states → Meets m c g s n → (u f second : ℕ) (all : Bool) → part_of c u ≡ Until all false f second → Has (g.row n) u → (d : ℕ) → RoundOf m c all f second d s → Fulfilled c g lives (target_with all u f second) d n
  ranks_are_bounded s n lt meets u f second true p has d r = each_rank u f second p d s n lt meets has r
  ranks_are_bounded s n lt meets u f second false p has d r = some_rank u f second p d s n lt meets has r

  fulfilled : (s n : ℕ) → s < length m.states → Meets m c g s n → (u : Target) → IsStrong c g n u → (d : ℕ) × Fulfilled c g lives u d n
  fulfilled s n lt meets u strong =
      let r = along_to m on u.all false (Holds m (form_of c u.f)) (Holds m (form_of c u.g)) (are_decided m on (form_of c u.f) (form_of c u.g)) s lt (subst (λ x. Holds m x s) (until_form c k u.member u.f u.g u.all false strong.part) (meets.met.holds u.member strong.member)) in
      (r.0, ranks_are_bounded s n lt meets u.member u.f u.g u.all strong.part strong.member r.0 r.1)

  successors : (s n : ℕ) → s < length m.states → Meets m c g s n → (i h : ℕ) (side : Side) → IsSomeNext c g n i side h → LivesOr g lives (g.next_or n i)
  successors s n lt meets i h side some = let w = subst (λ x. Holds m x s) (next_form c k i h false side some.part) (meets.met.holds i some.member) in let v = next_met s n i h side lt meets some w.0 w.1 w.2 in (v.0, v.1, v.2, tt)

  pub supported : (s n : ℕ) → s < length m.states → Meets m c g s n → IsSupported c g lives n
  supported s n lt meets = record { successors = successors s n lt meets; fulfilled = fulfilled s n lt meets }

pub met_are_supported : MetAreSupportedOfGraph
met_are_supported a b c k g ok cover lives live m over s n lt meets = supported a b c k g ok cover lives live m over s n lt meets

pub ranks_bounded : RanksAreBoundedOfGraph
ranks_bounded a b c k g ok cover lives live m over s n lt meets u strong d r = ranks_are_bounded a b c k g ok cover lives live m over s n lt meets u.member u.f u.g u.all strong.part strong.member d r
