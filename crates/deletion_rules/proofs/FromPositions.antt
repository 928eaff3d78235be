-- Positions with moves between them that are steps of an unravelling make a structure over the roles.
use Rattle.std.proofs.Common.{ℕ, ◌≡◌, ◌<◌, ◌≤◌, inl, inr, Bool, false, Option, Some, List, Contains, length, map, arith, ◌∙◌, ap, slice_index_or}
use Rattle.std.proofs.lemmas.List.Elements.{Contains-get_or}
use Rattle.std.proofs.lemmas.List.{get_or-map, length-map}
use Rattle.std.proofs.lemmas.Option.{slice_get-get_or}
use Rattle.pair_structure.proofs.FirstState.{one_state}
use Rattle.pair_structure.specs.Role.{RoleParts, HasOneStart, first_start}
use Rattle.pair_structure.specs.Structure.{Structure, HasMove, GoesOn, IsLawfulMove, IsOver, IsRising, label_at}
use Rattle.pair_structure.specs.declared.side.Move.{Move}
use Rattle.pair_structure.specs.declared.side.Side.{Side}
use Rattle.pair_structure.specs.declared.side.Side.TheVariants.{A, B}
use Rattle.ctl_form.specs.declared.part.Part.TheVariants.{Next}
use Rattle.closure_sets.specs.ClosureParts.{ClosureParts, IsClosureParts, some_move}
use Rattle.closure_sets.specs.Full.{Has}
use Rattle.closure_sets.specs.Label.{part_of}
use Rattle.tableau_graph.specs.Rules.{Follows}
use Rattle.tableau_graph.specs.Graph.{Graph, IsGraph, IsSomeNext, FollowArcs}
use Rattle.deletion_rules.specs.Deletion.{IsKept}
use Rattle.deletion_rules.specs.inside.Picking.{IsGood, IsPlan}
use Rattle.deletion_rules.specs.Unravel.{HasTargets, Plan, IsStep, IsUnravelled, row_at}
use Rattle.deletion_rules.specs.declared.position.Position.{Position}

-- what a move between positions is: a step that some EXs h gives
pub record IsLead (c : ClosureParts) (g : Graph) (plan : Plan) (p : Position) (side : Side) (q : Position) (i h : ℕ) : Type 0 where
  pub some : IsSomeNext c g p.node i side h
  pub step : IsStep c g plan p i q

abbrev pub Leads : ClosureParts → Graph → Plan → Position → Side → Position → Type 0
Leads c g plan p side q = (i : ℕ) × (h : ℕ) × IsLead c g plan p side q i h

module _ (a b : RoleParts) (c : ClosureParts) (k : IsClosureParts c) (g : Graph) (ok : IsGraph c g) (arcs : FollowArcs a b c g) (lives : ℕ → Bool) (rank : ℕ → ℕ → Option ℕ) (kept : IsKept c g lives rank) (plan : Plan) (planned : IsPlan c g lives rank plan) (targets : HasTargets c plan) (size : ℕ) (sized : 0 < length plan.targets → size ≤ length plan.targets) (nowhere : Position) (all : List Position) (moves : List Move) where
  abbrev at : ℕ → Position
  at s = slice_index_or all s nowhere

  abbrev pub whole_of : Structure
  whole_of = record { states = map (λ (p : Position). g.label p.node) all; moves = moves }

  module _ (one_a : HasOneStart a) (one_b : HasOneStart b) (starts : g.label (at 0).node ≡ (first_start a, first_start b)) (some : 0 < length all) (good : (s : ℕ) → s < length all → IsGood a b g lives size (at s)) (rising : IsRising moves) (links : (x : Move) → Contains moves x → (x.from < length all) × (x.to < length all) × Leads c g plan (at x.from) x.side (at x.to)) (goes : (s i h : ℕ) (side : Side) → s < length all → IsSomeNext c g (at s).node i side h → (t : ℕ) × (t < length all) × Contains moves (record { from = s; side = side; to = t }) × IsStep c g plan (at s) i (at t)) where
    long : length whole_of.states ≡ length all
    long = length-map all (λ (p : Position). g.label p.node)

    label_read : (s : ℕ) → s < length all → label_at whole_of.states s ≡ g.label (at s).node
    label_read s lt = get_or-map (λ (p : Position). g.label p.node) all s nowhere (0, 0) lt

    within : (s : ℕ) → s < length whole_of.states → s < length all
    within s lt = omega (arith, lt, long)

    node_in : (s : ℕ) → s < length all → (at s).node < g.ands
    node_in s lt = kept.nodes (at s).node (good s lt).living

    go : (s : ℕ) → s < length whole_of.states → (i h : ℕ) (side : Side) → part_of c i ≡ Next false side h → Has (row_at g (at s)) i → (t : ℕ) × HasMove whole_of side s t × IsStep c g plan (at s) i (at t)
    go s lt i h side part has = let u = goes s i h side (within s lt) (record { node = node_in s (within s lt); member = has; part = part }) in (u.0, u.2, u.3)

    steps : (s : ℕ) → s < length whole_of.states → (side : Side) (t : ℕ) → HasMove whole_of side s t → (i : ℕ) × (h : ℕ) × (part_of c i ≡ Next false side h) × Has (row_at g (at s)) i × IsStep c g plan (at s) i (at t)
    steps s lt side t h = let u = links (record { from = s; side = side; to = t }) h in let v = u.2 in (v.0, v.1, v.2.some.part, v.2.some.member, v.2.step)

    has_move : (s : ℕ) → s < length whole_of.states → (side : Side) → Has (row_at g (at s)) (some_move c side) → (t : ℕ) × HasMove whole_of side s t
    has_move s lt side has = let n = k.moves.3 side in let u = go s lt (some_move c side) k.moves.0 side n.1 has in (u.0, u.1)

    goes_on : GoesOn whole_of
    goes_on = record {
      leaves = λ side s t h. (let u = links (record { from = s; side = side; to = t }) h in omega (arith, u.0, long));
      within = λ side s t h. (let u = links (record { from = s; side = side; to = t }) h in omega (arith, u.1, long));
      onward = λ s lt. elim (ok.full (at s).node (node_in s (within s lt))).onward [ inl x ↦ (let u = has_move s lt A x in (u.0, inl u.1)) | inr y ↦ (let u = has_move s lt B y in (u.0, inr u.1)) ];
    }

    placed : (s : ℕ) → s < length whole_of.states → 0 < length plan.targets → (at s).place < length plan.targets
    placed s lt turns = let l = (good s (within s lt)).place in let le = sized turns in omega (arith, l, le)

    pub unravelled_of : IsUnravelled c g whole_of plan at
    unravelled_of = record {
      goes_on = goes_on;
      targets = targets;
      nodes = λ s lt. node_in s (within s lt);
      placed = placed;
      labels = λ s lt. slice_get-get_or whole_of.states s (0, 0) lt ∙ ap (λ l. Some l) (label_read s (within s lt));
      steps = steps;
      goes = go;
      keep = λ s lt x. (let u = planned.keeps (at s) (good s (within s lt)).living x in (u.0, u.1, u.2));
    }

    follows : (x : Move) → Contains moves x → Follows a b x.side (g.label (at x.from).node) (g.label (at x.to).node)
    follows x h = let v = (links x h).2 in arcs (at x.from).node v.0 v.1 (at x.to).node x.side v.2.some v.2.step.child

    lawful : (x : Move) → Contains moves x → IsLawfulMove a b whole_of.states x
    lawful x h = let u = links x h in let f = follows x h in record { from = omega (arith, u.0, long); to = omega (arith, u.1, long); arc = rw (label_read x.from u.0, label_read x.to u.1) f.0; stays = rw (label_read x.from u.0, label_read x.to u.1) f.1 }

    pub over_of : IsOver a b whole_of
    over_of = record {
      some = omega (arith, some, long);
      starts = one_state a b whole_of.states one_a one_b (slice_get-get_or whole_of.states 0 (0, 0) (omega (arith, some, long)) ∙ ap (λ l. Some l) (label_read 0 some ∙ starts));
      labels = λ s d lt. (let l : s < length all = omega (arith, lt, long) in rw (get_or-map (λ (p : Position). g.label p.node) all s nowhere d l) (good s l).label);
      lawful = λ n d lt. lawful (slice_index_or moves n d) (Contains-get_or moves n d lt);
      rising = rising;
      goes_on = goes_on;
    }
