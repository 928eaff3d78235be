-- What has grown until no state was left makes a structure that satisfies the conjuncts.
use Rattle.std.proofs.Common.{ℕ, ◌≡◌, ◌<◌, ◌≤◌, ◌↔◌, inl, List, All, Contains, length, map, arith, ap, ◌∙◌}
use Rattle.std.proofs.lemmas.List.{length-map}
use Rattle.std.proofs.lemmas.List.Elements.{All-from_get_or}
use Rattle.pair_structure.specs.Role.{RoleParts, first_start}
use Rattle.pair_structure.specs.Structure.{IsOver, IsPairStructure, IsRising, Structure}
use Rattle.pair_structure.specs.declared.side.Move.{Move}
use Rattle.pair_structure.specs.declared.side.Side.{Side}
use Rattle.tableau_graph.specs.Graph.{FollowArcs, IsGraph, IsSomeNext, TableauIsGraph, graph_of}
use Rattle.tableau_graph.proofs.Expanded.{tableau_follows_arcs, tableau_starts}
use Rattle.deletion_rules.specs.Pruned.{RankParts, lives_at, rank_at}
use Rattle.deletion_rules.specs.Satisfying.{Satisfies, UnravelledSatisfies}
use Rattle.deletion_rules.specs.Unravel.{HasTargets, IsStep, IsUnravelled, Plan}
use Rattle.deletion_rules.specs.inside.Picking.{IsPlan}
use Rattle.deletion_rules.specs.declared.position.Position.{Position}
use Rattle.deletion_rules.proofs.FromPositions.{Leads, over_of, unravelled_of}
use Rattle.unravel.specs.inside.Alive.{IsAlive}
use Rattle.unravel.specs.inside.Choice.{member_of, plan_of}
use Rattle.unravel.specs.inside.Growing.{IsGrown, labels_of, nowhere, position_at}
use Rattle.unravel.specs.inside.Pursuit.{AreAllTargets}
use Rattle.unravel.specs.inside.Targets.{places}
use Rattle.deletion_rules.specs.declared.target.Target.{Target}
use Rattle.unravel.proofs.Plans.{has_targets, is_plan}

-- equal parts are a structure over equal roles
pub over_same : (a a' b b' : RoleParts) (states states' : List (ℕ × ℕ)) (moves moves' : List Move) → a' ≡ a → b' ≡ b → states' ≡ states → moves' ≡ moves → IsPairStructure a b states moves → IsPairStructure a' b' states' moves'
over_same a a' b b' states states' moves moves' ea eb es em h = rw (ea, eb, es, em) h

abbrev structure_of : List (ℕ × ℕ) → List Move → Structure
structure_of states moves = record { states = states; moves = moves }

pub same_parts : (states states' : List (ℕ × ℕ)) (moves moves' : List Move) → states ≡ states' → moves ≡ moves' → ◌≡◌ {A = Structure} (record { states = states; moves = moves }) (record { states = states'; moves = moves' })
same_parts states states' moves moves' es em = ap (λ ss. structure_of ss moves) es ∙ ap (structure_of states') em

-- the positions' nodes are nodes
pub nodes_within : (r : RankParts) → IsAlive r → (targets : List Target) (positions : List Position) (moves : List Move) → IsGrown r targets (length positions) 0 positions moves → All (λ (p : Position). p.node < length r.tableau.ands) positions
nodes_within r alive targets positions moves grown = All-from_get_or (λ (p : Position). p.node < length r.tableau.ands) positions nowhere (λ s lt. alive.kept.nodes (position_at positions s).node (grown.good s lt).living)

module _ (is : TableauIsGraph) (r : RankParts) (alive : IsAlive r) (targets : List Target) (are : AreAllTargets r targets) (positions : List Position) (moves : List Move) (grown : IsGrown r targets (length positions) 0 positions moves) (arranged : List Move) (rising : IsRising arranged) (same : (move : Move) → Contains arranged move ↔ Contains moves move) where
  abbrev pub whole : Structure
  whole = record { states = labels_of r.tableau positions; moves = arranged }

  abbrev plan : Plan
  plan = plan_of r targets

  graph : IsGraph r.tableau.closure (graph_of r.tableau)
  graph = is r.tableau alive.tableau

  arcs : FollowArcs r.tableau.a r.tableau.b r.tableau.closure (graph_of r.tableau)
  arcs = tableau_follows_arcs r.tableau alive.tableau

  planned : IsPlan r.tableau.closure (graph_of r.tableau) (lives_at r) (rank_at r) plan
  planned = is_plan r alive targets

  turns : HasTargets r.tableau.closure plan
  turns = has_targets r alive targets are

  sized : 0 < length plan.targets → places targets ≤ length plan.targets
  sized some = let e : length (map member_of targets) ≡ length targets = length-map targets member_of in omega (arith, e, some)

  starts : (graph_of r.tableau).label (position_at positions 0).node ≡ (first_start r.tableau.a, first_start r.tableau.b)
  starts = tableau_starts r.tableau alive.tableau (position_at positions 0).node grown.first

  links : (x : Move) → Contains arranged x → (x.from < length positions) × (x.to < length positions) × Leads r.tableau.closure (graph_of r.tableau) plan (position_at positions x.from) x.side (position_at positions x.to)
  links x h = let m = grown.steps x ((same x).0 h) in (m.from, m.to, (m.link.0, m.link.1, record { some = m.link.2.some; step = m.link.2.step }))

  goes : (s i h : ℕ) (side : Side) → s < length positions → IsSomeNext r.tableau.closure (graph_of r.tableau) (position_at positions s).node i side h → (t : ℕ) × (t < length positions) × Contains arranged (record { from = s; side = side; to = t }) × IsStep r.tableau.closure (graph_of r.tableau) plan (position_at positions s) i (position_at positions t)
  goes s i h side lt some = let u = grown.goes s i h side lt (inl lt) some in (u.0, u.1.to, (same (record { from = s; side = side; to = u.0 })).1 u.1.move, u.1.step)

  pub whole_over : IsOver r.tableau.a r.tableau.b whole
  whole_over = over_of r.tableau.a r.tableau.b r.tableau.closure alive.tableau.rules.closure (graph_of r.tableau) graph arcs (lives_at r) (rank_at r) alive.kept plan planned turns (places targets) sized nowhere positions arranged alive.tableau.rules.one_a alive.tableau.rules.one_b starts grown.some grown.good rising links goes

  whole_unravelled : IsUnravelled r.tableau.closure (graph_of r.tableau) whole plan (position_at positions)
  whole_unravelled = unravelled_of r.tableau.a r.tableau.b r.tableau.closure alive.tableau.rules.closure (graph_of r.tableau) graph arcs (lives_at r) (rank_at r) alive.kept plan planned turns (places targets) sized nowhere positions arranged alive.tableau.rules.one_a alive.tableau.rules.one_b starts grown.some grown.good rising links goes

  pub whole_satisfies : UnravelledSatisfies → Satisfies r.tableau.a r.tableau.b r.tableau.closure whole
  whole_satisfies law = law r.tableau alive.tableau whole plan (position_at positions) whole_over whole_unravelled grown.first
